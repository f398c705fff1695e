use Rattle.std.proofs.Common.{◌-◌, ap, ◌∙◌, rules}
use Rattle.std.proofs.lemmas.Result.{err_from_is_err_and, IfOk-weaker}
use Rattle.term.specs.Check.{bad, check_term}
use Rattle.term.specs.Meaning.{of}
use Rattle.term.proofs.BagSteps.{empty_bag, ends_here, flexible_bag, passed_empty, passed_flexible, passed_single, passed_sum, single_bag, sum_bag, too_deep, unknown}
use Rattle.term.proofs.Cuts.{tail}
use Rattle.term.proofs.check.Checker.+bag.Goals as goal

pub returns-in-empty-clause-value : goal.returns-in-empty-clause-value
returns-in-empty-clause-value t c = ap bad c.ended.ensures ∙ ends_here c.args.self.now c.args.want c.args.bytes.now c.args.depth (search rules)

pub returns-in-48-to-51-clause-value : goal.returns-in-48-to-51-clause-value
returns-in-48-to-51-clause-value t c = ap bad c.refused.ensures ∙ too_deep c.args.self.now c.args.want c.args.bytes.now c.args.depth c.if-depth-eq0.true (search rules) (search rules) (search rules)

pub returns-in-len1-up-clause-value : goal.returns-in-len1-up-clause-value
returns-in-len1-up-clause-value t c = ap bad c.refused-in-len1-up.ensures ∙ unknown c.args.self.now c.args.want c.args.bytes.now c.args.depth (search rules) (λ l u. search rules)

pub returns-in-48-clause-value : goal.returns-in-48-clause-value
returns-in-48-clause-value t c = empty_bag c.args.self.now c.args.want c.args.bytes.now c.args.depth (search rules) (search rules) _ (tail 1 c.args.bytes.now) (search rules)

pub returns-in-48-clause-passed : goal.returns-in-48-clause-passed
returns-in-48-clause-passed t c = passed_empty c.args.self.now c.args.want c.args.bytes.now c.args.depth (search rules) (search rules) _ (tail 1 c.args.bytes.now) (search rules)

pub returns-in-49-clause-value : goal.returns-in-49-clause-value
returns-in-49-clause-value t c = c.term.ensures.value ∙ single_bag c.args.self.now c.args.want c.args.bytes.now c.args.depth (search rules) (search rules) _ (tail 1 c.args.bytes.now) (search rules)

pub returns-in-49-clause-passed : goal.returns-in-49-clause-passed
returns-in-49-clause-passed t c =
    IfOk-weaker c.term.result _ _
    (λ r p. passed_single c.args.self.now c.args.want c.args.bytes.now c.args.depth (search rules) (search rules) _ r.now (tail 1 c.args.bytes.now) (search rules) p) c.term.ensures.passed

pub returns-in_err-rest-in-50-clause-value : goal.returns-in_err-rest-in-50-clause-value
returns-in_err-rest-in-50-clause-value t c =
    let e = err_from_is_err_and c.from_residual.result c.from_residual.ensures.1 in
    rw (e.1, e.2)
    (sum_bag c.args.self.now c.args.want c.args.bytes.now c.args.depth (search rules) (search rules) _ _ (tail 1 c.args.bytes.now) (search rules) c.in_err-rest-in-50.ensures.value)

pub returns-in_ok-rest-in-50-clause-value : goal.returns-in_ok-rest-in-50-clause-value
returns-in_ok-rest-in-50-clause-value t c =
    c.bag-in-50.ensures.value
    ∙ sum_bag c.args.self.now c.args.want c.args.bytes.now c.args.depth (search rules) (search rules) _ _ (tail 1 c.args.bytes.now) (search rules) c.in_ok-rest-in-50.ensures.value

pub returns-in_ok-rest-in-50-clause-passed : goal.returns-in_ok-rest-in-50-clause-passed
returns-in_ok-rest-in-50-clause-passed t c =
    IfOk-weaker c.bag-in-50.result _ _
    (λ r p. passed_sum c.args.self.now c.args.want c.args.bytes.now c.args.depth (search rules) (search rules) _ c.in_ok-rest-in-50.rest.now r.now (tail 1 c.args.bytes.now) (search rules) c.in_ok-rest-in-50.ensures.passed p)
    c.bag-in-50.ensures.passed

pub returns-in_err-argument-in-51-clause-value : goal.returns-in_err-argument-in-51-clause-value
returns-in_err-argument-in-51-clause-value t c =
    let k = c.args.self.now in
    let e = err_from_is_err_and c.from_residual-in_err-argument-in-51.result c.from_residual-in_err-argument-in-51.ensures.1 in
    rw (e.1, e.2)
    (c.in_err-argument-in-51.ensures.value (check_term (of k.signature) k.variables.now k.ends (c.args.depth - 1))
    ∙ flexible_bag k c.args.want c.args.bytes.now c.args.depth (search rules) (search rules) (search rules))

pub returns-in_ok-argument-in-51-clause-value : goal.returns-in_ok-argument-in-51-clause-value
returns-in_ok-argument-in-51-clause-value t c =
    let k = c.args.self.now in
    c.term-in-51.ensures.value ∙ c.in_ok-argument-in-51.ensures.value (check_term (of k.signature) k.variables.now k.ends (c.args.depth - 1))
    ∙ flexible_bag k c.args.want c.args.bytes.now c.args.depth (search rules) (search rules) (search rules)

pub returns-in_ok-argument-in-51-clause-passed : goal.returns-in_ok-argument-in-51-clause-passed
returns-in_ok-argument-in-51-clause-passed t c =
    IfOk-weaker c.term-in-51.result _ _
    (λ r p. passed_flexible c.args.self.now c.args.want c.args.bytes.now c.args.depth (search rules) (search rules) c.in_ok-argument-in-51.argument c.in_ok-argument-in-51.rest.now r.now (search rules) c.in_ok-argument-in-51.ensures.found p) c.term-in-51.ensures.passed
