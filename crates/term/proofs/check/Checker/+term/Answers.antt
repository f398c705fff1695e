use Rattle.std.proofs.Common.{◌∙◌}
use Rattle.std.proofs.lemmas.Result.{err_from_is_err_and, IfOk-weaker}
use Rattle.term.specs.declared.signature.Arguments.TheVariants.{One}
use Rattle.term.proofs.Steps.{asks, binary, leaf, no_front, then_second, unary}
use Rattle.term.proofs.check.Checker.+term.Goals as goal

pub returns-in_err-head-clause-value : goal.returns-in_err-head-clause-value
returns-in_err-head-clause-value t c =
    let e = err_from_is_err_and c.from_residual.result c.from_residual.ensures.1 in
    rw (e.1, e.2) (no_front c.args.self.now c.args.depth c.args.want c.args.bytes.now c.in_err-head.field-0.0 c.in_err-head.ensures.value)

pub returns-in-None-clause-passed : goal.returns-in-None-clause-passed
returns-in-None-clause-passed t c = leaf c.args.self.now c.args.depth c.args.want c.args.bytes.now c.in_ok-head.head c.in_ok-head.ensures.value c.in-None.is

pub returns-in-One-clause-value : goal.returns-in-One-clause-value
returns-in-One-clause-value t c = c.term.ensures.value ∙ asks c.args.self.now c.args.depth c.args.want c.args.bytes.now c.in_ok-head.head c.in_ok-head.ensures.value (One c.in-One.a) c.in-One.is

pub returns-in-One-clause-passed : goal.returns-in-One-clause-passed
returns-in-One-clause-passed t c =
    IfOk-weaker c.term.result _ _
    (λ r p. unary c.args.self.now c.args.depth c.args.want c.args.bytes.now c.in_ok-head.head c.in_ok-head.ensures.value c.in-One.a c.in-One.is r.now p) c.term.ensures.passed

pub returns-in_err-rest-in-Two-clause-value : goal.returns-in_err-rest-in-Two-clause-value
returns-in_err-rest-in-Two-clause-value t c =
    let e = err_from_is_err_and c.from_residual-in_err-rest-in-Two.result c.from_residual-in_err-rest-in-Two.ensures.1 in
    rw (e.1, e.2)
    (then_second c.args.self.now c.args.depth c.args.want c.args.bytes.now c.in_ok-head.head c.in_ok-head.ensures.value c.in-Two.a c.in-Two.b _ c.in-Two.is c.in_err-rest-in-Two.ensures.value)

pub returns-in_ok-rest-in-Two-clause-value : goal.returns-in_ok-rest-in-Two-clause-value
returns-in_ok-rest-in-Two-clause-value t c =
    c.term-in-Two-2.ensures.value
    ∙ then_second c.args.self.now c.args.depth c.args.want c.args.bytes.now c.in_ok-head.head c.in_ok-head.ensures.value c.in-Two.a c.in-Two.b _ c.in-Two.is c.in_ok-rest-in-Two.ensures.value

pub returns-in_ok-rest-in-Two-clause-passed : goal.returns-in_ok-rest-in-Two-clause-passed
returns-in_ok-rest-in-Two-clause-passed t c =
    IfOk-weaker c.term-in-Two-2.result _ _
    (λ r p. binary c.args.self.now c.args.depth c.args.want c.args.bytes.now c.in_ok-head.head c.in_ok-head.ensures.value c.in-Two.a c.in-Two.b c.in-Two.is c.in_ok-rest-in-Two.rest.now r.now c.in_ok-rest-in-Two.ensures.passed p) c.term-in-Two-2.ensures.passed
