use Rattle.std.proofs.Common.{ℕ, List, [], sym, ap, ◌∙◌, subst, arith, lit<, rules}
use Rattle.std.proofs.lemmas.Result.{err_from_is_err_and}
use Rattle.term.specs.Meaning.{of}
use Rattle.term.proofs.Cuts.{tail, tail_shorter}
use Rattle.term.specs.Check.{done, bad}
use Rattle.term.specs.Shape.{Passed}
use Rattle.format.specs.Commands.{guard, said}
use Rattle.format.proofs.Local.{passed_alone}
use Rattle.format.proofs.Terms.{guarded}
use Rattle.format.proofs.operands.Context.guard.Goals as goal

pub returns-in_ok-rest-in-len1-up : goal.returns-in_ok-rest-in-len1-up
returns-in_ok-rest-in-len1-up c =
    let s = of c.args.self.now.checker.signature in
    let vars = c.args.self.now.checker.variables.now in
    let bs = c.args.bytes.now in
    let r = c.in_ok-rest-in-len1-up.rest.now in
    let passed = c.in_ok-rest-in-len1-up.ensures in (
      ap (λ f. said (guard f) r) c.before-in-len1-up.ensures ∙ guarded s vars c.args.self.now.checker.ends bs _ (done r) (search rules) (tail 1 bs) passed.value,
      omega (arith, tail_shorter 1 bs (lit< tt) (search rules), passed.shorter),
      subst (λ (l : List ℕ). Passed s vars 16 0 l []) (sym c.before-in-len1-up.ensures) (passed_alone s vars 16 0 _ r passed.passed),
    )

pub returns-in_err-rest-in-len1-up : goal.returns-in_err-rest-in-len1-up
returns-in_err-rest-in-len1-up c =
    let p = err_from_is_err_and c.from_residual.result c.from_residual.ensures.1 in
    let bs = c.args.bytes.now in
    rw (p.1, p.2) (
      guarded (of c.args.self.now.checker.signature) c.args.self.now.checker.variables.now c.args.self.now.checker.ends bs _ (bad c.in_err-rest-in-len1-up.field-0.0) (search rules) (tail 1 bs) c.in_err-rest-in-len1-up.ensures.value,
      tt,
      tt,
    )
