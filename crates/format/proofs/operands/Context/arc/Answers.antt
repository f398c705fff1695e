use Rattle.std.proofs.Common.{ℕ, List, [], get_or, sym, ap, ◌∙◌, subst, arith, lit<, rules}
use Rattle.std.proofs.lemmas.Bool.Decides.{nat_tests}
use Rattle.std.proofs.lemmas.Result.{err_from_is_err_and}
use Rattle.term.specs.Meaning.{of}
use Rattle.term.proofs.Cuts.{tail, tail_shorter}
use Rattle.term.specs.Check.{done, bad}
use Rattle.term.specs.Shape.{PassedBag}
use Rattle.format.specs.Commands.{arc, said}
use Rattle.format.proofs.Local.{passed_bag_alone}
use Rattle.format.proofs.Terms.{arced}
use Rattle.format.proofs.operands.Context.arc.Goals as goal

pub returns-in_ok-rest-in-len2-up-2 : goal.returns-in_ok-rest-in-len2-up-2
returns-in_ok-rest-in-len2-up-2 c =
    let x = c.args.self.now in
    let s = of x.checker.signature in
    let vars = x.checker.variables.now in
    let bs = c.args.bytes.now in
    let r = c.in_ok-rest-in-len2-up-2.rest.now in
    let sort = get_or x.places.now (get_or bs 1 0) 0 in
    let passed = c.in_ok-rest-in-len2-up-2.ensures in (
      ap (λ f. said (arc c.args.direction (get_or bs 1 0) f) r) c.before-in-len2-up-2.ensures ∙ arced s vars x.checker.ends bs _ (done r) x.places.now c.args.direction (search rules) (grind (arith, nat_tests)) (tail 2 bs) passed.value,
      omega (arith, tail_shorter 2 bs (lit< tt) (search rules), passed.shorter),
      subst (λ (l : List ℕ). PassedBag s vars 16 sort l []) (sym c.before-in-len2-up-2.ensures) (passed_bag_alone s vars 16 sort _ r passed.passed),
    )

pub returns-in_err-rest-in-len2-up-2 : goal.returns-in_err-rest-in-len2-up-2
returns-in_err-rest-in-len2-up-2 c =
    let p = err_from_is_err_and c.from_residual.result c.from_residual.ensures.1 in
    let x = c.args.self.now in
    let bs = c.args.bytes.now in
    rw (p.1, p.2) (
      arced (of x.checker.signature) x.checker.variables.now x.checker.ends bs _ (bad c.in_err-rest-in-len2-up-2.field-0.0) x.places.now c.args.direction (search rules) (grind (arith, nat_tests)) (tail 2 bs) c.in_err-rest-in-len2-up-2.ensures.value,
      tt,
      tt,
    )
