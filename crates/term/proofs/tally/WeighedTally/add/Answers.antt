use Rattle.std.proofs.Common.{ℕ, ◌+◌, ◌*◌, get_or, pos, refl, ap, ◌∙◌, subst, arith, w32, SFits, rules}
use Rattle.std.proofs.lemmas.Int.{to_z-of_z}
use Rattle.domain.specs.Meaning.{Added}
use Rattle.term.specs.Adding.{weighs_nothing}
use Rattle.term.proofs.Sums.{place_else, place_here, weighs_one}
use Rattle.term.proofs.tally.WeighedTally.add.Goals as goal

pub returns-in_default : goal.returns-in_default
returns-in_default g c =
    let w = c.args.self.now.weights.now in
    let past = c.in_default.ensures.lookup.3 in
    record {
      weights = refl;
      place = refl;
      weighs = weighs_nothing (g.met.D.WeightDomain.lawful w.domain.now) w.codes.now _ _ c.args.n
          (λ i h. place_else c.args.self.now.place c.args.element c.args.n i (λ e. omega (arith, past, c.cell.ensures)));
    }

pub returns-in-Some : goal.returns-in-Some
returns-in-Some g c =
    let w = c.args.self.now.weights.now in
    let d = g.D.WeightDomain.meaning w.domain.now in
    let place = c.args.self.now.place in
    let found = c.in-Some.ensures.lookup.3 in
    let fits : SFits w32 c.in-Some.code.now = search rules in
    let added : Added d c.args.self.now.sum c.from.result (d.weight c.in-Some.code.now) c.add_weight.result = simp to_z-of_z at c.add_weight.ensures.added in
    record {
      weights = refl;
      place = refl;
      weighs = weighs_one (g.met.D.WeightDomain.lawful w.domain.now) w.codes.now _ (d.weight c.in-Some.code.now) _ _ (64 * place + c.args.element) c.args.n
          (omega (arith, found.0, c.cell.ensures)) (ap d.weight (found.1 (pos 0) ∙ ap (λ (i : ℕ). get_or w.codes.now i (pos 0)) c.cell.ensures)) (place_here place c.args.element c.args.n)
          (λ i h. place_else place c.args.element c.args.n i h)
          (subst (λ (n : ℕ). Added d c.args.self.now.sum n (d.weight c.in-Some.code.now) c.add_weight.result) c.from.ensures added);
    }
