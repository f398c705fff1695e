use Rattle.std.proofs.Common.{◌≡◌, ℕ, ◌*◌, ◌<◌, List, length, get_or, drop, ℤ, refl, ap, ◌∙◌, subst, arith}
use Rattle.std.proofs.lemmas.List.{take_rest}
use Rattle.domain.specs.Meaning.{Added, row_of}
use Rattle.term.specs.Adding.{weighs_nothing}
use Rattle.term.proofs.Placed.{weighs_row}
use Rattle.term.proofs.Sums.{place_past}
use Rattle.term.proofs.tally.WeighedTally.add_row.Goals as goal
use Rattle.term.specs.Meaning.{largest_row}

pub returns-in_default : goal.returns-in_default
returns-in_default g c =
    let w = c.args.self.now.weights.now in
    let past : length w.codes.now < 64 * c.args.self.now.place = grind (arith, c.in_default.ensures.lookup, c.cell.ensures) in
    record {
      weights = refl;
      place = refl;
      weighs = weighs_nothing (g.met.D.WeightDomain.lawful w.domain.now) w.codes.now _ _ largest_row (λ i h. place_past c.args.self.now.place (λ e. get_or c.args.row.now e 0) i (omega arith));
    }

pub returns-in-Some : goal.returns-in-Some
returns-in-Some g c =
    let w = c.args.self.now.weights.now in
    let d = g.D.WeightDomain.meaning w.domain.now in
    let place = c.args.self.now.place in
    let row = c.args.row.now in
    let found = c.in-Some.ensures.lookup.0 in
    let rest : c.in-Some.codes.now ≡ drop (64 * place) w.codes.now = found.2 ∙ take_rest w.codes.now c.cell.result ∙ ap (λ (n : ℕ). drop n w.codes.now) (omega (arith, c.cell.ensures)) in
    record {
      weights = refl;
      place = refl;
      weighs = weighs_row (g.met.D.WeightDomain.lawful w.domain.now) w.codes.now place row _ _
          (omega (arith, found.0, c.cell.ensures)) c.requires.few (λ i. (c.type_inv.row i).fits)
          (subst (λ (xs : List ℤ). Added d c.args.self.now.sum 1 (row_of d row xs) c.add_row.result) rest c.add_row.ensures);
    }
