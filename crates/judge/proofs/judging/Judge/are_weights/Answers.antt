use Rattle.std.proofs.Common.{◌≡◌, ℤ, true, rules}
use Rattle.std.proofs.lemmas.Iterator.{YieldsList-from_slice, cases_from_all}
use Rattle.judge.proofs.All.{told}
use Rattle.judge.proofs.judging.Judge.are_weights.Goals as goal

pub returns : goal.returns
returns g c =
    let codes = c.args.self.now.codes.now in
    let P = λ (x : ℤ). (g.D.WeightDomain.meaning c.args.d.now).weighs x ≡ true in
    told P codes _ (cases_from_all _ _ _ P (λ x. P x → ⊥) c.all.ensures.ran (YieldsList-from_slice codes cc) (λ x q k. search rules) (λ x q k. search rules))
