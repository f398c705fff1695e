use Rattle.std.proofs.Common.{ℤ, rules}
use Rattle.std.proofs.lemmas.Iterator.{YieldsList-from_slice, cases_from_all}
use Rattle.judge.proofs.All.{told}
use Rattle.judge.proofs.judging.Judge.are_plain.Goals as goal

pub returns : goal.returns
returns g c =
    let codes = c.args.self.now.codes.now in
    let P = λ (x : ℤ). g.M.Measuring.plain c.args.m.now ((g.M.WeightDomain.meaning c.args.m.now).weight x) in
    told P codes _ (cases_from_all _ _ _ P (λ x. P x → ⊥) c.all.ensures.ran (YieldsList-from_slice codes cc) (λ x q k. search rules) (λ x q k. search rules))
