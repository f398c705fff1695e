use Rattle.std.proofs.Common.{◌≡◌, w32, SFits, rules}
use Rattle.std.proofs.lemmas.Int.{to_z-of_z}
use Rattle.domain.specs.Meaning.{Added}
use Rattle.domain.proofs.Copies.{grown}
use Rattle.domain.proofs.sums.add_weight.Goals as goal

pub returns : goal.returns
returns g c =
    let d = g.D.WeightDomain.meaning c.args.d.now in
    let fits : SFits w32 c.args.code = search rules in
    let weight : c.weight-w.result ≡ d.weight c.args.code = simp to_z-of_z at c.weight-w.ensures in
    let added : Added d c.args.v.now c.args.n (d.weight c.args.code) c.add_copies.result = rw weight at c.add_copies.ensures in
    grown (g.met.D.WeightDomain.lawful c.args.d.now) c.args.v.now c.add_copies.result c.args.n c.args.code added
