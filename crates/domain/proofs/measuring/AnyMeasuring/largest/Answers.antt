use Rattle.std.proofs.Common.{◌≡◌, w64, SFits, rules}
use Rattle.std.proofs.lemmas.Int.{to_z-of_z}
use Rattle.domain.specs.Measure.{whole_largest}
use Rattle.domain.proofs.Measures.{largest_ordered}
use Rattle.domain.proofs.measuring.AnyMeasuring.largest.Goals as goal

pub returns-clause-plains : goal.returns-clause-plains
returns-clause-plains g c =
    let v = c.args.v.now in
    let w = c.args.w.now in
    let fits : SFits w64 v = search rules in
    let fits_too : SFits w64 w = search rules in
    let is : c.largest_whole.result ≡ whole_largest v w = simp to_z-of_z at c.largest_whole.ensures in
    λ h k. rw is (largest_ordered (g.met.R.WholeRelation.orders c.args.self.now) v w h k)
