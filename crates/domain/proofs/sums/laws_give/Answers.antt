use Rattle.domain.proofs.Copies.{copies_add, copies_commute, sums_relate}
use Rattle.domain.proofs.sums.laws_give.Goals as goal

pub returns : goal.returns
returns g c =
    let law = g.met.D.WeightDomain.lawful c.args.d.now in
    record { split = copies_add law; commute = copies_commute law; relate = sums_relate law }
