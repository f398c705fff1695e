use Rattle.std.proofs.Common.{◌≡◌, length, get_or, pos, w32, SFits, rules}
use Rattle.std.proofs.lemmas.Int.{to_z-of_z}
use Rattle.std.proofs.lemmas.List.{length_push}
use Rattle.domain.proofs.Pairs.{end, turn}
use Rattle.domain.proofs.Rows.{all, more}
use Rattle.domain.proofs.WeightDomain.add_row.Goals as goal

pub loop-count-preserved : goal.loop-count-preserved
loop-count-preserved g c =
    let d = g.Self.WeightDomain.meaning c.args.self.now in
    let t = turn c.args.counts.now c.args.codes.now c.loop-count.yielded _ _ c.next.new.self _ (cc) (cc) c.loop-count.yielded_by _ c.in-Some.is c.next.ensures.steps in
    let code = get_or c.args.codes.now (length c.loop-count.yielded) (pos 0) in
    let fits : SFits w32 code = search rules in
    let weight : c.weight-weight.result ≡ d.weight code = simp to_z-of_z at (rw t.code at c.weight-weight.ensures) in
    rw length_push (more (g.met.Self.WeightDomain.lawful c.args.self.now) c.args.counts.now c.args.codes.now (λ j. (c.type_inv.counts j).fits) _ c.from.result c.loop-count.row c.weight-weight.result c.add_copies-row.result
    t.short (cc) weight c.loop-count.invariant c.add_copies-row.ensures)

pub returns : goal.returns
returns g c =
    all (g.met.Self.WeightDomain.lawful c.args.self.now) c.args.counts.now c.args.codes.now _ c.args.v.now c.loop-count.row c.add_copies.result
    (end c.args.counts.now c.args.codes.now c.loop-count.yielded _ _ c.next.new.self _ (cc) (cc) c.loop-count.yielded_by c.in-None.is c.next.ensures.steps)
    c.loop-count.invariant c.add_copies.ensures
