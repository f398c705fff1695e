use Rattle.std.proofs.Common.{◌≡◌, length, get_or, pos, w32, SFits, rules}
use Rattle.std.proofs.lemmas.Int.{to_z-of_z}
use Rattle.std.proofs.lemmas.List.{length_push}
use Rattle.domain.specs.Domains.{truth_weight}
use Rattle.domain.proofs.Pairs.{end, turn}
use Rattle.domain.proofs.Rows.{truth_all, truth_next}
use Rattle.domain.proofs.siphon.SiphonWeightDomain.add_row.Goals as goal

pub loop-count-preserved : goal.loop-count-preserved
loop-count-preserved c =
    let t = turn c.args.counts.now c.args.codes.now c.loop-count.yielded _ _ c.next.new.self _ (cc) (cc) c.loop-count.yielded_by _ c.in-Some.is c.next.ensures.steps in
    let code = get_or c.args.codes.now (length c.loop-count.yielded) (pos 0) in
    let fits : SFits w32 code = search rules in
    let weight : c.weight.result ≡ truth_weight code = simp to_z-of_z at (rw t.code at c.weight.ensures) in
    rw length_push (truth_next c.args.counts.now c.args.codes.now _ c.from.result c.args.v.now c.loop-count.marked c.weight.result c.copied-marked.result
    (cc) weight c.copied-marked.ensures c.loop-count.invariant)

pub returns : goal.returns
returns c =
    truth_all c.args.counts.now c.args.codes.now _ c.args.v.now c.loop-count.marked
    (end c.args.counts.now c.args.codes.now c.loop-count.yielded _ _ c.next.new.self _ (cc) (cc) c.loop-count.yielded_by c.in-None.is c.next.ensures.steps)
    c.loop-count.invariant
