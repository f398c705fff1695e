use Rattle.std.proofs.Common.{◌+◌, ◌-◌, ◌*◌, ◌^◌, ◌<◌, length, min, get_or, ap, ◌∙◌, arith, rules}
use Rattle.std.proofs.lemmas.List.{get_or-take, length-take}
use Rattle.term.proofs.Tallies.{grow, grown}
use Rattle.term.proofs.tally.add_row.Goals as goal

-- there is a count for each element of the cut row
inside : (c : goal.After-saturating_add) → c.cell-from.result + c.loop-e.e < length c.loop-e.counts
inside c =
    omega (arith, c.loop-e-test.true, length-take c.min.result c.args.row.now, c.min.ensures, c.saturating_sub-room.ensures, c.loop-e.auto.counts)

pub loop-e-preserved : goal.loop-e-preserved
loop-e-preserved c =
    let cut : c.loop-e.e < c.min.result = omega (arith, c.loop-e-test.true, length-take c.min.result c.args.row.now) in
    let n = c.from.ensures ∙ get_or-take c.min.result c.args.row.now c.loop-e.e 0 cut in
    grow c.args.counts.now c.loop-e.counts c.args.row.now (64 * c.args.place) c.loop-e.e _ c.saturating_add.result (omega (arith, c.cell-from.ensures)) (inside c)
    (c.saturating_add.ensures ∙ ap (λ m. min (get_or c.loop-e.counts (c.cell-from.result + c.loop-e.e) 0 + m) (2 ^ 32 - 1)) n) c.loop-e.invariant

pub returns : goal.returns
returns c =
    grown c.args.counts.now c.loop-e.counts c.args.row.now (64 * c.args.place) c.loop-e.e
    (omega (arith, c.loop-e-test.false, length-take c.min.result c.args.row.now, c.min.ensures, c.saturating_sub-room.ensures, c.cell-from.ensures))
    (λ k. search rules) c.loop-e.invariant
