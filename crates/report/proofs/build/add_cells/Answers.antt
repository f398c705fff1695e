use Rattle.std.proofs.Common.{slice_index, rules}
use Rattle.report.specs.Report.{cell_shown}
use Rattle.report.proofs.Orders.{none_added, one_added}
use Rattle.report.proofs.build.add_cells.Goals as goal

pub loop-cell-init : goal.loop-cell-init
loop-cell-init c = none_added _ _

pub loop-cell-preserved : goal.loop-cell-preserved
loop-cell-preserved c =
    one_added (λ i. cell_shown i (slice_index c.args.counts.now i)) c.loop-cell.cell _ _ _ c.loop-cell.invariant (search rules)
