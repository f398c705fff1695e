use Rattle.std.proofs.Common.{Ok, slice_index_or, rules}
use Rattle.report.specs.Lines.{claim_line}
use Rattle.report.specs.Report.{line}
use Rattle.report.proofs.Orders.{none_added, one_added}
use Rattle.report.proofs.build.add_outcomes.Goals as goal

pub loop-claim-init : goal.loop-claim-init
loop-claim-init c = none_added _ _

pub loop-claim-preserved : goal.loop-claim-preserved
loop-claim-preserved c =
    one_added (λ i. line (claim_line i (slice_index_or c.args.outcomes.now i (Ok 0)))) c.loop-claim.claim _ _ _ c.loop-claim.invariant (search rules)
