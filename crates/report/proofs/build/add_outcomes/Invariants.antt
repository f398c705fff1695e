use Rattle.std.proofs.Common.{◌≡◌, ◌++◌, Ok, slice_index_or, string_bytes}
use Rattle.report.specs.Lines.{claim_line}
use Rattle.report.specs.Report.{in_order, line}
use Rattle.report.proofs.build.add_outcomes.Given as goal

abbrev pub invariant-loop-claim : goal.invariant-loop-claim
invariant-loop-claim l = string_bytes l.text ≡ string_bytes l.initial.text ++ in_order (λ i. line (claim_line i (slice_index_or l.outcomes i (Ok 0)))) l.claim
