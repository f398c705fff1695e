use Rattle.std.proofs.Common.{◌≡◌, ◌++◌, slice_index, string_bytes}
use Rattle.report.specs.Report.{cell_shown, in_order}
use Rattle.report.proofs.build.add_cells.Given as goal

abbrev pub invariant-loop-cell : goal.invariant-loop-cell
invariant-loop-cell l = string_bytes l.text ≡ string_bytes l.initial.text ++ in_order (λ c. cell_shown c (slice_index l.counts c)) l.cell
