use Rattle.std.proofs.Common.{◌≡◌, length}
use Rattle.domain.specs.Meaning.{row_to}
use Rattle.domain.proofs.WeightDomain.add_row.Given as goal

-- the row so far
abbrev pub invariant-loop-count : goal.invariant-loop-count
invariant-loop-count g l = l.row ≡ row_to (g.Self.WeightDomain.meaning l.self) l.counts l.codes (length l.yielded)
