use Rattle.std.proofs.Common.{◌≡◌, ◌||◌, length}
use Rattle.domain.specs.Domains.{siphon}
use Rattle.domain.specs.Meaning.{row_to}
use Rattle.domain.proofs.siphon.SiphonWeightDomain.add_row.Given as goal

-- the value with the row so far
abbrev pub invariant-loop-count : goal.invariant-loop-count
invariant-loop-count l = l.marked ≡ (l.v || row_to siphon l.counts l.codes (length l.yielded))
