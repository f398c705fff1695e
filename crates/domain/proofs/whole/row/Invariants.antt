use Rattle.std.proofs.Common.{◌≡◌, length}
use Rattle.domain.specs.Domains.{equal}
use Rattle.domain.specs.Meaning.{row_to}
use Rattle.domain.proofs.whole.row.Given as goal

-- the row so far
abbrev pub invariant-loop-count : goal.invariant-loop-count
invariant-loop-count l = l.row ≡ row_to equal l.counts l.codes (length l.yielded)
