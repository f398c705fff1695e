-- The marking that lent counts hold, and what a change makes of it.
use Rattle.std.specs.Prelude.{ℕ, ◌+◌, ◌-◌, slice_index}
use Rattle.bench.specs.declared.change.Change.{Change}
use Rattle.bench.specs.declared.counts.Counts.{Counts}

-- the most that a cell of a bench holds
abbrev pub largest_count : ℕ
largest_count = 65535

abbrev pub tokens : Counts → ℕ → ℕ
tokens k c = slice_index k.cells.now c

-- the loan that the counts are, by which their lender gets them back
abbrev pub loan : Counts → ℕ
loan k = k.cells.ghost_name

-- what a cell has once the tokens of a change are taken and put
abbrev pub changed : Counts → Change → ℕ → ℕ
changed k d c = (tokens k c - slice_index d.takes c) + slice_index d.puts c
