use Rattle.std.proofs.Common.{◌≡◌, ℕ, ◌+◌, ◌-◌, ◌<◌, ◌≤◌, min, get_or}
use Rattle.bench.specs.Counted.{largest_count}
use Rattle.bench.proofs.counts.Counts.shift.Given as goal

abbrev pub invariant-loop-c : goal.invariant-loop-c
invariant-loop-c l =
    ((k : ℕ) → k < l.c → get_or l.cell-items k 0 ≡ min ((get_or l.initial.cell-items k 0 - get_or l.change.takes k 0) + get_or l.change.puts k 0) largest_count)
    × ((k : ℕ) → l.c ≤ k → get_or l.cell-items k 0 ≡ get_or l.initial.cell-items k 0)
