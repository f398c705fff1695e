-- Where a replay stops.
use Rattle.std.specs.Prelude.{ℕ}
use Rattle.term.specs.declared.fault.Fault.{Fault}
use Rattle.term.specs.declared.fault.Fault.TheVariants as fault

-- the cell that a fault names, else 0
abbrev pub cell_of : Fault → ℕ
cell_of (fault.Lacks c) = c
cell_of (fault.Full c) = c
cell_of e = 0
