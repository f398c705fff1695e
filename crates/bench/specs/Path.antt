-- Runs that a bench can show, where each firing stands on the trail and each marking fits sixteen bits; and what bounds
-- the markings of all runs.
use Rattle.std.specs.Prelude.{ℕ, ◌<◌, ◌≤◌, List, [], ◌∷◌, Err, Result, ◌≢◌}
use Rattle.term.specs.Worth.{Marking}
use Rattle.term.specs.declared.fault.Fault.{Fault}
use Rattle.term.specs.declared.fault.Fault.TheVariants.{Full}
use Rattle.net.specs.declared.firing.Firing.{Firing}
use Rattle.net.specs.Nets.{HasCell}
use Rattle.net.specs.System.{SystemNet, cells}
use Rattle.net.specs.Runs.{Alike, Bounded, Fires, initial}
use Rattle.bench.specs.Counted.{largest_count}

-- no cell has more than a bench can hold
abbrev pub Small : Marking → Type 0
Small a = (c : ℕ) → c < cells → a c ≤ largest_count

-- the firings lead, one after the other, from a to b, over markings that fit sixteen bits
abbrev pub Path : SystemNet → Marking → List Firing → Marking → Type 0
Path n a [] b = Alike a b × Small b
Path n a (f ∷ fs) b = (x : Marking) × (Fires n f.transition f.mode a x × Small a × Path n x fs b)

-- the firings lead from the initial marking to b
abbrev pub Led : SystemNet → List Firing → Marking → Type 0
Led n fs b = ∥ Path n (initial n) fs b ∥₁

-- every cell of the net has a bound that a bench can hold
abbrev pub Holdable : SystemNet → Type 0
Holdable n = (c : ℕ) → HasCell n c → (k : ℕ) × (k ≤ largest_count) × Bounded n c k

-- where every cell of the net has such a bound, no cell is found full
abbrev pub NeverFull : SystemNet → Result (Unit {0}) Fault → Type 0
NeverFull n r = Holdable n → (c : ℕ) → r ≢ Err (Full c)
