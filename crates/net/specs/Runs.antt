-- Firings and runs of a net. A marking counts without limit.
use Rattle.std.specs.Prelude.{◌≡◌, ℕ, ◌+◌, ◌-◌, ◌<◌, ◌≤◌, true, List, [], ◌∷◌, length, slice_index}
use Rattle.term.specs.Worth.{Marking}
use Rattle.net.specs.Nets.{Mode, given, guard_holds, taken, transition}
use Rattle.net.specs.System.{SystemNet, cells}
use Rattle.net.specs.declared.firing.Firing.{Firing}

-- counts in memory are those of a marking
abbrev pub Counted : List ℕ → Marking → Type 0
Counted ns a = (c : ℕ) → c < cells → slice_index ns c ≡ a c

-- the net has the transition t, m is a mode of it, and the guard is true there
pub record Open (n : SystemNet) (t : ℕ) (m : List ℕ) : Type 0 where
  pub there : t < length n.transitions
  pub mode : Mode (transition n t).sizes m
  pub guard : guard_holds n t m ≡ true

-- transition t is enabled in the mode m at the marking a: it is open there, and each cell has what it takes
pub record Enabled (n : SystemNet) (t : ℕ) (m : List ℕ) (a : Marking) : Type 0 where
  pub is_open : Open n t m
  pub enough : (c : ℕ) → c < cells → taken n t m c ≤ a c

-- transition t, enabled in the mode m at the marking a, fires and leads from a to b
pub record Fires (n : SystemNet) (t : ℕ) (m : List ℕ) (a b : Marking) : Type 0 where
  pub enabled : Enabled n t m a
  pub new : (c : ℕ) → c < cells → b c ≡ a c - taken n t m c + given n t m c

-- two markings have the same in each cell
abbrev pub Alike : Marking → Marking → Type 0
Alike a b = (c : ℕ) → c < cells → a c ≡ b c

-- firings lead one after the other from a to b
abbrev pub Run : SystemNet → Marking → List Firing → Marking → Type 0
Run n a [] b = Alike a b
Run n a (f ∷ fs) b = (x : Marking) × (Fires n f.transition f.mode a x × Run n x fs b)

-- the initial marking
abbrev pub initial : SystemNet → Marking
initial n c = slice_index n.initial c

-- a run of firings leads from the initial marking to this one
abbrev pub Reachable : SystemNet → Marking → Type 0
Reachable n m = (fs : List Firing) × Run n (initial n) fs m

-- no marking that can be reached has more than k tokens in the cell
abbrev pub Bounded : SystemNet → ℕ → ℕ → Type 0
Bounded n cell k = (m : Marking) → Reachable n m → m cell ≤ k
