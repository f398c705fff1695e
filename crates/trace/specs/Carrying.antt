-- What a command does on the bench, and which commands the bench turns down.
use Rattle.std.specs.Prelude.{◌≡◌, ℕ, ◌≤◌, List, [], ◌∷◌, length, Ok, Err, Result}
use Rattle.term.specs.declared.fault.Fault.{Fault}
use Rattle.term.specs.declared.fault.Fault.TheVariants.{TrailEmpty}
use Rattle.net.specs.declared.firing.Firing.{Firing}
use Rattle.net.specs.System.{SystemNet}
use Rattle.bench.specs.Calls.{Begun, Fired, FireRefused, Lent, WentBack, marking}
use Rattle.bench.specs.Path.{Small}
use Rattle.trace.specs.Moves.{Move, fire, back, restart}
use Rattle.trace.specs.Stops.{cell_of}
use Rattle.trace.specs.declared.replays.Stop.{Stop}

-- the firing of a transition in the mode of four numbers
abbrev pub firing_of : ℕ → ℕ → ℕ → ℕ → ℕ → Firing
firing_of t a b c d = record { transition = t; mode = a ∷ b ∷ c ∷ d ∷ [] }

-- a command carried out, from the memory l to k: a firing, the newest firing undone, or the initial marking again
abbrev pub Does : SystemNet → Move → Lent → Lent → Type 0
Does n (fire t a b c d) l k = Fired n (firing_of t a b c d) l k
Does n back l k = (f : Firing) × WentBack n f l k
Does n restart l k = Begun n l k

-- what a bench can hold: at most 65,535 in a cell, and no more firings than the trail's memory has room for
pub record Fitting (l : Lent) : Type 0 where
  pub small : Small (marking l)
  pub room : length l.trail ≤ length l.memory

-- commands carried out one after the other, from the memory l to k, each leaving what a bench can hold
abbrev pub Done : SystemNet → Lent → List Move → Lent → Type 0
Done n l [] k = k ≡ l
Done n l (m ∷ ms) k = (x : Lent) × (Does n m l x × Fitting x × Done n x ms k)

-- the bench refuses a command with a fault: a fire for one of its own reasons, a back on an empty trail, a restart never
abbrev pub Refuses : SystemNet → Move → Lent → Fault → Type 0
Refuses n (fire t a b c d) l e = FireRefused n (firing_of t a b c d) l e
Refuses n back l e = (e ≡ TrailEmpty) × (l.trail ≡ [])
Refuses n restart l e = ⊥

-- the bench turns a command down: it refuses it, and the place is the cell that its fault names
pub record TurnedDown (n : SystemNet) (m : Move) (l : Lent) (s : Stop) : Type 0 where
  pub refuses : Refuses n m l s.fault
  pub place : s.place ≡ cell_of s.fault

-- what a call that carries out one command answers; a refused one changes nothing
abbrev pub CarryCalled : SystemNet → Move → Lent → Lent → Result (Unit {0}) Fault → Type 0
CarryCalled n m l k (Ok u) = Does n m l k
CarryCalled n m l k (Err e) = Refuses n m l e × (k ≡ l)
