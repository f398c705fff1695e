-- What the calls of a bench make of the memory that a caller lends, and why they are refused.
use Rattle.std.specs.Prelude.{◌≡◌, ℕ, min, ◌+◌, ◌-◌, ◌<◌, ◌≤◌, false, List, [], ◌∷◌, ◌++◌, length, Ok, Err, Result, slice_index, slice_set}
use Rattle.lent.specs.Held.{held, memory as whole}
use Rattle.lent.specs.declared.list.LentList.{LentList}
use Rattle.term.specs.Worth.{Marking}
use Rattle.term.specs.declared.fault.Fault.{Fault}
use Rattle.term.specs.declared.fault.Fault.TheVariants as fault
use Rattle.net.specs.declared.firing.Firing.{Firing}
use Rattle.net.specs.System.{SystemNet, cells}
use Rattle.net.specs.Nets.{HasCell, Mode, given, guard_holds, taken, transition}
use Rattle.net.specs.Runs.{Alike, Enabled, Fires, Open, initial}
use Rattle.bench.specs.Counted.{changed, largest_count, tokens}
use Rattle.bench.specs.declared.change.Change.{Change}
use Rattle.bench.specs.declared.counts.Counts.{Counts}
use Rattle.bench.specs.Path.{Led, Small}

-- the memory of a bench: the counts, the firings on the trail, oldest first, and the whole memory of the trail
pub record Lent : Type 0 where
  pub counts : List ℕ
  pub trail : List Firing
  pub memory : List Firing

-- what lent counts and a lent trail hold
abbrev pub lent : Counts → LentList Firing → Lent
lent k l = record { counts = k.cells.now; trail = held l; memory = whole l }

-- the marking that the counts hold
abbrev pub marking : Lent → Marking
marking m c = slice_index m.counts c

-- the firings on the trail lead from the initial marking to the counts
abbrev pub Leads : SystemNet → Lent → Type 0
Leads n l = Led n l.trail (marking l)

-- begun from the memory l to k: the marking is the initial one, and the trail is empty, with its memory as it was
pub record Begun (n : SystemNet) (l k : Lent) : Type 0 where
  pub counts : Alike (marking k) (initial n)
  pub trail : k.trail ≡ []
  pub memory : k.memory ≡ l.memory

-- c is the lowest cell of which P holds
pub record Lowest (P : ℕ → Type 0) (c : ℕ) : Type 0 where
  pub within : c < cells
  pub here : P c
  pub lower : (k : ℕ) → k < c → P k → ⊥

-- P holds of no cell
abbrev pub Nowhere : (ℕ → Type 0) → Type 0
Nowhere P = (c : ℕ) → c < cells → P c → ⊥

-- the cell has less than the firing takes
abbrev pub Lacking : SystemNet → Firing → Marking → ℕ → Type 0
Lacking n f a c = a c < taken n f.transition f.mode c

-- the cell would have more than it can hold once the firing's tokens are taken and put
abbrev pub Passing : SystemNet → Firing → Marking → ℕ → Type 0
Passing n f a c = largest_count < (a c - taken n f.transition f.mode c) + given n f.transition f.mode c

-- whether the net allows a firing, whatever the marking
abbrev pub Opened : SystemNet → Firing → Result (Unit {0}) Fault → Type 0
Opened n f (Ok u) = Open n f.transition f.mode
Opened n f (Err fault.NoTransition) = length n.transitions ≤ f.transition
Opened n f (Err fault.Mode) = (f.transition < length n.transitions) × (Mode (transition n f.transition).sizes f.mode → ⊥)
Opened n f (Err fault.Guard) =
    (f.transition < length n.transitions) × Mode (transition n f.transition).sizes f.mode × (guard_holds n f.transition f.mode ≡ false)
Opened n f (Err e) = ⊥

-- a firing carried out, from the memory l to k: the marking becomes the new one of the firing, and the firing is written
-- behind the others
pub record Fired (n : SystemNet) (f : Firing) (l k : Lent) : Type 0 where
  pub fires : Fires n f.transition f.mode (marking l) (marking k)
  pub trail : k.trail ≡ l.trail ++ f ∷ []
  pub memory : k.memory ≡ slice_set l.memory (length l.trail) f

-- why a firing is refused: the lowest cell counts, and each reason only where none before it holds
abbrev pub FireRefused : SystemNet → Firing → Lent → Fault → Type 0
FireRefused n f l (fault.Lacks c) = Open n f.transition f.mode × Lowest (Lacking n f (marking l)) c
FireRefused n f l (fault.Full c) = Enabled n f.transition f.mode (marking l) × Lowest (Passing n f (marking l)) c
FireRefused n f l fault.TrailFull =
    Enabled n f.transition f.mode (marking l) × Nowhere (Passing n f (marking l)) × (length l.trail ≡ length l.memory)
FireRefused n f l e = Opened n f (Err e)

-- what a call of fire answers; a refused one changes nothing
abbrev pub FireCalled : SystemNet → Firing → Lent → Lent → Result (Unit {0}) Fault → Type 0
FireCalled n f l k (Ok u) = Fired n f l k
FireCalled n f l k (Err e) = FireRefused n f l e × (k ≡ l)

-- whether a change can be made of counts: no cell has less than it takes, and none would have more than it can hold
abbrev pub Checked : Counts → Change → Result (Unit {0}) Fault → Type 0
Checked k d (Ok u) = ((c : ℕ) → c < cells → (slice_index d.takes c ≤ tokens k c) × (changed k d c ≤ largest_count))
Checked k d (Err (fault.Lacks c)) =
    (c < cells) × (tokens k c < slice_index d.takes c) × ((i : ℕ) → i < c → slice_index d.takes i ≤ tokens k i)
Checked k d (Err (fault.Full c)) =
    ((i : ℕ) → i < cells → slice_index d.takes i ≤ tokens k i) × (c < cells) × (largest_count < changed k d c) × ((i : ℕ) → i < c → changed k d i ≤ largest_count)
Checked k d (Err e) = ⊥

-- if the firing f led to the marking a from one that fits sixteen bits, then b is that one
abbrev pub Returns : SystemNet → Firing → Marking → Marking → Type 0
Returns n f a b = (x : Marking) → Small x → Fires n f.transition f.mode x a → Alike b x

-- a back carried out, from the memory l to k: the newest firing f is off the trail, whose memory stays, and the marking
-- is the one from which f led here
pub record WentBack (n : SystemNet) (f : Firing) (l k : Lent) : Type 0 where
  pub trail : l.trail ≡ k.trail ++ f ∷ []
  pub memory : k.memory ≡ l.memory
  pub fires : Fires n f.transition f.mode (marking k) (marking l)

-- what a call of back answers; a refused one changes nothing
abbrev pub BackCalled : SystemNet → Lent → Lent → Result (Unit {0}) Fault → Type 0
BackCalled n l k (Ok u) = (f : Firing) × WentBack n f l k
BackCalled n l k (Err fault.TrailEmpty) = (l.trail ≡ []) × (k ≡ l)
BackCalled n l k (Err e) = ⊥

-- what f puts is taken from the marking a, as far as it is there, and what f takes is put back, up to the most that a
-- cell holds
abbrev pub Unfired : SystemNet → Firing → Marking → Marking → Type 0
Unfired n f a b = (c : ℕ) → c < cells → b c ≡ min ((a c - given n f.transition f.mode c) + taken n f.transition f.mode c) largest_count

-- the newest firing f is taken off the trail, from the memory l to k, whose trail need not lead to the marking
pub record Undone (n : SystemNet) (f : Firing) (l k : Lent) : Type 0 where
  pub trail : l.trail ≡ k.trail ++ f ∷ []
  pub memory : k.memory ≡ l.memory
  pub counts : Unfired n f (marking l) (marking k)

-- what a call answers that undoes the newest firing on any trail; a refused one changes nothing
abbrev pub UndoCalled : SystemNet → Lent → Lent → Result (Unit {0}) Fault → Type 0
UndoCalled n l k (Ok u) = (f : Firing) × Undone n f l k
UndoCalled n l k (Err fault.TrailEmpty) = (l.trail ≡ []) × (k ≡ l)
UndoCalled n l k (Err e) = ⊥

-- what a call of count answers: what the marking has in a cell of the net
abbrev pub CountCalled : SystemNet → Marking → ℕ → Result ℕ Fault → Type 0
CountCalled n a c (Ok k) = HasCell n c × (k ≡ a c)
CountCalled n a c (Err fault.NoCell) = HasCell n c → ⊥
CountCalled n a c (Err e) = ⊥
