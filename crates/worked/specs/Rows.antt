-- Rows of worked examples: a file, what is asked of it, and the answer; and what such a row claims, by the definitions
-- that the contracts of reading, judging, caps and firing name.
use Rattle.std.specs.Prelude.{◌≡◌, ℕ, ◌<◌, List, length, Option, Some, None, Ok, Err, Result}
use Rattle.term.specs.Faults.{number_of}
use Rattle.term.specs.Worth.{Marking}
use Rattle.term.specs.declared.fault.Fault.{Fault}
use Rattle.term.specs.declared.fault.FileFault.{FileFault}
use Rattle.term.specs.declared.fault.Stage.{Stage}
use Rattle.net.specs.Reading.{Told, told}
use Rattle.net.specs.Runs.{Alike, Run, initial}
use Rattle.net.specs.System.{SystemNet, arc_count}
use Rattle.net.specs.declared.firing.Firing.{Firing}
use Rattle.judge.specs.Calls.{Fits, Memory}
use Rattle.judge.specs.Caps.{AskedByItsKind}
use Rattle.judge.specs.Kinds.{ByItsKind, Outcome}
use Rattle.bench.specs.Calls.{FireCalled, Lent, marking}

-- what is asked: whether the file reads; the verdict on a claim; the cap of a cell by a claim; or what a firing does,
-- after other firings from the initial marking
pub data Question : Type 0 where
  read : Question
  judge : ℕ → Question
  cap : ℕ → ℕ → Question
  fire : List Firing → Firing → Question

-- the answer: a net, by its numbers of sorts (with sort 0), places, transitions, arcs and claims; a fault of the file,
-- by its number, place and stage; accepted, with a number of modes; broken, at a transition and a mode; the cap, if
-- there is one; fired; or a fault of the call, with its number
pub data Answer : Type 0 where
  reads : ℕ → ℕ → ℕ → ℕ → ℕ → Answer
  faulty : ℕ → ℕ → Stage → Answer
  accepted : ℕ → Answer
  broken : ℕ → List ℕ → Answer
  at_most : ℕ → Answer
  unbounded : Answer
  fired : Answer
  refused : ℕ → Fault → Answer

pub record Row : Type 0 where
  pub file : List ℕ
  pub asked : Question
  pub answer : Answer

-- the results of the calls as answers
abbrev pub net_shown : SystemNet → Answer
net_shown n = reads (length n.sig.sizes) (length n.places) (length n.transitions) (arc_count n) (length n.claims)

abbrev pub fault_shown : FileFault → Answer
fault_shown e = faulty (number_of e.fault) e.place e.stage

abbrev pub refusal : Fault → Answer
refusal e = refused (number_of e) e

abbrev pub verdict_shown : Result Outcome Fault → Answer
verdict_shown (Ok (Ok c)) = accepted c
verdict_shown (Ok (Err f)) = broken f.transition f.mode
verdict_shown (Err e) = refusal e

abbrev pub cap_shown : Result (Option ℕ) Fault → Answer
cap_shown (Ok (Some k)) = at_most k
cap_shown (Ok None) = unbounded
cap_shown (Err e) = refusal e

abbrev pub fire_shown : Result (Unit {0}) Fault → Answer
fire_shown (Ok u) = fired
fire_shown (Err e) = refusal e

-- the answer of a call whose contract says C: from any memory that fits, C allows a result that shows the answer, and no
-- result that shows another
pub record Shows {R : Type 0} (C : Memory → Memory → Result R Fault → Type 0) (shown : Result R Fault → Answer) (a : Answer) : Type 0 where
  pub some : (m : Memory) → Fits m → (k : Memory) × ((r : Result R Fault) × (C m k r × (a ≡ shown r)))
  pub only : (m k : Memory) (r : Result R Fault) → Fits m → C m k r → a ≡ shown r

-- the firings lead, one after the other, from the initial marking to this one
abbrev pub Leads : SystemNet → List Firing → Marking → Type 0
Leads n fs x = Run n (initial n) fs x

-- the memory of a bench that stands at a marking, with room on its trail
pub record StandsAt (x : Marking) (l : Lent) : Type 0 where
  pub marked : Alike (marking l) x
  pub room : length l.trail < length l.memory

-- the answer of a firing: the firings before it lead somewhere, and wherever they lead, the contract of fire allows a
-- result that shows the answer, and no result that shows another
pub record Replies (n : SystemNet) (fs : List Firing) (f : Firing) (a : Answer) : Type 0 where
  pub leads : (x : Marking) × Leads n fs x
  pub some : (x : Marking) (l : Lent) → Leads n fs x → StandsAt x l → (k : Lent) × ((r : Result (Unit {0}) Fault) × (FireCalled n f l k r × (a ≡ fire_shown r)))
  pub only : (x : Marking) (l k : Lent) (r : Result (Unit {0}) Fault) → Leads n fs x → StandsAt x l → FireCalled n f l k r → a ≡ fire_shown r

-- the answer to a question on what a file tells; of a file with a fault the fault is the answer to every question
abbrev pub Answers : Told → Question → Answer → Type 0
Answers (Err e) q a = a ≡ fault_shown e
Answers (Ok n) read a = a ≡ net_shown n
Answers (Ok n) (judge claim) a = Shows (ByItsKind n claim) verdict_shown a
Answers (Ok n) (cap claim cell) a = Shows (AskedByItsKind n claim cell) cap_shown a
Answers (Ok n) (fire fs f) a = Replies n fs f a

-- a row holds
unfoldable pub Holds : Row → Type 0
Holds r = Answers (told r.file) r.asked r.answer
