-- Which commands of a trace were carried out, what they left, and where its replay stopped.
use Rattle.std.specs.Prelude.{◌≡◌, ℕ, ◌≤◌, List, [], ◌∷◌, ◌++◌, length, take, Some, None, Ok, Err, Option, Result, ◌≢◌}
use Rattle.lent.specs.Held.{held, memory as whole}
use Rattle.lent.specs.declared.list.LentList.{LentList}
use Rattle.term.specs.declared.fault.Fault.{Fault}
use Rattle.term.specs.declared.fault.Fault.TheVariants.{Memory}
use Rattle.net.specs.Runs.{Bounded, Reachable}
use Rattle.net.specs.declared.firing.Firing.{Firing}
use Rattle.net.specs.System.{SystemNet, cells}
use Rattle.bench.specs.Calls.{Begun, Lent, Leads, marking}
use Rattle.trace.specs.Carrying.{Done, TurnedDown}
use Rattle.trace.specs.Moves.{Move}
use Rattle.trace.specs.Reading.{Close, SaysOnly, end, fault}
use Rattle.trace.specs.Recorded.{HoldsTrace}
use Rattle.trace.specs.declared.recording.EndedRecording.{EndedRecording}
use Rattle.trace.specs.declared.replays.Replayed.{Replayed}
use Rattle.trace.specs.declared.replays.Stop.{Stop}

-- the memory that a caller lends: the counts and the trail
abbrev pub lends : List ℕ → LentList Firing → Lent
lends counts l = record { counts = counts; trail = held l; memory = whole l }

-- where a replay stops, with the commands that are left and what closes the trace: nowhere if none is left and the end
-- comes, at the fault of the bytes and its byte, or at the first command left, which the bench turns down
abbrev pub Stops : SystemNet → Lent → List Move → Close → Option Stop → Type 0
Stops n k [] end None = Unit {0}
Stops n k [] end (Some s) = ⊥
Stops n k [] (fault f p) None = ⊥
Stops n k [] (fault f p) (Some s) = (s.fault ≡ f) × (s.place ≡ p)
Stops n k (m ∷ ms) c None = ⊥
Stops n k (m ∷ ms) c (Some s) = TurnedDown n m k s

-- commands that c closes, replayed from the memory l to k: the first of them are carried out in their order, up to one
-- that the bench turns down, and they are counted
pub record Plays (n : SystemNet) (ms : List Move) (c : Close) (l k : Lent) (r : Replayed) : Type 0 where
  pub moves : List Move
  pub left : List Move
  pub whole : ms ≡ moves ++ left
  pub done : Done n l moves k
  pub carried : r.carried ≡ length moves
  pub stops : Stops n k left c r.stop

-- what the bytes of a trace say, replayed from the memory l to k
pub record Ran (n : SystemNet) (bs : List ℕ) (l k : Lent) (r : Replayed) : Type 0 where
  pub said : List Move
  pub close : Close
  pub says : SaysOnly bs said close
  pub plays : Plays n said close l k r

-- how many commands were carried out, and what ended that
abbrev pub replayed : ℕ → Result (Unit {0}) Stop → Replayed
replayed k (Ok u) = record { carried = k; stop = None }
replayed k (Err s) = record { carried = k; stop = Some s }

-- a trace replayed on a new bench, from the memory l to k; the trail leads to the marking, which a run of the net so
-- reaches, and no cell holds more than a bound of it
pub record Played (n : SystemNet) (bs : List ℕ) (l k : Lent) (r : Replayed) : Type 0 where
  pub start : Lent
  pub begun : Begun n l start
  pub ran : Ran n bs start k r
  pub leads : Leads n k
  pub reachable : Reachable n (marking k)
  pub bounded : (c b : ℕ) → Bounded n c b → marking k c ≤ b

-- what a replay answers: counts that are not one for each cell are a fault of memory, and nothing is changed; else the
-- trace is replayed in the memory lent, which holds afterwards what the bench held at the end
abbrev pub ReplayCalled : SystemNet → List ℕ → List ℕ → LentList Firing → List ℕ → LentList Firing → Result Replayed Fault → Type 0
ReplayCalled n bs counts trail counts' trail' (Ok r) = (length counts ≡ cells) × Played n bs (lends counts trail) (lends counts' trail') r
ReplayCalled n bs counts trail counts' trail' (Err e) = (length counts ≢ cells) × (e ≡ Memory) × (counts' ≡ counts) × (trail' ≡ trail)

-- a recording replayed on a new bench, from the memory l to k: the commands recorded are carried out in their order, up
-- to the first that the bench turns down; so no fault of the bytes ever stops it
pub record RecordingPlayed (n : SystemNet) (mem : List ℕ) (e : EndedRecording) (l k : Lent) (r : Replayed) : Type 0 where
  pub played : Played n (take e.len mem) l k r
  pub commands : (ms : List Move) → HoldsTrace mem e ms → Plays n ms end played.start k r

-- what the replay of a recording answers: counts that are not one for each cell, or memory of another length than the
-- recording's, are a fault of memory, and nothing is changed
abbrev pub RecordingCalled : SystemNet → List ℕ → EndedRecording → List ℕ → LentList Firing → List ℕ → LentList Firing → Result Replayed Fault → Type 0
RecordingCalled n mem e counts trail counts' trail' (Ok r) =
    (length mem ≡ e.room) × (length counts ≡ cells) × RecordingPlayed n mem e (lends counts trail) (lends counts' trail') r
RecordingCalled n mem e counts trail counts' trail' (Err f) =
    (length mem ≡ e.room → length counts ≢ cells) × (f ≡ Memory) × (counts' ≡ counts) × (trail' ≡ trail)
