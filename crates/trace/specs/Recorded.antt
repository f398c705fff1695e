-- Recordings: which bytes the memory holds, and which fault a call gives.
use Rattle.std.specs.Prelude.{◌≡◌, ℕ, ◌+◌, min, cond, List, [], ◌∷◌, ◌++◌, length, take, drop, Some, None, Option, ◌==◌, nat_le}
use Rattle.term.specs.declared.fault.Fault.{Fault}
use Rattle.term.specs.declared.fault.Fault.TheVariants as fail
use Rattle.trace.specs.Moves.{Move, end_bytes, longest_trace, move_bytes, trace_of, written}
use Rattle.trace.specs.declared.recording.EndedRecording.{EndedRecording}
use Rattle.trace.specs.declared.recording.OpenRecording.{OpenRecording}

-- the first bytes of the memory are those of the commands added so far
abbrev pub Records : List ℕ → OpenRecording → List Move → Type 0
Records mem o ms = take o.len mem ≡ written ms

-- the first bytes of the memory are a whole trace of the commands
abbrev pub HoldsTrace : List ℕ → EndedRecording → List Move → Type 0
HoldsTrace mem e ms = take e.len mem ≡ trace_of ms

-- the memory with some bytes written at a place, the rest as it was
abbrev pub put_at : List ℕ → ℕ → List ℕ → List ℕ
put_at mem at bs = take at mem ++ (bs ++ drop (at + length bs) mem)

-- the fault that opening gives, if it is refused: where the memory has no byte for the end
abbrev pub opening_fault : List ℕ → Option Fault
opening_fault mem = cond (nat_le 1 (length mem)) None (Some fail.RecordingFull)

-- the fault that adding n bytes gives, if it is refused: where the memory has another length, and where they and the free
-- byte do not fit into the memory or into a trace
abbrev pub adding_fault : OpenRecording → List ℕ → ℕ → Option Fault
adding_fault o mem n =
    cond (length mem == o.room)
    (cond (nat_le (o.len + n + 1) (min (length mem) longest_trace)) None (Some fail.RecordingFull))
    (Some fail.Memory)

-- the fault that memory gives where n bytes are to be lent, if it has another length
abbrev pub memory_fault : ℕ → List ℕ → Option Fault
memory_fault n mem = cond (length mem == n) None (Some fail.Memory)

-- bytes are appended, and nothing else is changed
pub record Appended (o o' : OpenRecording) (mem mem' bs : List ℕ) : Type 0 where
  pub memory : mem' ≡ put_at mem o.len bs
  pub len : o'.len ≡ o.len + length bs
  pub room : o'.room ≡ o.room

-- nothing is changed
pub record Kept (o o' : OpenRecording) (mem mem' : List ℕ) : Type 0 where
  pub memory : mem' ≡ mem
  pub recording : o' ≡ o

-- one command more is recorded
pub record CommandAdded (o o' : OpenRecording) (mem mem' : List ℕ) (m : Move) : Type 0 where
  pub bytes : Appended o o' mem mem' (move_bytes m)
  pub records : (ms : List Move) → Records mem o ms → Records mem' o' (ms ++ m ∷ [])

-- the end is written, and what was recorded is a whole trace
pub record Closed (o : OpenRecording) (e : EndedRecording) (mem mem' : List ℕ) : Type 0 where
  pub memory : mem' ≡ put_at mem o.len end_bytes
  pub len : e.len ≡ o.len + 1
  pub room : e.room ≡ o.room
  pub records : (ms : List Move) → Records mem o ms → HoldsTrace mem' e ms
