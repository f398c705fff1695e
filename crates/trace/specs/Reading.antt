-- What the bytes of a trace say.
use Rattle.std.specs.Prelude.{◌≡◌, ℕ, ◌<◌, ◌≤◌, cond, List, [], ◌++◌, length, Some, None, Ok, Err, Option, Result, ◌==◌, nat_le, slice_index}
use Rattle.std.specs.Borrow.{Bor}
use Rattle.std.specs.List.{between}
use Rattle.term.specs.Check.{spot}
use Rattle.term.specs.declared.fault.Fault.{Fault}
use Rattle.term.specs.declared.fault.Fault.TheVariants as fail
use Rattle.trace.specs.declared.commands.Command.{Command}
use Rattle.trace.specs.declared.replays.Stop.{Stop}
use Rattle.trace.specs.Moves.{Move, fire, back, restart, longest_trace, move_of, written}

-- what closes a trace: its end, or a fault at a byte
pub data Close : Type 0 where
  end : Close
  fault : Fault → ℕ → Close

-- what comes first: a command and the bytes after it, or what closes the trace
pub data First : Type 0 where
  move : Move → List ℕ → First
  close : Close → First

-- a fire: the transition and four mode numbers, of any value; a cut-off one is a fault at the length
abbrev pub fire_at : List ℕ → ℕ → First
fire_at bs ends =
    cond (nat_le 6 (length bs))
    (move (fire (slice_index bs 1) (slice_index bs 2) (slice_index bs 3) (slice_index bs 4) (slice_index bs 5)) (between 6 (length bs) bs))
    (close (fault fail.Ends ends))

-- the end: nothing may follow it, or there is a fault at the first byte after it
abbrev pub end_at : List ℕ → ℕ → First
end_at bs ends = cond (nat_le 2 (length bs)) (close (fault fail.Trailing (spot bs ends 1))) (close end)

-- what the bytes bs, the last of a trace of so many bytes, begin with: where there is no byte, a fault at the
-- length; where it is no command, at that byte
abbrev pub first_of : List ℕ → ℕ → First
first_of bs ends =
    cond (nat_le 1 (length bs))
    (cond (slice_index bs 0 == 0x40) (fire_at bs ends)
    (cond (slice_index bs 0 == 0x41) (move back (between 1 (length bs) bs))
    (cond (slice_index bs 0 == 0x42) (move restart (between 1 (length bs) bs))
    (cond (slice_index bs 0 == 0x4F) (end_at bs ends)
    (close (fault fail.NoCommand (spot bs ends 0)))))))
    (close (fault fail.Ends ends))

-- what was read
abbrev pub seen : Result (Option (Command × Bor (List ℕ))) Stop → First
seen (Ok (Some x)) = move (move_of x.0) x.1.now
seen (Ok None) = close end
seen (Err stop) = close (fault stop.fault stop.place)

-- what follows a command, if one was read, is shorter than n
abbrev pub Shorter : Result (Option (Command × Bor (List ℕ))) Stop → ℕ → Type 0
Shorter (Ok (Some x)) n = length x.1.now < n
Shorter (Ok None) n = Unit {0}
Shorter (Err stop) n = Unit {0}

-- what a whole trace says: commands, written one after the other, and what closes it behind them;
-- nothing of a trace longer than the longest, which is a fault at that length
pub data Says (bs : List ℕ) : List Move → Close → Type 0 where
  says : {ms : List Move} {c : Close} (rest : List ℕ) → length bs ≤ longest_trace → bs ≡ written ms ++ rest → first_of rest (length bs) ≡ close c → Says bs ms c
  too_long : longest_trace < length bs → Says bs [] (fault fail.TooLong longest_trace)

-- a trace says these commands and closes so, and it says nothing else
pub record SaysOnly (bs : List ℕ) (ms : List Move) (c : Close) : Type 0 where
  pub this : Says bs ms c
  pub only : (ns : List Move) (d : Close) → Says bs ns d → (ns ≡ ms) × (d ≡ c)
