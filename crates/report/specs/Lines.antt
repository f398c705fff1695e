-- The lines of a report, as the bytes that are printed, without the line feed that ends each.
use Rattle.std.specs.Prelude.{ℕ, List, [], ◌∷◌, ◌++◌, Some, None, Ok, Err, Option, codes, slice_index}
use Rattle.std.specs.Fmt.{decimal}
use Rattle.term.specs.Faults.{number_of, word_of}
use Rattle.term.specs.declared.fault.FileFault.{FileFault}
use Rattle.judge.specs.Kinds.{Outcome}
use Rattle.report.specs.declared.memory.NoMemory.{NoMemory}
use Rattle.report.specs.declared.memory.NoMemory.TheVariants as no_memory
use Rattle.trace.specs.declared.replays.Replayed.{Replayed}
use Rattle.trace.specs.declared.replays.Stop.{Stop}

-- words and numbers, one space between any two
abbrev pub spaced : List (List ℕ) → List ℕ
spaced [] = []
spaced (w ∷ []) = w
spaced (w ∷ ws) = w ++ 32 ∷ spaced ws

-- net fault NUMBER PLACE STAGE
abbrev pub fault_line : FileFault → List ℕ
fault_line e = spaced (codes "net" ∷ codes "fault" ∷ decimal (number_of e.fault) ∷ decimal e.place ∷ word_of e.stage ∷ [])

-- claim NUMBER accepted MODES, or claim NUMBER broken TRANSITION and the four numbers of a mode
abbrev pub claim_line : ℕ → Outcome → List ℕ
claim_line i (Ok modes) = spaced (codes "claim" ∷ decimal i ∷ codes "accepted" ∷ decimal modes ∷ [])
claim_line i (Err f) =
    spaced (codes "claim" ∷ decimal i ∷ codes "broken" ∷ decimal f.transition ∷ decimal (slice_index f.mode 0) ∷ decimal (slice_index f.mode 1)
    ∷ decimal (slice_index f.mode 2) ∷ decimal (slice_index f.mode 3) ∷ [])

-- how a replay of so many commands ended: replay CARRIED done, or replay CARRIED stopped FAULT PLACE
abbrev pub ended : ℕ → Option Stop → List ℕ
ended carried None = spaced (codes "replay" ∷ decimal carried ∷ codes "done" ∷ [])
ended carried (Some s) = spaced (codes "replay" ∷ decimal carried ∷ codes "stopped" ∷ decimal (number_of s.fault) ∷ decimal s.place ∷ [])

abbrev pub replay_line : Replayed → List ℕ
replay_line r = ended r.carried r.stop

-- cell CELL COUNT
abbrev pub cell_line : ℕ → ℕ → List ℕ
cell_line cell count = spaced (codes "cell" ∷ decimal cell ∷ decimal count ∷ [])

-- why there is no report, as the program prints it on standard error behind "Error: "
abbrev pub want_line : NoMemory → List ℕ
want_line no_memory.Net = codes "out of memory"
want_line no_memory.Other = codes "memory allocation failed"
