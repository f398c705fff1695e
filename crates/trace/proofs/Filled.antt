-- What a memory begins with once bytes are written behind its first ones.
use Rattle.std.proofs.Common.{◌≡◌, ℕ, ◌+◌, ◌≤◌, List, ◌++◌, length, take, drop, Ok, Err, Result, sym, ap, ◌∙◌, append_assoc, arith, length-append, length-take, MatchResult}
use Rattle.std.specs.Result.{result_err}
use Rattle.std.proofs.lemmas.List.{take_at}
use Rattle.std.proofs.lemmas.Bool.Decides.{nat_tests}
use Rattle.term.specs.declared.fault.Fault.{Fault}
use Rattle.trace.specs.Moves.{Move, move_bytes}
use Rattle.trace.specs.Recorded.{Appended, CommandAdded, Kept, adding_fault, put_at}
use Rattle.trace.specs.declared.recording.OpenRecording.{OpenRecording}
use Rattle.trace.proofs.Prefixes.{written_more}

-- the bytes before, and those written
pub put_front : (mem : List ℕ) (at : ℕ) (bs : List ℕ) → at ≤ length mem → take (at + length bs) (put_at mem at bs) ≡ take at mem ++ bs
put_front mem at bs h =
    ap (λ l. take (at + length bs) l) (sym (append_assoc (take at mem) bs (drop (at + length bs) mem)))
    ∙ take_at (take at mem ++ bs) (drop (at + length bs) mem) (at + length bs) (simp (length-append, length-take) (omega arith))

-- a command more, or nothing changed
pub added : {X : Type 0} (o o' : OpenRecording) (mem mem' : List ℕ) (m : Move) (r : Result X Fault) → result_err r ≡ adding_fault o mem (length (move_bytes m)) → MatchResult r (λ _. Appended o o' mem mem' (move_bytes m)) (λ _. Kept o o' mem mem') → MatchResult r (λ _. CommandAdded o o' mem mem' m) (λ _. Kept o o' mem mem')
added o o' mem mem' m (Ok x) h a = record {
  bytes = a;
  records = λ ms t.
      let l : o.len ≤ length mem = grind (arith, nat_tests) in
      let f = put_front mem o.len (move_bytes m) l in
      let g = written_more ms m in
      cc;
}
added o o' mem mem' m (Err e) h a = a
