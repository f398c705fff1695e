-- Surveys: all claims judged by their kinds, one after the other, onto a sheet; or why not.
use Rattle.std.specs.Prelude.{◌≡◌, ℕ, zero, suc, ◌+◌, ◌<◌, ◌≤◌, List, [], ◌∷◌, ◌++◌, length, drop, Ok, Err, Result}
use Rattle.lent.specs.Held.{held, memory}
use Rattle.lent.specs.declared.list.LentList.{LentList}
use Rattle.term.specs.declared.fault.Fault.{Fault}
use Rattle.term.specs.declared.fault.Fault.TheVariants as fault
use Rattle.net.specs.System.{SystemNet}
use Rattle.judge.specs.Calls.{Fits, Memory}
use Rattle.judge.specs.Kinds.{ByItsKind, Outcome}

-- judging the first c claims leads from the memory m to the memory k, with these outcomes
unfoldable pub Judges : SystemNet → Memory → ℕ → Memory → List Outcome → Type 0
Judges n m zero k os = (k ≡ m) × (os ≡ [])
Judges n m (suc c) k os = (x : Memory) × (first : List Outcome) × (o : Outcome) × (Judges n m c x first × ByItsKind n c x k (Ok o) × (os ≡ first ++ o ∷ []))

-- the sheet t holds what s held and then these outcomes, and the rest of its memory is as it was
pub record Noted (s t : LentList Outcome) (os : List Outcome) : Type 0 where
  pub holds : held t ≡ held s ++ os
  pub long : length (memory t) ≡ length (memory s)
  pub rest : drop (length (held t)) (memory t) ≡ drop (length (held t)) (memory s)

-- the first c claims are judged onto the sheet, with an outcome for each
pub record AllJudged (n : SystemNet) (m k : Memory) (s t : LentList Outcome) (c : ℕ) : Type 0 where
  pub outcomes : List Outcome
  pub judged : Judges n m c k outcomes
  pub noted : Noted s t outcomes

-- the memory has the stated lengths, and the sheet has room for all claims
pub record Ready (n : SystemNet) (m : Memory) (s : LentList Outcome) : Type 0 where
  pub fits : Fits m
  pub room : length (held s) + length n.claims ≤ length (memory s)

-- what a survey answers, from the memory m and the sheet s to the memory k and the sheet t
abbrev pub SurveyCalled : SystemNet → Memory → Memory → LentList Outcome → LentList Outcome → Result (Unit {0}) Fault → Type 0
SurveyCalled n m k s t (Ok u) = Ready n m s × AllJudged n m k s t (length n.claims)
SurveyCalled n m k s t (Err fault.Memory) = (Fits m → ⊥) × (k ≡ m) × (t ≡ s)
SurveyCalled n m k s t (Err fault.TrailFull) = Fits m × (length (memory s) < length (held s) + length n.claims) × (k ≡ m) × (t ≡ s)
SurveyCalled n m k s t (Err e) = ⊥
