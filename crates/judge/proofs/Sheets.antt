-- One claim more on a sheet.
use Rattle.std.proofs.Common.{◌≡◌, ℕ, zero, suc, ◌+◌, ◌<◌, List, [], ◌∷◌, ◌++◌, length, drop, set, Ok, sym, refl, ap, ◌∙◌, append_assoc, add-one, arith, length-append, length-set}
use Rattle.std.proofs.lemmas.List.{drop-drop, drop-set-lt}
use Rattle.lent.specs.Held.{held, memory}
use Rattle.lent.specs.declared.list.LentList.{LentList}
use Rattle.net.specs.System.{SystemNet}
use Rattle.judge.specs.Calls.{Memory}
use Rattle.judge.specs.Kinds.{ByItsKind, Outcome}
use Rattle.judge.specs.Surveys.{AllJudged, Judges, Noted, Ready}

longer : (xs ys : List Outcome) (o : Outcome) → ys ≡ xs ++ o ∷ [] → length ys ≡ length xs + 1
longer xs ys o e = ap length e ∙ length-append xs (o ∷ [])

-- nothing is noted, or one outcome
noted_none : (s : LentList Outcome) → Noted s s []
noted_none s = record { holds = sym (append_nil (held s)); long = refl; rest = refl }
  where
    append_nil : (xs : List Outcome) → xs ++ [] ≡ xs
    append_nil [] = refl
    append_nil (x ∷ xs) = ap (λ (ys : List Outcome). x ∷ ys) (append_nil xs)

noted_one : (s t : LentList Outcome) (o : Outcome) → held t ≡ held s ++ o ∷ [] → memory t ≡ set (memory s) (length (held s)) o → Noted s t (o ∷ [])
noted_one s t o h m =
    let l = longer (held s) (held t) o h in
    record {
      holds = h;
      long = ap length m ∙ length-set (memory s) (length (held s)) o;
      rest = ap (drop (length (held t))) m ∙ drop-set-lt (length (held t)) (memory s) (length (held s)) o (omega arith);
    }

drop_more : (n : ℕ) (xs : List Outcome) → drop (n + 1) xs ≡ drop 1 (drop n xs)
drop_more n xs = sym (drop-drop 1 n xs)

-- one more after the others
noted_more : (s x t : LentList Outcome) (os : List Outcome) (o : Outcome) → Noted s x os → Noted x t (o ∷ []) → Noted s t (os ++ o ∷ [])
noted_more s x t os o a b =
    let l = longer (held x) (held t) o b.holds in
    let shift : (xs : List Outcome) → drop (length (held t)) xs ≡ drop 1 (drop (length (held x)) xs) = λ xs. ap (λ (k : ℕ). drop k xs) l ∙ drop_more (length (held x)) xs in
    record {
      holds = b.holds ∙ ap (λ (ys : List Outcome). ys ++ o ∷ []) a.holds ∙ append_assoc (held s) os (o ∷ []);
      long = b.long ∙ a.long;
      rest = b.rest ∙ shift (memory x) ∙ ap (drop 1) a.rest ∙ sym (shift (memory s));
    }

judges_none : (n : SystemNet) (m : Memory) → Judges n m 0 m []
unfolding Judges
judges_none n m = (refl, refl)

judges_more : (n : SystemNet) (m x k : Memory) (c : ℕ) (os : List Outcome) (o : Outcome) → Judges n m c x os → ByItsKind n c x k (Ok o) → Judges n m (c + 1) k (os ++ o ∷ [])
unfolding Judges
judges_more n m x k c os o a b = rw add-one (x, os, o, (a, b, refl))

pub judges_long : (n : SystemNet) (m k : Memory) (c : ℕ) (os : List Outcome) → Judges n m c k os → length os ≡ c
unfolding Judges
judges_long n m k zero os j = ap length j.1
judges_long n m k (suc c) os j =
    let h = judges_long n m j.0 c j.1 j.3.0 in
    let l = longer j.1 os j.2 j.3.2 in
    omega arith

module _ (n : SystemNet) (m : Memory) (s : LentList Outcome) where
  pub added_none : AllJudged n m m s s 0
  added_none = record { outcomes = []; judged = judges_none n m; noted = noted_none s }

  pub added_more : (x k : Memory) (y t : LentList Outcome) (c : ℕ) (o : Outcome) → AllJudged n m x s y c → ByItsKind n c x k (Ok o)
      → held t ≡ held y ++ o ∷ [] → memory t ≡ set (memory y) (length (held y)) o → AllJudged n m k s t (c + 1)
  added_more x k y t c o a b h e = record {
    outcomes = a.outcomes ++ o ∷ [];
    judged = judges_more n m x k c a.outcomes o a.judged b;
    noted = noted_more s y t a.outcomes o a.noted (noted_one y t o h e);
  }

  -- where there was room for all claims, there is for one more
  pub still_room : (k : Memory) (t : LentList Outcome) (c : ℕ) → Ready n m s → AllJudged n m k s t c → c < length n.claims → length (held t) < length (memory t)
  still_room k t c ready a h =
      let held_now = ap length a.noted.holds ∙ length-append (held s) a.outcomes in
      let whole = a.noted.long in
      omega (arith, judges_long n m k c a.outcomes a.judged, ready.room)
