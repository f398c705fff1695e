-- Judging, computed: the verdict is one that the relation has, and every verdict that it has shows the same answer.
use Rattle.std.proofs.Common.{◌≡◌, ℕ, zero, suc, ◌+◌, ◌<◌, Bool, true, false, not, ◌&&◌, List, length, ℤ, Some, None, Ok, Err, Option, sym, refl, ap, ◌∙◌, subst, true≢false, add-one, arith, below_more}
use Rattle.domain.specs.Meaning.{Laws, Meaning, Tells}
use Rattle.net.specs.Nets.{given, guard_holds, mode, modes_of, taken}
use Rattle.net.specs.System.{SystemNet}
use Rattle.judge.specs.Judged.{First, Judged, Kept, KeptAll, Verdict, after, before, true_modes, true_modes_to}
use Rattle.judge.specs.Kinds.{Outcome}
use Rattle.judge.specs.declared.verdict.Breach.{Breach}
use Rattle.worked.specs.Rows.{broken, verdict_shown}
use Rattle.worked.proofs.First.{IsFirst, first, first_is, order}
use Rattle.worked.proofs.Values.{worth, worth_is}

-- a verdict without its values
abbrev pub outcome_of : {V : Type 0} → Verdict V → Outcome
outcome_of (Ok c) = Ok c
outcome_of (Err x) = Err x.firing

module _ {V : Type 0} (d : Meaning V) (rel : V → V → Bool) (codes : List ℤ) (n : SystemNet) where
  abbrev keeps : ℕ → List ℕ → Bool
  keeps t m = rel (worth d codes (taken n t m)) (worth d codes (given n t m))

  -- the mode of a number breaks the claim
  abbrev breaks : ℕ → ℕ → Bool
  breaks t i = guard_holds n t (mode n t i) && not (keeps t (mode n t i))

  -- the mode of a number as the breach of a claim
  abbrev breach : ℕ → ℕ → Breach V
  breach t i = record {
    firing = record { transition = t; mode = mode n t i };
    before = before d codes n t (mode n t i);
    after = after d codes n t (mode n t i);
  }

  -- c modes of the transitions before k are accepted
  abbrev over : ℕ → ℕ → Option ℕ → Verdict V
  over k c None = Ok (c + true_modes n k (modes_of n k))
  over k c (Some i) = Err (breach k i)

  abbrev onward : ℕ → Verdict V → Verdict V
  onward k (Ok c) = over k c (first (breaks k) (modes_of n k))
  onward k (Err x) = Err x

  abbrev verdict_to : ℕ → Verdict V
  verdict_to zero = Ok 0
  verdict_to (suc k) = onward k (verdict_to k)

  abbrev pub verdict : Verdict V
  verdict = verdict_to (length n.transitions)

both : (a b : Bool) → (a && not b) ≡ true → (a ≡ true) × (b ≡ false)
both true false e = (refl, refl)
both true true e = absurd (true≢false (sym e))
both false b e = absurd (true≢false (sym e))

neither : (a b : Bool) → (a && not b) ≡ false → a ≡ true → b ≡ true
neither true true e g = refl
neither true false e g = absurd (true≢false e)
neither false b e g = absurd (true≢false (sym g))

module _ {V : Type 0} {d : Meaning V} (l : Laws d) (rel : V → V → Bool) (tells : (v w : V) → Tells (rel v w) (d.rel v w)) (codes : List ℤ) (n : SystemNet) where
  abbrev Related : ℕ → List ℕ → Type 0
  Related t m = d.rel (before d codes n t m) (after d codes n t m)

  keeps_tells : (t : ℕ) (m : List ℕ) → Tells (keeps d rel codes n t m) (Related t m)
  keeps_tells t m =
      let v = worth d codes (taken n t m) in
      let w = worth d codes (given n t m) in
      subst (λ (x : V). Tells (rel v w) (d.rel x (after d codes n t m))) (worth_is l codes (taken n t m))
      (subst (λ (y : V). Tells (rel v w) (d.rel v y)) (worth_is l codes (given n t m)) (tells v w))

  related : (t : ℕ) (m : List ℕ) → keeps d rel codes n t m ≡ true → Related t m
  related t m e = subst (λ (b : Bool). Tells b (Related t m)) e (keeps_tells t m)

  apart : (t : ℕ) (m : List ℕ) → keeps d rel codes n t m ≡ false → Related t m → ⊥
  apart t m e = subst (λ (b : Bool). Tells b (Related t m)) e (keeps_tells t m)

  -- modes that do not break the claim
  kept : (t i : ℕ) → ((j : ℕ) → j < i → breaks d rel codes n t j ≡ false) → Kept d codes n t i
  kept t i fails j h g = related t (mode n t j) (neither (guard_holds n t (mode n t j)) (keeps d rel codes n t (mode n t j)) (fails j h) g)

  -- the answer for the first k transitions
  abbrev JudgedTo : ℕ → Verdict V → Type 0
  JudgedTo k (Ok c) = (c ≡ true_modes_to n k) × KeptAll d codes n k
  JudgedTo k (Err x) = (x.firing.transition < k) × KeptAll d codes n x.firing.transition × First d codes n x.firing.transition x.firing.mode x.before x.after

  judged_to : (k : ℕ) → JudgedTo k (verdict_to d rel codes n k)
  unfolding true_modes_to
  judged_to zero = (refl, λ t h. let z : ⊥ = omega arith in elim z [ ])
  judged_to (suc k) = step (verdict_to d rel codes n k) (judged_to k)
    where
      ends : (c : ℕ) (o : Option ℕ) → (c ≡ true_modes_to n k) × KeptAll d codes n k → IsFirst (breaks d rel codes n k) (modes_of n k) o → JudgedTo (suc k) (over d rel codes n k c o)
      ends c None (is, all) fails =
          (ap (λ (x : ℕ). x + true_modes n k (modes_of n k)) is, subst (λ (x : ℕ). KeptAll d codes n x) (add-one k) (below_more _ k all (kept k (modes_of n k) fails)))
      ends c (Some i) (is, all) (h, holds, fails) =
          let s = both (guard_holds n k (mode n k i)) (keeps d rel codes n k (mode n k i)) holds in
          (omega arith, all, record { index = i; within = h; is = refl; fires = s.0; before_is = refl; after_is = refl; apart = apart k (mode n k i) s.1; earlier = kept k i fails })

      step : (v : Verdict V) → JudgedTo k v → JudgedTo (suc k) (onward d rel codes n k v)
      step (Ok c) j = ends c (first (breaks d rel codes n k) (modes_of n k)) j (first_is (breaks d rel codes n k) (modes_of n k))
      step (Err x) (h, all, f) = (omega arith, all, f)

  shut : (r : Verdict V) → JudgedTo (length n.transitions) r → Judged d codes n r
  shut (Ok c) j = j
  shut (Err x) j = j

  -- the verdict computed is one that the relation has
  pub judged : Judged d codes n (verdict d rel codes n)
  judged = shut (verdict_to d rel codes n (length n.transitions)) (judged_to (length n.transitions))

module _ {V : Type 0} (d : Meaning V) (codes : List ℤ) (n : SystemNet) where
  -- a broken mode is not among those that are kept
  clash : (t : ℕ) (m : List ℕ) (v w : V) (i : ℕ) → (f : First d codes n t m v w) → Kept d codes n t i → f.index < i → ⊥
  clash t m v w i f k h =
      let e = f.is in
      let r = k f.index h (ap (guard_holds n t) (sym e) ∙ f.fires) in
      f.apart (rw (f.before_is, f.after_is, e) r)

  same_mode : (t : ℕ) (m x : List ℕ) (v w y z : V) → First d codes n t m v w → First d codes n t x y z → m ≡ x
  same_mode t m x v w y z f g =
      let i : f.index ≡ g.index = order f.index g.index (clash t m v w g.index f g.earlier) (clash t x y z f.index g f.earlier) in
      f.is ∙ ap (mode n t) i ∙ sym g.is

  -- an accepted claim is not broken
  pub never : (c : ℕ) (x : Breach V) → Judged d codes n (Ok c) → Judged d codes n (Err x) → ⊥
  never c x j h = clash x.firing.transition x.firing.mode x.before x.after (modes_of n x.firing.transition) h.2 (j.1 x.firing.transition h.0) h.2.within

  -- the relation has one verdict
  pub only_one : (r s : Verdict V) → Judged d codes n r → Judged d codes n s → verdict_shown (Ok (outcome_of r)) ≡ verdict_shown (Ok (outcome_of s))
  only_one (Ok c) (Ok k) j h = ap (λ (x : ℕ). verdict_shown (Ok (Ok x))) (j.0 ∙ sym h.0)
  only_one (Ok c) (Err x) j h = absurd (never c x j h)
  only_one (Err x) (Ok c) h j = absurd (never c x j h)
  only_one (Err x) (Err y) j h =
      let t = x.firing.transition in
      let u = y.firing.transition in
      let e : t ≡ u = order t u (λ s. clash t x.firing.mode x.before x.after (modes_of n t) j.2 (h.1 t s) j.2.within) (λ s. clash u y.firing.mode y.before y.after (modes_of n u) h.2 (j.1 u s) h.2.within) in
      let m : x.firing.mode ≡ y.firing.mode = same_mode t x.firing.mode y.firing.mode x.before x.after y.before y.after j.2 (subst (λ (s : ℕ). First d codes n s y.firing.mode y.before y.after) (sym e) h.2) in
      ap (λ (s : List ℕ). broken t s) m ∙ ap (λ (s : ℕ). broken s y.firing.mode) e
