-- The answer on a claim, computed: the contract of judging by kind allows a result that shows it, and none that shows another.
use Rattle.std.proofs.Common.{◌≡◌, ℕ, zero, suc, ◌<◌, Bool, true, false, cond, ◌&&◌, eqb, ltb, List, [], ◌∷◌, length, map, get_or, ℤ, pos, Some, None, Ok, Err, Option, Result, sym, refl, ap, ◌∙◌, subst, true≢false, zero-add, arith, eqb-true, ltb-true}
use Rattle.std.specs.List.{range_with_len}
use Rattle.std.proofs.Math.Path.{transport}
use Rattle.std.proofs.lemmas.List.FromFn.{get_or-map-range_with_len}
use Rattle.domain.specs.Meaning.{Laws, Meaning}
use Rattle.domain.specs.declared.kind.Kind.{Kind}
use Rattle.domain.specs.declared.kind.Kind.TheVariants as kind
use Rattle.term.specs.Worth.{Marking}
use Rattle.term.specs.declared.fault.Fault.{Fault}
use Rattle.term.specs.declared.fault.Fault.TheVariants as fault
use Rattle.net.specs.Nets.{claim_of, codes_of, given, taken}
use Rattle.net.specs.System.{SystemNet}
use Rattle.judge.specs.Calls.{AllWeigh, Fits, JudgeCalled, Left, Memory, no_tokens}
use Rattle.judge.specs.Judged.{Judged, Verdict}
use Rattle.judge.specs.Kinds.{ByItsKind, ByKind, KindCalled, Outcome}
use Rattle.judge.proofs.Markings.{exactly, keeps}
use Rattle.worked.specs.Rows.{Answer, Shows, verdict_shown}
use Rattle.worked.proofs.Decided.{Values, domain_of, laws_of, related, related_tells}
use Rattle.worked.proofs.Judging.{judged, only_one, verdict, outcome_of}

-- what a row says, where an answer was computed
abbrev pub Sound : (Answer → Type 0) → Option Answer → Type 0
Sound P (Some a) = P a
Sound P None = Unit {0}

-- p holds of each
abbrev pub every : {A : Type 0} → (A → Bool) → List A → Bool
every p [] = true
every p (x ∷ xs) = p x && every p xs

pub both_true : (a b : Bool) → (a && b) ≡ true → (a ≡ true) × (b ≡ true)
both_true true true e = (refl, refl)
both_true true false e = absurd (true≢false (sym e))
both_true false b e = absurd (true≢false (sym e))

pub every_is : {A : Type 0} (p : A → Bool) (xs : List A) (d : A) → every p xs ≡ true → (c : ℕ) → c < length xs → p (get_or xs c d) ≡ true
every_is p [] d e c h = let z : ⊥ = omega arith in elim z [ ]
every_is p (x ∷ xs) d e zero h = (both_true (p x) (every p xs) e).0
every_is p (x ∷ xs) d e (suc c) h = every_is p xs d (both_true (p x) (every p xs) e).1 c (omega arith)

-- the kind of a claim
abbrev pub kind_at : SystemNet → ℕ → Kind
kind_at n claim = (claim_of n claim).kind

-- the verdict on a claim by its kind
abbrev pub verdict_by : (n : SystemNet) (claim : ℕ) (x : Kind) → Verdict (Values x)
verdict_by n claim x = verdict (domain_of x) (related x) (codes_of n claim) n

-- the claim has a code for each cell, all of them weights
abbrev pub weights : SystemNet → ℕ → Kind → Bool
weights n claim x = eqb (length (codes_of n claim)) 1024 && every (domain_of x).weighs (codes_of n claim)

abbrev answer_by : SystemNet → ℕ → Kind → Option Answer
answer_by n claim x = cond (weights n claim x) (Some (verdict_shown (Ok (outcome_of (verdict_by n claim x))))) None

abbrev pub judging : SystemNet → ℕ → Option Answer
judging n claim = cond (ltb claim (length n.claims)) (answer_by n claim (kind_at n claim)) None

pub verdict_judged : (n : SystemNet) (claim : ℕ) (x : Kind) → Judged (domain_of x) (codes_of n claim) n (verdict_by n claim x)
verdict_judged n claim x = judged (laws_of x) (related x) (related_tells x) (codes_of n claim) n

pub weights_are : (n : SystemNet) (claim : ℕ) (x : Kind) → weights n claim x ≡ true → (length (codes_of n claim) ≡ 1024) × AllWeigh (domain_of x) (codes_of n claim)
weights_are n claim x e = let b = both_true _ _ e in (eqb-true _ _ b.0, every_is (domain_of x).weighs (codes_of n claim) (pos 0) b.1)

-- the counts of a marking
abbrev tally : ℕ → Marking → List ℕ
tally k m = map m (range_with_len 0 k)

tallied : (k : ℕ) (m : Marking) → (c : ℕ) → c < k → get_or (tally k m) c 0 ≡ m c
tallied k m c h = get_or-map-range_with_len m 0 k c c 0 h (zero-add c)

-- what judging leaves in the counts
left : {V : Type 0} (n : SystemNet) (v : Verdict V) → (b : List ℕ) × ((a : List ℕ) × Left n v b a)
left n (Ok c) = (no_tokens, (no_tokens, (refl, refl)))
left n (Err x) =
    let t = taken n x.firing.transition x.firing.mode in
    let g = given n x.firing.transition x.firing.mode in
    (tally 1024 t, (tally 1024 g, (tallied 1024 t, tallied 1024 g)))

-- a claim of which all codes are weights, a verdict on it, and memory
module _ {V : Type 0} {d : Meaning V} (laws : Laws d) (n : SystemNet) (claim : ℕ) (there : claim < length n.claims) (long : length (codes_of n claim) ≡ 1024) (all : AllWeigh d (codes_of n claim)) (v : Verdict V) (j : Judged d (codes_of n claim) n v) (m : Memory) (fits : Fits m) where
  -- the call can answer the verdict
  pub called : (k : Memory) × JudgeCalled d n claim m k (Ok v)
  called =
      let a = left n v in (
        record { codes = codes_of n claim; before = a.0; after = a.1.0 },
        (
          fits,
          there,
          refl,
          all,
          record { judged = j; exactly = exactly laws (codes_of n claim) long n v j; keeps = keeps laws (codes_of n claim) long n v j; left = a.1.1 },
        ),
      )

  -- by kind it can answer the verdict without its values
  by_called : (k : Memory) → JudgeCalled d n claim m k (Ok v) → KindCalled d n claim m k (Ok (outcome_of v))
  by_called k = without v
    where
      without : (u : Verdict V) → JudgeCalled d n claim m k (Ok u) → KindCalled d n claim m k (Ok (outcome_of u))
      without (Ok c) h = h
      without (Err x) h = (x.before, (x.after, h))

  pub by_some : (k : Memory) × KindCalled d n claim m k (Ok (outcome_of v))
  by_some = (called.0, by_called called.0 called.1)

  -- a verdict that the call can answer is this one, but for its values
  same_outcome : (k : Memory) (u : Verdict V) → JudgeCalled d n claim m k (Ok u) → verdict_shown (Ok (outcome_of v)) ≡ verdict_shown (Ok (outcome_of u))
  same_outcome k u c = only_one d (codes_of n claim) n v u j (subst (λ (x : List ℤ). Judged d x n u) c.2 c.4.judged)

  -- and no fault
  never_refused : (k : Memory) (e : Fault) → JudgeCalled d n claim m k (Err e) → ⊥
  never_refused k fault.Memory c = c.0 fits
  never_refused k fault.NoClaim c = let h = c.0.1 in let z : ⊥ = omega arith in z
  never_refused k fault.NoWeight c = c.3 (subst (AllWeigh d) (sym c.2) all)
  never_refused k e c = absurd c

  by_only : (k : Memory) (r : Result Outcome Fault) → KindCalled d n claim m k r → verdict_shown (Ok (outcome_of v)) ≡ verdict_shown r
  by_only k (Ok (Ok c)) b = same_outcome k (Ok c) b
  by_only k (Ok (Err f)) b = same_outcome k (Err (record { firing = f; before = b.0; after = b.1.0 })) b.1.1
  by_only k (Err e) b = absurd (never_refused k e b)

-- judging by kind is judging under the kind's domain
by_kind : (x : Kind) (n : SystemNet) (claim : ℕ) (m k : Memory) (r : Result Outcome Fault) → ByKind x n claim m k r ≡ KindCalled (domain_of x) n claim m k r
by_kind kind.Equal n claim m k r = refl
by_kind kind.NeverRises n claim m k r = refl
by_kind kind.NeverFalls n claim m k r = refl
by_kind (kind.Modulo z) n claim m k r = refl
by_kind kind.Trap n claim m k r = refl
by_kind kind.Siphon n claim m k r = refl

-- a contract that is D: the answer is that of a result which D allows, where all that D allows show it
pub shows : {R : Type 0} (C : Memory → Memory → Result R Fault → Type 0) (shown : Result R Fault → Answer)
    → (D : Memory → Memory → Result R Fault → Type 0) → ((m k : Memory) (r : Result R Fault) → C m k r ≡ D m k r)
    → (r : Result R Fault) → ((m : Memory) → Fits m → (k : Memory) × D m k r) → ((m k : Memory) (s : Result R Fault) → Fits m → D m k s → shown r ≡ shown s)
    → Shows C shown (shown r)
shows C shown D same r some only = record {
  some = λ m fits. let k = some m fits in (k.0, (r, (transport (sym (same m k.0 r)) k.1, refl)));
  only = λ m k s fits c. only m k s fits (transport (same m k s) c);
}

-- what a claim's answer is to be
abbrev pub Judging : SystemNet → ℕ → Answer → Type 0
Judging n claim a = Shows (ByItsKind n claim) verdict_shown a

-- the answer computed is the answer
pub judging_sound : (n : SystemNet) (claim : ℕ) → Sound (Judging n claim) (judging n claim)
judging_sound n claim = by_claim (ltb claim (length n.claims)) refl
  where
    by_weights : (x : Kind) (b : Bool) → x ≡ kind_at n claim → claim < length n.claims → weights n claim x ≡ b → Sound (Judging n claim) (cond b (Some (verdict_shown (Ok (outcome_of (verdict_by n claim x))))) None)
    by_weights x false is h e = tt
    by_weights x true is h e =
        let v = verdict_by n claim x in
        let j = verdict_judged n claim x in
        let f = weights_are n claim x e in
        shows (ByItsKind n claim) verdict_shown (KindCalled (domain_of x) n claim)
        (λ m k r. ap (λ (z : Kind). ByKind z n claim m k r) (sym is) ∙ by_kind x n claim m k r)
        (Ok (outcome_of v))
        (λ m fits. by_some (laws_of x) n claim h f.0 f.1 v j m fits)
        (λ m k r fits b. by_only (laws_of x) n claim h f.0 f.1 v j m fits k r b)

    by_claim : (b : Bool) → ltb claim (length n.claims) ≡ b → Sound (Judging n claim) (cond b (answer_by n claim (kind_at n claim)) None)
    by_claim false e = tt
    by_claim true e = by_weights (kind_at n claim) (weights n claim (kind_at n claim)) refl (ltb-true claim (length n.claims) e) refl
