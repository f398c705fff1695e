-- A claim has one verdict by its kind: the memory that it is judged from makes no difference.
use Rattle.std.proofs.Common.{◌≡◌, ℕ, ◌<◌, ◌⊎◌, true, List, ℤ, Ok, Err, sym, refl, ap, ◌∙◌, subst, ⊎_elim}
use Rattle.domain.specs.Meaning.{Meaning}
use Rattle.domain.specs.Domains.{equal, modulo, never_rises, siphon, turned}
use Rattle.domain.specs.declared.kind.Kind.{Kind}
use Rattle.domain.specs.declared.kind.Kind.TheVariants as kind
use Rattle.net.specs.System.{SystemNet}
use Rattle.net.specs.Nets.{claim_of, codes_of, guard_holds, mode}
use Rattle.net.specs.declared.firing.Firing.{Firing}
use Rattle.judge.specs.Calls.{Memory}
use Rattle.judge.specs.Judged.{First, Judged, Kept, Verdict, after, before}
use Rattle.judge.specs.Kinds.{ByKind, KindCalled, Outcome}
use Rattle.report.specs.Report.{Answers}
use Rattle.report.proofs.Below.{below_same_above}

-- a verdict without its values
abbrev outcome_of : {V : Type 0} → Verdict V → Outcome
outcome_of (Ok modes) = Ok modes
outcome_of (Err x) = Err x.firing

abbrev firing_at : ℕ → List ℕ → Firing
firing_at t m = record { transition = t; mode = m }

module _ {V : Type 0} (d : Meaning V) (codes : List ℤ) (n : SystemNet) where
  -- a mode that breaks a claim is none of those that keep it
  breaks : (t : ℕ) (m : List ℕ) (v w : V) (i : ℕ) (f : First d codes n t m v w) → f.index < i → Kept d codes n t i → ⊥
  breaks t m v w i f h kept =
      let fires : guard_holds n t (mode n t f.index) ≡ true = subst (λ (x : List ℕ). guard_holds n t x ≡ true) f.is f.fires in
      let holds : d.rel (before d codes n t m) (after d codes n t m) = subst (λ (x : List ℕ). d.rel (before d codes n t x) (after d codes n t x)) (sym f.is) (kept f.index h fires) in
      let left : d.rel v (after d codes n t m) = subst (λ (x : V). d.rel x (after d codes n t m)) (sym f.before_is) holds in
      f.apart (subst (λ (x : V). d.rel v x) (sym f.after_is) left)

  -- two first modes of a transition are one
  one_mode : (t : ℕ) (m k : List ℕ) (v w x y : V) → First d codes n t m v w → First d codes n t k x y → m ≡ k
  one_mode t m k v w x y f g = ⊎_elim
      (λ (h : f.index < g.index). absurd (breaks t m v w g.index f h g.earlier))
      (λ (r : (f.index ≡ g.index) ⊎ (g.index < f.index)). ⊎_elim
      (λ (e : f.index ≡ g.index). f.is ∙ ap (mode n t) e ∙ sym g.is)
      (λ (h : g.index < f.index). absurd (breaks t k x y f.index g h f.earlier))
      r)
      (below_same_above f.index g.index)

  one_firing : (t u : ℕ) (m k : List ℕ) (v w x y : V) → t ≡ u → First d codes n t m v w → First d codes n u k x y → firing_at t m ≡ firing_at u k
  one_firing t u m k v w x y e f g =
      ap (λ (i : ℕ). firing_at i m) e ∙ ap (firing_at u) (one_mode u m k v w x y (subst (λ (i : ℕ). First d codes n i m v w) e f) g)

  one_verdict : (r s : Verdict V) → Judged d codes n r → Judged d codes n s → outcome_of r ≡ outcome_of s
  one_verdict (Ok a) (Ok b) p q = ap Ok (p.0 ∙ sym q.0)
  one_verdict (Ok a) (Err y) p q = let g = q.2 in absurd (breaks y.firing.transition y.firing.mode y.before y.after _ g g.within (p.1 y.firing.transition q.0))
  one_verdict (Err x) (Ok b) p q = let f = p.2 in absurd (breaks x.firing.transition x.firing.mode x.before x.after _ f f.within (q.1 x.firing.transition p.0))
  one_verdict (Err x) (Err y) p q =
      let f = p.2 in
      let g = q.2 in
      let t = x.firing.transition in
      let u = y.firing.transition in
      ⊎_elim
      (λ (h : t < u). absurd (breaks t x.firing.mode x.before x.after _ f f.within (q.1 t h)))
      (λ (r : (t ≡ u) ⊎ (u < t)). ⊎_elim
      (λ (e : t ≡ u). ap Err (one_firing t u x.firing.mode y.firing.mode x.before x.after y.before y.after e f g))
      (λ (h : u < t). absurd (breaks u y.firing.mode y.before y.after _ g g.within (p.1 u h)))
      r)
      (below_same_above t u)

-- what judging under a domain answers is the outcome of a verdict on the claim's codes
record OutcomeOf {V : Type 0} (d : Meaning V) (n : SystemNet) (claim : ℕ) (o : Outcome) : Type 0 where
  verdict : Verdict V
  judged : Judged d (codes_of n claim) n verdict
  is : outcome_of verdict ≡ o

module _ {V : Type 0} (d : Meaning V) (n : SystemNet) (claim : ℕ) where
  told : (m k : Memory) (o : Outcome) → KindCalled d n claim m k (Ok o) → OutcomeOf d n claim o
  told m k (Ok c) h = record { verdict = Ok c; judged = subst (λ (xs : List ℤ). Judged d xs n (Ok c)) h.2 h.4.judged; is = refl }
  told m k (Err f) h =
      let r : Verdict V = Err (record { firing = f; before = h.0; after = h.1.0 }) in
      record { verdict = r; judged = subst (λ (xs : List ℤ). Judged d xs n r) h.1.1.2 h.1.1.4.judged; is = refl }

  one_by : (m k a b : Memory) (o p : Outcome) → KindCalled d n claim m k (Ok o) → KindCalled d n claim a b (Ok p) → o ≡ p
  one_by m k a b o p x y =
      let f = told m k o x in
      let g = told a b p y in
      sym f.is ∙ one_verdict d (codes_of n claim) n f.verdict g.verdict f.judged g.judged ∙ g.is

one_by_kind : (x : Kind) (n : SystemNet) (claim : ℕ) (m k a b : Memory) (o p : Outcome) → ByKind x n claim m k (Ok o) → ByKind x n claim a b (Ok p) → o ≡ p
one_by_kind kind.Equal n claim = one_by equal n claim
one_by_kind kind.NeverRises n claim = one_by never_rises n claim
one_by_kind kind.NeverFalls n claim = one_by (turned never_rises) n claim
one_by_kind (kind.Modulo x) n claim = one_by (modulo x.k) n claim
one_by_kind kind.Trap n claim = one_by (turned siphon) n claim
one_by_kind kind.Siphon n claim = one_by siphon n claim

pub one_answer : (n : SystemNet) (claim : ℕ) (o p : Outcome) → Answers n claim o → Answers n claim p → o ≡ p
one_answer n claim o p x y = one_by_kind (claim_of n claim).kind n claim x.0 x.1.0 y.0 y.1.0 o p x.1.1 y.1.1
