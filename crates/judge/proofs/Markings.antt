-- What a verdict says of every marking and of every run.
use Rattle.std.proofs.Common.{◌≡◌, ℕ, ◌+◌, ◌-◌, ◌<◌, ◌≤◌, List, [], ◌∷◌, length, ℤ, Ok, Err, sym, refl, ap, ◌∙◌, subst, arith}
use Rattle.domain.specs.Meaning.{Laws, Meaning}
use Rattle.term.specs.Worth.{Marking, value_of}
use Rattle.term.proofs.Sums.{value_add, value_holds, value_same}
use Rattle.net.specs.System.{SystemNet}
use Rattle.net.specs.Nets.{Mode, given, guard_holds, mode, modes_of, taken, transition}
use Rattle.net.specs.Runs.{Fires, Run}
use Rattle.net.specs.declared.firing.Firing.{Firing}
use Rattle.judge.specs.Judged.{First, Judged, Kept, KeptAll, Verdict, after, before}
use Rattle.judge.specs.Theorem.{BreaksAt, Exactly, Keeps}
use Rattle.judge.proofs.Orders.{is_mode, numbered}

module _ {V : Type 0} {d : Meaning V} (l : Laws d) (codes : List ℤ) (cells : length codes ≡ 1024) (n : SystemNet) where
  abbrev value : Marking → V
  value m = value_of d codes m

  -- what stays is the same on both sides, and the relation is kept when it is added
  simulates : (a b tm tp : Marking) → ((c : ℕ) → c < 1024 → tm c ≤ a c) → ((c : ℕ) → c < 1024 → b c ≡ a c - tm c + tp c) → d.rel (value tm) (value tp) → d.rel (value a) (value b)
  simulates a b tm tp enough new r =
      let k = length codes in
      let rest : Marking = λ c. a c - tm c in
      let was : value a ≡ d.plus (value rest) (value tm)
      = value_same l codes a (λ c. rest c + tm c) k (λ c h. let e = enough c (omega arith) in omega arith) ∙ value_add l codes rest tm k in
      let is : value b ≡ d.plus (value rest) (value tp) = value_same l codes b (λ c. rest c + tp c) k (λ c h. new c (omega arith)) ∙ value_add l codes rest tp k in
      rw (was, is) (l.rel_plus (value rest) (value tm) (value tp) (value_holds l codes rest k) (value_holds l codes tm k) (value_holds l codes tp k) r)

  -- a mode of a transition that was kept
  mode_kept : (t : ℕ) (m : List ℕ) (a b : Marking) → Kept d codes n t (modes_of n t) → Fires n t m a b → d.rel (before d codes n t m) (after d codes n t m)
  mode_kept t m a b k f =
      let i = numbered (transition n t).sizes m f.enabled.is_open.mode in
      let q : m ≡ mode n t i.0 = i.2 in
      subst (λ (x : List ℕ). d.rel (before d codes n t x) (after d codes n t x)) (sym q) (k i.0 i.1 (ap (guard_holds n t) (sym q) ∙ f.enabled.is_open.guard))

  fires_kept : (t : ℕ) (m : List ℕ) (a b : Marking) → KeptAll d codes n (length n.transitions) → Fires n t m a b → d.rel (value a) (value b)
  fires_kept t m a b kept f = simulates a b (taken n t m) (given n t m) f.enabled.enough f.new (mode_kept t m a b (kept t f.enabled.is_open.there) f)

  run_kept : (a b : Marking) (fs : List Firing) → KeptAll d codes n (length n.transitions) → Run n a fs b → d.rel (value a) (value b)
  run_kept a b [] kept r =
      subst (d.rel (value a)) (value_same l codes a b (length codes) (λ c h. r c (omega arith))) (l.rel_refl (value a) (value_holds l codes a (length codes)))
  run_kept a b (f ∷ fs) kept r =
      let k = length codes in
      l.rel_trans (value a) (value r.0) (value b) (value_holds l codes a k) (value_holds l codes r.0 k) (value_holds l codes b k)
      (fires_kept f.transition f.mode a r.0 kept r.1.0) (run_kept r.0 b fs kept r.1.1)

  broken_at : (t : ℕ) (m : List ℕ) (v w : V) → t < length n.transitions → First d codes n t m v w → BreaksAt d codes n t m (taken n t m)
  broken_at t m v w h f =
      let tm : Marking = taken n t m in
      let tp : Marking = given n t m in
      let after-it : Marking = λ c. tm c - tm c + tp c in
      let same : value after-it ≡ value tp = value_same l codes after-it tp (length codes) (λ c h. omega arith) in (
        after-it,
        record {
          enabled = record {
            is_open = record { there = h; mode = subst (Mode (transition n t).sizes) (sym f.is) (is_mode (transition n t).sizes f.index f.within); guard = f.fires };
            enough = λ c h. omega arith;
          };
          new = λ c h. refl;
        },
        λ r. f.apart (rw (f.before_is, f.after_is) (subst (d.rel (value tm)) same r)),
      )

  pub exactly : (r : Verdict V) → Judged d codes n r → Exactly d codes n r
  exactly (Ok c) j = λ b. b.3.2 (fires_kept b.0 b.1 b.2 b.3.0 j.1 b.3.1)
  exactly (Err x) j = broken_at x.firing.transition x.firing.mode x.before x.after j.0 j.2

  pub keeps : (r : Verdict V) → Judged d codes n r → Keeps d codes n r
  keeps (Ok c) j = λ a b fs r. run_kept a b fs j.1 r
  keeps (Err x) j = tt
