-- One mode more, and one transition more.
use Rattle.std.proofs.Common.{◌≡◌, ℕ, zero, suc, ◌+◌, ◌*◌, ◌≤◌, Bool, true, false, cond, List, ℤ, length, sum_by, take, sym, refl, ap, ◌∙◌, true≢false, add-one, arith, below_more}
use Rattle.std.proofs.lemmas.List.Sums.{sum_by-take-le, sum_by_more}
use Rattle.domain.specs.Meaning.{Meaning}
use Rattle.format.specs.Format.{mode_count}
use Rattle.net.specs.Of.{system}
use Rattle.net.specs.System.{SystemNet, no_transition}
use Rattle.net.specs.declared.net.Net.{Net}
use Rattle.net.proofs.Every.{modes_in_all}
use Rattle.net.specs.Nets.{guard_holds, mode, modes_of}
use Rattle.judge.specs.Judged.{Kept, KeptAll, after, before, true_modes, true_modes_to}

pub true_modes_none : (n : SystemNet) (t : ℕ) → 0 ≡ true_modes n t 0
unfolding true_modes
true_modes_none n t = refl

true_modes_more : (n : SystemNet) (t i : ℕ) (b : Bool) → guard_holds n t (mode n t i) ≡ b → true_modes n t i + cond b 1 0 ≡ true_modes n t (i + 1)
unfolding true_modes
true_modes_more n t i b e = rw add-one (ap (λ (x : Bool). true_modes n t i + cond x 1 0) (sym e))

pub true_modes_to_none : (n : SystemNet) → 0 ≡ true_modes_to n 0
unfolding true_modes_to
true_modes_to_none n = refl

true_modes_to_more : (n : SystemNet) (k : ℕ) → true_modes_to n k + true_modes n k (modes_of n k) ≡ true_modes_to n (k + 1)
unfolding true_modes_to
true_modes_to_more n k = rw add-one refl

-- no more modes have a true guard than there are
pub true_modes_few : (n : SystemNet) (t i : ℕ) → true_modes n t i ≤ i
unfolding true_modes
true_modes_few n t zero = omega arith
true_modes_few n t (suc i) = let h = true_modes_few n t i in let l = one (guard_holds n t (mode n t i)) in omega arith
  where
    one : (b : Bool) → cond b 1 0 ≤ 1
    one true = omega arith
    one false = omega arith

true_modes_to_few : (n : SystemNet) (k : ℕ) → k ≤ length n.transitions → true_modes_to n k ≤ sum_by (λ t. mode_count t.sizes) (take k n.transitions)
unfolding true_modes_to
true_modes_to_few n zero h = omega arith
true_modes_to_few n (suc k) h =
    let e = sum_by_more (λ t. mode_count t.sizes) n.transitions k no_transition (omega arith) in
    let l = true_modes_few n k (modes_of n k) in
    let f = true_modes_to_few n k (omega arith) in
    omega (arith, rw add-one at e, l, f)

-- in all transitions of a net in memory, few modes have a true guard
pub true_modes_small : (n : Net) (k : ℕ) → k ≤ length (system n).transitions → true_modes_to (system n) k ≤ 32 * 65536
true_modes_small n k h =
    let f = true_modes_to_few (system n) k h in
    let l = sum_by-take-le (λ t. mode_count t.sizes) (system n).transitions k in
    let m = modes_in_all n in
    omega arith

module _ {V : Type 0} (d : Meaning V) (codes : List ℤ) (n : SystemNet) where
  -- what is known after the first i modes of t
  abbrev pub Turned : ℕ → ℕ → ℕ → Type 0
  Turned t i c = (c ≡ true_modes n t i) × Kept d codes n t i

  -- a false guard
  pub passed : (t i c : ℕ) (m : List ℕ) → m ≡ mode n t i → guard_holds n t m ≡ false → Turned t i c → Turned t (i + 1) c
  passed t i c m is g (e, k) =
      let g' : guard_holds n t (mode n t i) ≡ false = ap (guard_holds n t) (sym is) ∙ g in
      let s : true_modes n t i + 0 ≡ true_modes n t (i + 1) = true_modes_more n t i false g' in
      (e ∙ (let z : true_modes n t i ≡ true_modes n t (i + 1) = omega arith in z), below_more _ i k (λ h. absurd (true≢false (sym h ∙ g'))))

  -- a true guard and related values
  pub kept : (t i c x : ℕ) (m : List ℕ) (v w : V) → m ≡ mode n t i → guard_holds n t m ≡ true → v ≡ before d codes n t m → w ≡ after d codes n t m → d.rel v w
      → x ≡ c + 1 → Turned t i c → Turned t (i + 1) x
  kept t i c x m v w is g ev ew r ex (e, k) =
      let g' : guard_holds n t (mode n t i) ≡ true = ap (guard_holds n t) (sym is) ∙ g in
      let r' : d.rel (before d codes n t m) (after d codes n t m) = rw (ev, ew) at r in
      let r'' : d.rel (before d codes n t (mode n t i)) (after d codes n t (mode n t i)) = rw is at r' in
      (ex ∙ ap (λ (z : ℕ). z + 1) e ∙ true_modes_more n t i true g', below_more _ i k (λ h. r''))

  -- what is known after the first k transitions
  abbrev pub Over : ℕ → ℕ → Type 0
  Over k c = (c ≡ true_modes_to n k) × KeptAll d codes n k

  pub over_more : (k c b x : ℕ) → x ≡ c + b → Over k c → Turned k (modes_of n k) b → Over (k + 1) x
  over_more k c b x ex (e, a) (f, h) =
      let s = true_modes_to_more n k in (omega (arith, ex, e, f, s), below_more _ k a h)
