-- The largest number of copies, in whole numbers and in truth values.
use Rattle.std.proofs.Common.{◌≡◌, ℕ, zero, suc, ◌-◌, ◌*◌, ◌/◌, ◌<◌, ◌≤◌, Bool, true, false, eqb, ℤ, pos, negsuc, ◌+ℤ◌, ◌≤ℤ◌, refl, ap, subst, div-lt_iff_lt-mul, div-mul-le_self, arith}
use Rattle.std.proofs.lemmas.Int.{ints}
use Rattle.domain.specs.Meaning.{copies}
use Rattle.domain.specs.Domains.{siphon, whole}
use Rattle.domain.specs.Measure.{Largest, Reaches, whole_largest, truth_largest}
use Rattle.domain.proofs.Truths.{copies_false, copies_truth}
use Rattle.domain.specs.Wholes.{WholeOrder}
use Rattle.domain.proofs.Wholes.{copies_whole}

-- a relation of whole numbers that lies between "equal" and "at least"
module _ {rel : ℤ → ℤ → Type 0} (same : (v x : ℤ) → v ≡ x → rel v x) (down : (v x : ℤ) → rel v x → x ≤ℤ v) where
  reaches : (a b n : ℕ) → n * b ≤ a → Reaches (whole rel) (λ v. pos 0 ≤ℤ v) (pos a) (pos b) n
  reaches a b n h =
      let e : pos a ≡ copies (whole rel) n (pos b) +ℤ pos (a - n * b) = rw (copies_whole n (pos b)) (ap pos (omega arith)) in
      (pos (a - n * b), omega (arith, ints), same (pos a) (copies (whole rel) n (pos b) +ℤ pos (a - n * b)) e)

  not_past : (a b n : ℕ) → Reaches (whole rel) (λ v. pos 0 ≤ℤ v) (pos a) (pos b) n → n * b ≤ a
  not_past a b n (p, plain, r) =
      let d : (pos (n * b) +ℤ p) ≤ℤ pos a = subst (λ (x : ℤ). (x +ℤ p) ≤ℤ pos a) (copies_whole n (pos b)) (down (pos a) (copies (whole rel) n (pos b) +ℤ p) r) in
      omega (arith, ints)

  pub largest_whole : (v w : ℤ) → pos 0 ≤ℤ v → pos 0 ≤ℤ w → Largest (whole rel) (λ v. pos 0 ≤ℤ v) v w (whole_largest v w)
  largest_whole (pos a) (pos zero) h k = λ n. reaches a 0 n (omega arith)
  largest_whole (pos a) (pos (suc b)) h k =
      let e : eqb (suc b) 0 ≡ false = grind arith in
      rw e (reaches a (suc b) (a / suc b) (div-mul-le_self a (suc b)), λ m l r. let u : m * suc b ≤ a = not_past a (suc b) m r in let o : a < m * suc b = (div-lt_iff_lt-mul {k = suc b} {x = a} {y = m} (omega arith)).0 l in omega arith)
  largest_whole (pos a) (negsuc b) h k = let z : ⊥ = omega (arith, ints) in elim z [ ]
  largest_whole (negsuc a) (pos b) h k = let z : ⊥ = omega (arith, ints) in elim z [ ]
  largest_whole (negsuc a) (negsuc b) h k = let z : ⊥ = omega (arith, ints) in elim z [ ]

module _ {rel : ℤ → ℤ → Type 0} (o : WholeOrder rel) where
  pub largest_ordered : (v w : ℤ) → pos 0 ≤ℤ v → pos 0 ≤ℤ w → Largest (whole rel) (λ v. pos 0 ≤ℤ v) v w (whole_largest v w)
  largest_ordered = largest_whole (λ v x e. subst (rel v) e (o.same v)) o.down

pub largest_truth : (v w : Bool) → Largest siphon (λ _. Unit {0}) v w (truth_largest v w)
largest_truth true w = λ n. (false, tt, λ _. refl)
largest_truth false false = λ n. (false, tt, simp (copies_false n) (λ e. e))
largest_truth false true = ((false, tt, λ e. e), λ m h r. let e : false ≡ true = r.2 (rw (copies_truth m true h)) in let z : ◌≡◌ {A = ℕ} 0 1 = cc in omega arith)
