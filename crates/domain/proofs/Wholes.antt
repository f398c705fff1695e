-- Sums and products of whole numbers as the program has them.
use Rattle.std.specs.Prelude.{◌≡◌, ℕ, zero, suc, ◌+◌, ◌*◌, ◌≤◌, ℤ, pos, negsuc, ◌+ℤ◌, ◌*ℤ◌, neg_ℤ, FitsSigned, unsigned_abs, refl}
use Rattle.std.proofs.Common.{sym, ap, ◌∙◌, arith, to_z, of_z}
use Rattle.std.proofs.Math.IntN.{+ℤ_comm, suc_ℤ-*ℤ, zero-*ℤ}
use Rattle.std.proofs.lemmas.Int.{to_z-of_z}
use Rattle.std.specs.Int.{w64}
use Rattle.domain.specs.Meaning.{Laws, copies, largest_sum}
use Rattle.domain.specs.Domains.{equal, never_rises}
use Rattle.domain.specs.Wholes.{equal_relates, never_rises_relates, order_laws, size_plus}

pub equal_laws : Laws equal
equal_laws = order_laws equal_relates

pub never_rises_laws : Laws never_rises
never_rises_laws = order_laws never_rises_relates

pub copies_whole : (n : ℕ) (w : ℤ) → copies equal n w ≡ pos n *ℤ w
copies_whole zero w = sym (zero-*ℤ w)
copies_whole (suc n) w = ap (λ x. w +ℤ x) (copies_whole n w) ∙ +ℤ_comm w (pos n *ℤ w) ∙ sym (suc_ℤ-*ℤ (pos n) w)

unsigned_abs_neg : (m : ℕ) → unsigned_abs (neg_ℤ (pos m)) ≡ m
unsigned_abs_neg zero = refl
unsigned_abs_neg (suc m) = refl

unsigned_abs_times : (n : ℕ) (w : ℤ) → unsigned_abs (pos n *ℤ w) ≡ n * unsigned_abs w
unsigned_abs_times n (pos b) = refl
unsigned_abs_times n (negsuc b) = unsigned_abs_neg (n * suc b)

small : (z : ℤ) → unsigned_abs z ≤ largest_sum → FitsSigned w64 z
small (pos n) h = record { sfits = omega arith }
small (negsuc n) h = record { sfits = omega arith }

-- the program's product and sum are the exact ones where they are small
module _ (v : ℤ) {w m : ℤ} {n : ℕ} (fw : FitsSigned w64 w) (fm : FitsSigned w64 m) (e : m ≡ pos n) (h : unsigned_abs v + n * unsigned_abs w ≤ largest_sum) where
  times_fits : FitsSigned w64 (pos n *ℤ w)
  times_fits = let k : unsigned_abs (pos n *ℤ w) ≡ n * unsigned_abs w = unsigned_abs_times n w in small (pos n *ℤ w) (omega arith)

  plus_fits : FitsSigned w64 (v +ℤ pos n *ℤ w)
  plus_fits =
      let k : unsigned_abs (pos n *ℤ w) ≡ n * unsigned_abs w = unsigned_abs_times n w in
      let s : unsigned_abs (v +ℤ pos n *ℤ w) ≤ unsigned_abs v + unsigned_abs (pos n *ℤ w) = size_plus v (pos n *ℤ w) in
      small (v +ℤ pos n *ℤ w) (omega arith)

  pub product_fits : FitsSigned w64 (to_z w64 (of_z w64 m) *ℤ to_z w64 (of_z w64 w))
  product_fits = rw (to_z-of_z w64 m fm, to_z-of_z w64 w fw, e) times_fits

  pub sum_fits : FitsSigned w64 (v +ℤ to_z w64 (of_z w64 (to_z w64 (of_z w64 m) *ℤ to_z w64 (of_z w64 w))))
  sum_fits = rw (to_z-of_z w64 m fm, to_z-of_z w64 w fw, e, to_z-of_z w64 (pos n *ℤ w) times_fits) plus_fits

  pub sum_is : to_z w64 (of_z w64 (v +ℤ to_z w64 (of_z w64 (to_z w64 (of_z w64 m) *ℤ to_z w64 (of_z w64 w))))) ≡ v +ℤ copies equal n w
  sum_is = rw (to_z-of_z w64 m fm, to_z-of_z w64 w fw, e, to_z-of_z w64 (pos n *ℤ w) times_fits, to_z-of_z w64 (v +ℤ pos n *ℤ w) plus_fits, copies_whole n w)

-- the same where v is stored
pub added : (v w m : ℤ) (n : ℕ) → FitsSigned w64 v → FitsSigned w64 w → FitsSigned w64 m → m ≡ pos n → unsigned_abs v + n * unsigned_abs w ≤ largest_sum
    → to_z w64 (of_z w64 (to_z w64 (of_z w64 v) +ℤ to_z w64 (of_z w64 (to_z w64 (of_z w64 m) *ℤ to_z w64 (of_z w64 w))))) ≡ v +ℤ copies equal n w
added v w m n fv fw fm e h = rw (to_z-of_z w64 v fv) (sum_is v fw fm e h)
