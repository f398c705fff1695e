-- Copies of a height.
use Rattle.std.specs.Prelude.{◌≡◌, ℕ, zero, suc, ◌<◌, ◌≤◌, max, refl, Some, None}
use Rattle.std.proofs.Common.{ap, arith}
use Rattle.domain.specs.Meaning.{Added, copies}
use Rattle.domain.specs.Measure.{Largest}
use Rattle.domain_tests.specs.declared.Height.{Height}
use Rattle.domain_tests.specs.Greatest.{greatest, height}

below : (n : ℕ) (w : Height) → (copies greatest n w).metres ≤ w.metres
below zero w = omega arith
below (suc n) w = omega (arith, below n w)

-- one copy does what many do, and none does nothing
pub added : (v w r : Height) (n : ℕ) → (0 < n → r.metres ≡ max v.metres w.metres) → (n ≡ 0 → r.metres ≡ v.metres) → Added greatest v n w r
added v w r zero some none = record { exact = λ h. ap height (omega (arith, none refl)); beyond = λ h. let z : ⊥ = omega arith in elim z [ ] }
added v w r (suc n) some none = record {
  exact = λ h. ap height (omega (arith, some (omega arith), below n w));
  beyond = λ h. let z : ⊥ = omega arith in elim z [ ];
}

above : (n : ℕ) (w : Height) → 0 < n → w.metres ≤ (copies greatest n w).metres
above zero w h = omega (arith, h)
above (suc n) w h = omega arith

-- as many copies as one likes of what is no higher
pub no_higher : (v w : Height) → w.metres ≤ v.metres → Largest greatest (λ _. Unit {0}) v w None
no_higher v w h n = (height 0, tt, omega (arith, h, below n w))

-- and no copy of what is higher
pub higher : (v w : Height) → v.metres < w.metres → Largest greatest (λ _. Unit {0}) v w (Some 0)
higher v w h = (
  (height 0, tt, omega arith),
  λ m some r. omega (arith, h, above m w some, r.2),
)
