-- The first number at which a test holds.
use Rattle.std.proofs.Common.{◌≡◌, ℕ, zero, suc, ◌<◌, Bool, true, false, cond, Some, None, Option, refl, subst, add-one, arith, below_more}

-- the number found before, or else i where b holds
abbrev pub earlier : Option ℕ → Bool → ℕ → Option ℕ
earlier (Some j) b i = Some j
earlier None b i = cond b (Some i) None

module _ (test : ℕ → Bool) where
  -- the first of the numbers below k
  abbrev pub first : ℕ → Option ℕ
  first zero = None
  first (suc k) = earlier (first k) (test k) k

  abbrev Failed : ℕ → Type 0
  Failed k = (j : ℕ) → j < k → test j ≡ false

  -- what the first one is: the test holds there and at no number before; or at none
  abbrev pub IsFirst : ℕ → Option ℕ → Type 0
  IsFirst k None = Failed k
  IsFirst k (Some i) = (i < k) × (test i ≡ true) × Failed i

  pub first_is : (k : ℕ) → IsFirst k (first k)
  first_is zero = λ j h. let z : ⊥ = omega arith in elim z [ ]
  first_is (suc k) = step (first k) (test k) refl (first_is k)
    where
      step : (o : Option ℕ) (b : Bool) → test k ≡ b → IsFirst k o → IsFirst (suc k) (earlier o b k)
      step (Some i) b e (h, holds, fails) = (omega arith, holds, fails)
      step None true e fails = (omega arith, e, fails)
      step None false e fails = subst Failed (add-one k) (below_more _ k fails e)

-- of two numbers neither of which is less, one is the other
pub order : (i j : ℕ) → (i < j → ⊥) → (j < i → ⊥) → i ≡ j
order i j p q = grind arith
