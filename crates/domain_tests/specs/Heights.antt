-- The laws of heights under the maximum.
use Rattle.std.specs.Prelude.{◌≡◌, ℕ, false, ℤ, pos, negsuc, refl}
use Rattle.std.proofs.Common.{ap, arith}
use Rattle.domain.specs.Meaning.{Laws}
use Rattle.domain.specs.Measure.{PlainLaws}
use Rattle.domain_tests.specs.Greatest.{greatest, height, height_code, height_weight}

no_weight : (c : ℤ) → height_code c ≡ false → height_weight c ≡ height 0
no_weight (pos n) h = let z : ◌≡◌ {A = ℕ} 0 1 = cc in let e : ⊥ = omega arith in elim e [ ]
no_weight (negsuc n) h = refl

pub greatest_laws : Laws greatest
greatest_laws = record {
  nil_holds = tt;
  plus_holds = λ u v _ _. tt;
  weight_holds = λ c. tt;
  assoc = λ u v w _ _ _. ap height (omega arith);
  comm = λ u v _ _. ap height (omega arith);
  neutral = λ v _. ap height (omega arith);
  rel_refl = λ v _. omega arith;
  rel_trans = λ u v w _ _ _ p q. omega arith;
  rel_plus = λ u v w _ _ _ p. omega arith;
  code_zero = refl;
  weight_zero = refl;
  no_weight = no_weight;
  size_nil = refl;
  size_plus = λ u v _ _. omega arith;
  size_weight = λ c. omega arith;
}

-- every height is plain
pub greatest_plain : PlainLaws greatest (λ _. Unit {0})
greatest_plain = record {
  plain_holds = λ v _. tt;
  plain_nil = tt;
  plain_plus = λ u v _ _. tt;
}
