-- The laws of the truth values under "or".
use Rattle.std.specs.Prelude.{◌≡◌, Bool, true, false, ◌||◌, ℤ, pos, negsuc, refl}
use Rattle.std.proofs.Common.{arith}
use Rattle.domain.specs.Meaning.{Laws}
use Rattle.domain.specs.Domains.{siphon, truth_code, truth_weight}

pub assoc : (u v w : Bool) → ((u || v) || w) ≡ (u || (v || w))
assoc true v w = refl
assoc false v w = refl

comm : (u v : Bool) → (u || v) ≡ (v || u)
comm true true = refl
comm true false = refl
comm false true = refl
comm false false = refl

rel_plus : (u v w : Bool) → siphon.rel v w → siphon.rel (u || v) (u || w)
rel_plus true v w p = λ _. refl
rel_plus false v w p = p

no_weight : (c : ℤ) → truth_code c ≡ false → truth_weight c ≡ false
no_weight (pos n) h = grind arith
no_weight (negsuc n) h = refl

pub truth_laws : Laws siphon
truth_laws = record {
  nil_holds = tt;
  plus_holds = λ u v _ _. tt;
  weight_holds = λ c. tt;
  assoc = λ u v w _ _ _. assoc u v w;
  comm = λ u v _ _. comm u v;
  neutral = λ v _. refl;
  rel_refl = λ v _ p. p;
  rel_trans = λ u v w _ _ _ p q r. p (q r);
  rel_plus = λ u v w _ _ _. rel_plus u v w;
  code_zero = refl;
  weight_zero = refl;
  no_weight = no_weight;
  size_nil = refl;
  size_plus = λ u v _ _. omega arith;
  size_weight = λ c. omega arith;
}
