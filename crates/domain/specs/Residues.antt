-- The laws of the residues modulo k.
use Rattle.std.specs.Prelude.{◌≡◌, ℕ, ◌+◌, ◌%◌, ◌<◌, ◌≤◌, true, false, ℤ, pos, negsuc, refl}
use Rattle.std.proofs.Common.{sym, ap, ◌∙◌, mod-lt, add_assoc, add_comm, zero-add, mod-eq_of_lt, arith}
use Rattle.std.proofs.Math.Nat.{add-mod-mod, mod-add-mod}
use Rattle.domain.specs.Meaning.{Laws}
use Rattle.domain.specs.Domains.{modulo, residue_code, residue_weight}

pub weight_holds : (k : ℕ) (c : ℤ) → 2 ≤ k → residue_weight k c < k
weight_holds k (pos n) h = grind arith
weight_holds k (negsuc n) h = omega arith

code_zero : (k : ℕ) → 2 ≤ k → residue_code k (pos 0) ≡ true
code_zero k h = grind arith

weight_zero : (k : ℕ) → 2 ≤ k → residue_weight k (pos 0) ≡ 0
weight_zero k h = rw (code_zero k h)

no_weight : (k : ℕ) (c : ℤ) → residue_code k c ≡ false → residue_weight k c ≡ 0
no_weight k c h = rw h

pub residue_laws : (k : ℕ) → 2 ≤ k → Laws (modulo k)
residue_laws k h = record {
  nil_holds = omega arith;
  plus_holds = λ u v _ _. mod-lt (u + v) (omega arith);
  weight_holds = λ c. weight_holds k c h;
  assoc = λ u v w _ _ _. mod-add-mod (u + v) k w ∙ ap (λ x. x % k) (add_assoc u v w) ∙ sym (add-mod-mod u (v + w) k);
  comm = λ u v _ _. ap (λ x. x % k) (add_comm u v);
  neutral = λ v i. ap (λ x. x % k) (zero-add v) ∙ mod-eq_of_lt i;
  rel_refl = λ v _. refl;
  rel_trans = λ u v w _ _ _ p q. p ∙ q;
  rel_plus = λ u v w _ _ _ p. ap (λ x. (u + x) % k) p;
  code_zero = code_zero k h;
  weight_zero = weight_zero k h;
  no_weight = no_weight k;
  size_nil = refl;
  size_plus = λ u v _ _. omega arith;
  size_weight = λ c. omega arith;
}
