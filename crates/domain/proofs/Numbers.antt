-- The kind of a number is the one that the number names.
use Rattle.std.proofs.Common.{◌≡◌, ℕ, Bool, true, false, leb, refl, arith, le-leb, leb-true}
use native.Mathlib.Bridge.{le_prop}
use Rattle.domain.specs.Kinds.{Numbered, kind_of, modulo_by}
use Rattle.domain.specs.declared.modulo.Modulo.{Modulo}
use Rattle.domain.specs.declared.kind.Kind.{Kind}
use Rattle.domain.specs.declared.kind.Kind.TheVariants as kind
use Rattle.domain.specs.Domains.{largest_modulus}

-- two moduli of one number are the same
modulus_is : (k : Modulo) (low high : Bool) (p : leb 2 k.k ≡ low) (q : leb k.k largest_modulus ≡ high) → kind.Modulo k ≡ modulo_by k.k low high p q
modulus_is k true true p q = λ i. kind.Modulo (record { k = k.k; ok = (le_prop k.ok.0 (leb-true 2 k.k p) i, le_prop k.ok.1 (leb-true k.k largest_modulus q) i) })
modulus_is k true false p q = let e = le-leb k.k largest_modulus k.ok.1 in let z : ◌≡◌ {A = ℕ} 0 1 = cc in let f : ⊥ = omega arith in absurd f
modulus_is k false high p q = let e = le-leb 2 k.k k.ok.0 in let z : ◌≡◌ {A = ℕ} 0 1 = cc in let f : ⊥ = omega arith in absurd f

pub kind_is : (x : Kind) (n m : ℕ) → Numbered x n m → x ≡ kind_of n m
kind_is kind.Equal n m h = rw h.0
kind_is kind.NeverRises n m h = rw h.0
kind_is kind.NeverFalls n m h = rw h.0
kind_is (kind.Modulo k) n m h = rw (h.0, h.1) (modulus_is k (leb 2 k.k) (leb k.k largest_modulus) refl refl)
kind_is kind.Trap n m h = rw h.0
kind_is kind.Siphon n m h = rw h.0
