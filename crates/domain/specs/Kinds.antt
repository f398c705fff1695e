-- The six kinds of claims: their numbers, their weights, and which of them measure.
use Rattle.std.specs.Prelude.{◌≡◌, ℕ, Bool, true, false, cond, ℤ, Some, None, Option, ◌==◌, nat_le, refl}
use Rattle.std.proofs.Common.{leb-true}
use Rattle.domain.specs.Domains.{equal, largest_modulus, modulo, never_rises, siphon, turned}
use Rattle.domain.specs.declared.kind.Kind.{Kind}
use Rattle.domain.specs.declared.kind.Kind.TheVariants.{Equal, NeverRises, NeverFalls, Modulo, Trap, Siphon}

-- the number that a kind has in a file
abbrev pub kind_number : Kind → ℕ
kind_number Equal = 1
kind_number NeverRises = 2
kind_number NeverFalls = 3
kind_number (Modulo m) = 4
kind_number Trap = 5
kind_number Siphon = 6

-- the modulus beside it, 0 where the kind has none
abbrev pub kind_modulus : Kind → ℕ
kind_modulus (Modulo m) = m.k
kind_modulus x = 0

-- a kind stands in a file as this number and modulus
abbrev pub Numbered : Kind → ℕ → ℕ → Type 0
Numbered x n k = (n ≡ kind_number x) × (k ≡ kind_modulus x)

-- the answer is the kind of this number and modulus, or that there is none
abbrev pub KindAt : ℕ → ℕ → Option Kind → Type 0
KindAt n k (Some x) = Numbered x n k
KindAt n k None = (x : Kind) → Numbered x n k → ⊥

-- the kind modulo k, where k can be a modulus
abbrev pub modulo_by : (k : ℕ) (low high : Bool) → nat_le 2 k ≡ low → nat_le k largest_modulus ≡ high → Kind
modulo_by k true true p q = Modulo (record { k = k; ok = (leb-true 2 k p, leb-true k largest_modulus q) })
modulo_by k true false p q = Equal
modulo_by k false high p q = Equal

abbrev pub modulo_kind : ℕ → Kind
modulo_kind k = modulo_by k (nat_le 2 k) (nat_le k largest_modulus) refl refl

-- the kind of a number and a modulus that a claim may have
abbrev pub kind_of : ℕ → ℕ → Kind
kind_of n k = cond (n == 2) NeverRises (cond (n == 3) NeverFalls (cond (n == 4) (modulo_kind k) (cond (n == 5) Trap (cond (n == 6) Siphon Equal))))

-- whether a code is a weight under a kind
abbrev pub kind_weighs : Kind → ℤ → Bool
kind_weighs Equal c = equal.weighs c
kind_weighs NeverRises c = never_rises.weighs c
kind_weighs NeverFalls c = (turned never_rises).weighs c
kind_weighs (Modulo m) c = (modulo m.k).weighs c
kind_weighs Trap c = (turned siphon).weighs c
kind_weighs Siphon c = siphon.weighs c

-- whether a kind is of a measuring domain
abbrev pub kind_measures : Kind → Bool
kind_measures Equal = true
kind_measures NeverRises = true
kind_measures NeverFalls = false
kind_measures (Modulo m) = false
kind_measures Trap = false
kind_measures Siphon = true
