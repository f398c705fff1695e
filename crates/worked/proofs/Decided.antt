-- Of each kind's domain: its laws, and tests that decide its relation and what it calls plain.
use Rattle.std.proofs.Common.{◌≡◌, ℕ, Bool, true, false, ◌&&◌, eqb, Option, None, ℤ, pos, ◌≤ℤ◌, sym, refl, true≢false, arith, eqb-true}
use Rattle.std.proofs.lemmas.Bool.{eqb-false}
use Rattle.std.proofs.lemmas.Int.{ints}
use Rattle.std.specs.Int.Signed.{le_z}
use Rattle.domain.specs.Domains.{equal, modulo, never_rises, siphon, turned}
use Rattle.domain.specs.Meaning.{Laws, Meaning, Tells}
use Rattle.domain.specs.Measure.{Largest, truth_largest, whole_largest}
use Rattle.domain.specs.declared.kind.Kind.{Kind}
use Rattle.domain.specs.declared.kind.Kind.TheVariants as kind
use Rattle.domain.specs.Residues.{residue_laws}
use Rattle.domain.specs.Truths.{truth_laws}
use Rattle.domain.specs.Turning.{turned_laws}
use Rattle.domain.specs.Wholes.{equal_relates, never_rises_relates}
use Rattle.domain.proofs.Wholes.{equal_laws, never_rises_laws}
use Rattle.domain.proofs.Measures.{largest_ordered, largest_truth}

-- the values of a kind's domain, the domain, and what it calls plain, where it measures
abbrev pub Values : Kind → Type 0
Values kind.Equal = ℤ
Values kind.NeverRises = ℤ
Values kind.NeverFalls = ℤ
Values (kind.Modulo x) = ℕ
Values kind.Trap = Bool
Values kind.Siphon = Bool

abbrev pub domain_of : (x : Kind) → Meaning (Values x)
domain_of kind.Equal = equal
domain_of kind.NeverRises = never_rises
domain_of kind.NeverFalls = turned never_rises
domain_of (kind.Modulo x) = modulo x.k
domain_of kind.Trap = turned siphon
domain_of kind.Siphon = siphon

abbrev pub plain_of : (x : Kind) → Values x → Type 0
plain_of kind.Equal v = pos 0 ≤ℤ v
plain_of kind.NeverRises v = pos 0 ≤ℤ v
plain_of kind.NeverFalls v = ⊥
plain_of (kind.Modulo x) v = ⊥
plain_of kind.Trap v = ⊥
plain_of kind.Siphon v = Unit {0}

pub laws_of : (x : Kind) → Laws (domain_of x)
laws_of kind.Equal = equal_laws
laws_of kind.NeverRises = never_rises_laws
laws_of kind.NeverFalls = turned_laws never_rises_laws
laws_of (kind.Modulo x) = residue_laws x.k x.ok.0
laws_of kind.Trap = turned_laws truth_laws
laws_of kind.Siphon = truth_laws

abbrev implies : Bool → Bool → Bool
implies true w = w
implies false w = true

-- whether two values are related
abbrev pub related : (x : Kind) → Values x → Values x → Bool
related kind.Equal v w = le_z v w && le_z w v
related kind.NeverRises v w = le_z w v
related kind.NeverFalls v w = le_z v w
related (kind.Modulo x) v w = eqb v w
related kind.Trap v w = implies v w
related kind.Siphon v w = implies w v

up_to : (v w : ℤ) (b : Bool) → le_z v w ≡ b → Tells b (v ≤ℤ w)
up_to v w true e = grind (arith, ints)
up_to v w false e = λ h. grind (arith, ints)

same : (v w : ℤ) (b : Bool) → (le_z v w && le_z w v) ≡ b → Tells b (v ≡ w)
same v w true e = grind (arith, ints)
same v w false e = λ h. grind (arith, ints)

congruent : (v w : ℕ) (b : Bool) → eqb v w ≡ b → Tells b (v ≡ w)
congruent v w true e = eqb-true v w e
congruent v w false e = eqb-false v w e

kept : (v w : Bool) → Tells (implies v w) (v ≡ true → w ≡ true)
kept true true = λ e. e
kept true false = λ f. true≢false (sym (f refl))
kept false w = λ e. absurd (true≢false (sym e))

pub related_tells : (x : Kind) (v w : Values x) → Tells (related x v w) ((domain_of x).rel v w)
related_tells kind.Equal v w = same v w (le_z v w && le_z w v) refl
related_tells kind.NeverRises v w = up_to w v (le_z w v) refl
related_tells kind.NeverFalls v w = up_to v w (le_z v w) refl
related_tells (kind.Modulo x) v w = congruent v w (eqb v w) refl
related_tells kind.Trap v w = kept v w
related_tells kind.Siphon v w = kept w v

-- whether a value is plain
abbrev pub plain : (x : Kind) → Values x → Bool
plain kind.Equal v = le_z (pos 0) v
plain kind.NeverRises v = le_z (pos 0) v
plain kind.NeverFalls v = false
plain (kind.Modulo x) v = false
plain kind.Trap v = false
plain kind.Siphon v = true

pub plain_is : (x : Kind) (v : Values x) → plain x v ≡ true → plain_of x v
plain_is kind.Equal v e = up_to (pos 0) v true e
plain_is kind.NeverRises v e = up_to (pos 0) v true e
plain_is kind.NeverFalls v e = true≢false (sym e)
plain_is (kind.Modulo x) v e = true≢false (sym e)
plain_is kind.Trap v e = true≢false (sym e)
plain_is kind.Siphon v e = tt

-- the largest number of copies, in a domain that measures
abbrev pub largest : (x : Kind) → Values x → Values x → Option ℕ
largest kind.Equal v w = whole_largest v w
largest kind.NeverRises v w = whole_largest v w
largest kind.NeverFalls v w = None
largest (kind.Modulo x) v w = None
largest kind.Trap v w = None
largest kind.Siphon v w = truth_largest v w

pub largest_is : (x : Kind) (v w : Values x) → plain x v ≡ true → plain x w ≡ true → Largest (domain_of x) (plain_of x) v w (largest x v w)
largest_is kind.Equal v w p q = largest_ordered equal_relates v w (up_to (pos 0) v true p) (up_to (pos 0) w true q)
largest_is kind.NeverRises v w p q = largest_ordered never_rises_relates v w (up_to (pos 0) v true p) (up_to (pos 0) w true q)
largest_is kind.NeverFalls v w p q = absurd (true≢false (sym p))
largest_is (kind.Modulo x) v w p q = absurd (true≢false (sym p))
largest_is kind.Trap v w p q = absurd (true≢false (sym p))
largest_is kind.Siphon v w p q = largest_truth v w
