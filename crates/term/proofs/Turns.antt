-- One turn of reading a term or a bag, by its code.
use Rattle.std.proofs.Common.{◌≡◌, ℕ, zero, suc, ◌-◌, ◌<◌, ◌⊎◌, true, false, List, length, get_or, drop, refl, ap, ◌∙◌, ⊎_elim, arith}
use Rattle.std.proofs.lemmas.Bool.Decides.{nat_tests}
use Rattle.term.specs.declared.signature.Arguments.{Arguments}
use Rattle.term.specs.declared.signature.Arguments.TheVariants as arguments
use Rattle.term.specs.Meaning.{Sig, Term, variable, constant, apply, equal, negate, both, empty, single, sum, flexible, operation}
use Rattle.term.specs.Prefix.{begins, missing, Read, one, two, applied, front, term_at, bag_front, bag_at}

pub is : (k n : ℕ) (bs : List ℕ) → n < length bs → get_or bs 0 0 ≡ k → begins k n bs ≡ true
is k n bs h e = grind (arith, nat_tests)

pub is_not : (k j n : ℕ) (bs : List ℕ) → get_or bs 0 0 ≡ k → (k ≡ j → ⊥) → begins j n bs ≡ false
is_not k j n bs e h = grind (arith, nat_tests)

module _ (s : Sig) where
  pub none : (d : ℕ) (bs : List ℕ) → d ≡ 0 → term_at s d bs ≡ (missing, bs)
  unfolding term_at
  none zero bs h = refl
  none (suc d) bs h = let z : ⊥ = omega arith in absurd z

  pub turn : (d : ℕ) (bs : List ℕ) → 0 < d → term_at s d bs ≡ front s (term_at s (d - 1)) bs
  unfolding term_at
  turn zero bs h = let z : ⊥ = omega arith in absurd z
  turn (suc d) bs h = let e : d ≡ suc d - 1 = omega arith in ap (λ (k : ℕ). front s (term_at s k) bs) e

  module _ (p : List ℕ → Read) (bs : List ℕ) where
    pub front_variable : 1 < length bs → get_or bs 0 0 ≡ 0x20 → front s p bs ≡ (variable (get_or bs 1 0), drop 2 bs)
    front_variable h e = rw (is 0x20 1 bs h e)

    pub front_constant : 2 < length bs → get_or bs 0 0 ≡ 0x21 → front s p bs ≡ (constant (get_or bs 1 0) (get_or bs 2 0), drop 3 bs)
    front_constant h e = rw (is_not 0x21 0x20 1 bs e (λ x. omega arith), is 0x21 2 bs h e)

    pub front_apply : 1 < length bs → get_or bs 0 0 ≡ 0x22 → front s p bs ≡ applied p (get_or bs 1 0) (operation s (get_or bs 1 0)).arguments (drop 2 bs)
    front_apply h e = rw (is_not 0x22 0x20 1 bs e (λ x. omega arith), is_not 0x22 0x21 2 bs e (λ x. omega arith), is 0x22 1 bs h e)

    pub front_equal : 1 < length bs → get_or bs 0 0 ≡ 0x23 → front s p bs ≡ two p (equal (get_or bs 1 0)) (drop 2 bs)
    front_equal h e =
        rw (is_not 0x23 0x20 1 bs e (λ x. omega arith), is_not 0x23 0x21 2 bs e (λ x. omega arith), is_not 0x23 0x22 1 bs e (λ x. omega arith), is 0x23 1 bs h e)

    pub front_negate : 0 < length bs → get_or bs 0 0 ≡ 0x24 → front s p bs ≡ one p negate (drop 1 bs)
    front_negate h e =
        rw (is_not 0x24 0x20 1 bs e (λ x. omega arith), is_not 0x24 0x21 2 bs e (λ x. omega arith), is_not 0x24 0x22 1 bs e (λ x. omega arith), is_not 0x24 0x23 1 bs e (λ x. omega arith), is 0x24 0 bs h e)

    pub front_both : 0 < length bs → get_or bs 0 0 ≡ 0x25 → front s p bs ≡ two p both (drop 1 bs)
    front_both h e =
        rw (is_not 0x25 0x20 1 bs e (λ x. omega arith), is_not 0x25 0x21 2 bs e (λ x. omega arith), is_not 0x25 0x22 1 bs e (λ x. omega arith), is_not 0x25 0x23 1 bs e (λ x. omega arith), is_not 0x25 0x24 0 bs e (λ x. omega arith), is 0x25 0 bs h e)

  module _ (d : ℕ) (bs : List ℕ) (deep : 0 < d) where
    pub at_variable : 1 < length bs → get_or bs 0 0 ≡ 0x20 → term_at s d bs ≡ (variable (get_or bs 1 0), drop 2 bs)
    at_variable h e = turn d bs deep ∙ front_variable (term_at s (d - 1)) bs h e

    pub at_constant : 2 < length bs → get_or bs 0 0 ≡ 0x21 → term_at s d bs ≡ (constant (get_or bs 1 0) (get_or bs 2 0), drop 3 bs)
    at_constant h e = turn d bs deep ∙ front_constant (term_at s (d - 1)) bs h e

    pub at_apply : 1 < length bs → get_or bs 0 0 ≡ 0x22 → term_at s d bs ≡ applied (term_at s (d - 1)) (get_or bs 1 0) (operation s (get_or bs 1 0)).arguments (drop 2 bs)
    at_apply h e = turn d bs deep ∙ front_apply (term_at s (d - 1)) bs h e

    pub at_equal : 1 < length bs → get_or bs 0 0 ≡ 0x23 → term_at s d bs ≡ two (term_at s (d - 1)) (equal (get_or bs 1 0)) (drop 2 bs)
    at_equal h e = turn d bs deep ∙ front_equal (term_at s (d - 1)) bs h e

    pub at_negate : 0 < length bs → get_or bs 0 0 ≡ 0x24 → term_at s d bs ≡ one (term_at s (d - 1)) negate (drop 1 bs)
    at_negate h e = turn d bs deep ∙ front_negate (term_at s (d - 1)) bs h e

    pub at_both : 0 < length bs → get_or bs 0 0 ≡ 0x25 → term_at s d bs ≡ two (term_at s (d - 1)) both (drop 1 bs)
    at_both h e = turn d bs deep ∙ front_both (term_at s (d - 1)) bs h e

    pub at_nothing : begins 0x20 1 bs ≡ false → begins 0x21 2 bs ≡ false → begins 0x22 1 bs ≡ false → begins 0x23 1 bs ≡ false → begins 0x24 0 bs ≡ false → begins 0x25 0 bs ≡ false
        → term_at s d bs ≡ (missing, bs)
    at_nothing a b c e f g = turn d bs deep ∙ rw (a, b, c, e, f, g)

-- of two arguments and of more two parts are read
pub applied_two : (p : List ℕ → Read) (k : ℕ) (v w : Arguments) (bs : List ℕ) → w ≡ v
    → ((a : ℕ) × (b : ℕ) × (v ≡ arguments.Two a b)) ⊎ ((a : ℕ) × (b : ℕ) × (v ≡ arguments.More a b)) → applied p k w bs ≡ two p (apply k) bs
applied_two p k v w bs same h = ap by same ∙ ⊎_elim (λ t. ap by t.2) (λ t. ap by t.2) h
  where
    by : Arguments → Read
    by a = applied p k a bs

-- what the values and rests of one part, or of two, are in terms of where the parts begin
module _ (p : List ℕ → Read) (g : Term → ℕ) (bs r : List ℕ) (same : r ≡ bs) where
  pub first_part : (a : ℕ) (ra : List ℕ) → a ≡ g (p r).0 → ra ≡ (p r).1 → (a ≡ g (p bs).0) × (ra ≡ (p bs).1)
  first_part a ra av ar = (av ∙ ap (λ x. g (p x).0) same, ar ∙ ap (λ x. (p x).1) same)

  pub both_parts : (a b : ℕ) (ra rb : List ℕ) → a ≡ g (p r).0 → ra ≡ (p r).1 → b ≡ g (p ra).0 → rb ≡ (p ra).1
      → (a ≡ g (p bs).0) × (b ≡ g (p (p bs).1).0) × (rb ≡ (p (p bs).1).1)
  both_parts a b ra rb av ar bv br =
      let f = first_part a ra av ar in
      (f.0, bv ∙ ap (λ x. g (p x).0) f.1, br ∙ ap (λ x. (p x).1) f.1)

module _ (s : Sig) where
  pub bag_none : (d : ℕ) (bs : List ℕ) → d ≡ 0 → bag_at s d bs ≡ (empty, bs)
  unfolding bag_at
  bag_none zero bs h = refl
  bag_none (suc d) bs h = let z : ⊥ = omega arith in absurd z

  pub bag_turn : (d : ℕ) (bs : List ℕ) → 0 < d → bag_at s d bs ≡ bag_front (term_at s (d - 1)) (bag_at s (d - 1)) bs
  unfolding bag_at
  bag_turn zero bs h = let z : ⊥ = omega arith in absurd z
  bag_turn (suc d) bs h = let e : d ≡ suc d - 1 = omega arith in ap (λ (k : ℕ). bag_front (term_at s k) (bag_at s k) bs) e

  module _ (d : ℕ) (bs : List ℕ) (deep : 0 < d) where
    pub at_empty : 0 < length bs → get_or bs 0 0 ≡ 0x30 → bag_at s d bs ≡ (empty, drop 1 bs)
    at_empty h e = bag_turn d bs deep ∙ rw (is 0x30 0 bs h e)

    pub at_single : 0 < length bs → get_or bs 0 0 ≡ 0x31 → bag_at s d bs ≡ (single (term_at s (d - 1) (drop 1 bs)).0, (term_at s (d - 1) (drop 1 bs)).1)
    at_single h e = bag_turn d bs deep ∙ rw (is_not 0x31 0x30 0 bs e (λ x. omega arith), is 0x31 0 bs h e)

    pub at_sum : 0 < length bs → get_or bs 0 0 ≡ 0x32
        → bag_at s d bs ≡ (sum (bag_at s (d - 1) (drop 1 bs)).0 (bag_at s (d - 1) (bag_at s (d - 1) (drop 1 bs)).1).0, (bag_at s (d - 1) (bag_at s (d - 1) (drop 1 bs)).1).1)
    at_sum h e = bag_turn d bs deep ∙ rw (is_not 0x32 0x30 0 bs e (λ x. omega arith), is_not 0x32 0x31 0 bs e (λ x. omega arith), is 0x32 0 bs h e)

    pub at_flexible : 1 < length bs → get_or bs 0 0 ≡ 0x33 → bag_at s d bs ≡ (flexible (get_or bs 1 0) (term_at s (d - 1) (drop 2 bs)).0, (term_at s (d - 1) (drop 2 bs)).1)
    at_flexible h e =
        bag_turn d bs deep
        ∙ rw (is_not 0x33 0x30 0 bs e (λ x. omega arith), is_not 0x33 0x31 0 bs e (λ x. omega arith), is_not 0x33 0x32 0 bs e (λ x. omega arith), is 0x33 1 bs h e)

    pub at_other : begins 0x30 0 bs ≡ false → begins 0x31 0 bs ≡ false → begins 0x32 0 bs ≡ false → begins 0x33 1 bs ≡ false → bag_at s d bs ≡ (empty, bs)
    at_other a b c e = bag_turn d bs deep ∙ rw (a, b, c, e)
