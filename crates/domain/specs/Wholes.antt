-- The laws of the whole numbers.
use Rattle.std.specs.Prelude.{◌≡◌, ◌+◌, ◌≤◌, false, ℤ, pos, ◌+ℤ◌, ◌≤ℤ◌, unsigned_abs, refl}
use Rattle.std.proofs.Common.{ap, ◌∙◌, arith}
use Rattle.std.proofs.Math.IntN.{+ℤ_comm, +ℤ_assoc, +ℤ_idl}
use Rattle.std.proofs.lemmas.Int.{ints}
use Rattle.domain.specs.Meaning.{Laws, largest_weight}
use Rattle.domain.specs.Domains.{whole, whole_code, whole_weight}

pub size_plus : (u v : ℤ) → unsigned_abs (u +ℤ v) ≤ unsigned_abs u + unsigned_abs v
size_plus u v = grind (arith, ints)

pub size_weight : (c : ℤ) → unsigned_abs (whole_weight c) ≤ largest_weight
size_weight c = grind (arith, ints)

no_weight : (c : ℤ) → whole_code c ≡ false → whole_weight c ≡ pos 0
no_weight c h = rw h

-- any relation that is reflexive and transitive, and that sums keep, gives the laws
pub whole_laws : (rel : ℤ → ℤ → Type 0) → ((v : ℤ) → rel v v) → ((u v w : ℤ) → rel u v → rel v w → rel u w)
    → ((u v w : ℤ) → rel v w → rel (u +ℤ v) (u +ℤ w)) → Laws (whole rel)
whole_laws rel r t m = record {
  nil_holds = tt;
  plus_holds = λ u v _ _. tt;
  weight_holds = λ c. tt;
  assoc = λ u v w _ _ _. +ℤ_assoc u v w;
  comm = λ u v _ _. +ℤ_comm u v;
  neutral = λ v _. +ℤ_idl v;
  rel_refl = λ v _. r v;
  rel_trans = λ u v w _ _ _. t u v w;
  rel_plus = λ u v w _ _ _. m u v w;
  code_zero = refl;
  weight_zero = refl;
  no_weight = no_weight;
  size_nil = refl;
  size_plus = λ u v _ _. size_plus u v;
  size_weight = size_weight;
}

-- a relation of whole numbers that sums keep, reflexive, transitive, and only from a number to one that is not greater
pub record WholeOrder (rel : ℤ → ℤ → Type 0) : Type 0 where
  pub same : (v : ℤ) → rel v v
  pub trans : (u v w : ℤ) → rel u v → rel v w → rel u w
  pub plus : (u v w : ℤ) → rel v w → rel (u +ℤ v) (u +ℤ w)
  pub down : (v w : ℤ) → rel v w → w ≤ℤ v

pub order_laws : {rel : ℤ → ℤ → Type 0} → WholeOrder rel → Laws (whole rel)
order_laws {rel} o = whole_laws rel o.same o.trans o.plus

pub equal_relates : WholeOrder (λ v w. v ≡ w)
equal_relates = record { same = λ v. refl; trans = λ u v w p q. p ∙ q; plus = λ u v w p. ap (λ x. u +ℤ x) p; down = λ v w p. omega (arith, ints, p) }

pub never_rises_relates : WholeOrder (λ v w. w ≤ℤ v)
never_rises_relates = record { same = λ v. omega (arith, ints); trans = λ u v w p q. omega (arith, ints); plus = λ u v w p. omega (arith, ints); down = λ v w p. p }
