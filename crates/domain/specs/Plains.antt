-- The laws of plain values: numbers not below zero, and both truth values.
use Rattle.std.specs.Prelude.{ℤ, pos, ◌+ℤ◌, ◌≤ℤ◌}
use Rattle.std.proofs.Common.{arith}
use Rattle.std.proofs.lemmas.Int.{ints}
use Rattle.domain.specs.Domains.{siphon, whole}
use Rattle.domain.specs.Measure.{PlainLaws}

sum_plain : (u v : ℤ) → pos 0 ≤ℤ u → pos 0 ≤ℤ v → pos 0 ≤ℤ (u +ℤ v)
sum_plain u v a b = omega (arith, ints)

pub wholes_plain : (rel : ℤ → ℤ → Type 0) → PlainLaws (whole rel) (λ v. pos 0 ≤ℤ v)
wholes_plain rel = record {
  plain_holds = λ v _. tt;
  plain_nil = omega (arith, ints);
  plain_plus = λ u v a b. sum_plain u v a b;
}

pub truths_plain : PlainLaws siphon (λ _. Unit {0})
truths_plain = record {
  plain_holds = λ v _. tt;
  plain_nil = tt;
  plain_plus = λ u v _ _. tt;
}
