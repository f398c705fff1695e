-- A marking added to counts, one arc after the other.
use Rattle.std.proofs.Common.{◌≡◌, ℕ, ◌+◌, ◌-◌, ◌*◌, ◌^◌, ◌<◌, ◌≤◌, min, Bool, true, false, cond, leb, List, length, get_or, replicate, refl, ap, ◌∙◌, arith}
use Rattle.std.proofs.lemmas.Bool.Decides.{nat_tests}
use Rattle.std.proofs.lemmas.List.{get_or-replicate, length-replicate}
use Rattle.term.specs.Counts.{Added}
use Rattle.term.specs.Worth.{Marking, on_place}
use Rattle.net.specs.Nets.{ExactlyTallied, Tallied}
use Rattle.net.specs.Runs.{Counted}

pub alike : (xs ys : List ℕ) (m k : Marking) → ((c : ℕ) → m c ≡ k c) → Tallied xs ys m → Tallied xs ys k
alike xs ys m k same t c h = t c h ∙ ap (λ z. min (get_or xs c 0 + z) (2 ^ 32 - 1)) (same c)

-- added to counts that are all 0, it is what they are
pub counted_zeros : (xs ys : List ℕ) (m : Marking) → xs ≡ replicate 1024 0 → ExactlyTallied xs ys m → Counted ys m
counted_zeros xs ys m e t c l =
    let long : length xs ≡ 1024 = ap length e ∙ length-replicate {A = ℕ} 1024 0 in
    let zero : get_or xs c 0 ≡ 0 = ap (λ (zs : List ℕ). get_or zs c 0) e ∙ get_or-replicate {A = ℕ} 1024 c 0 0 l in
    let sum = t c (omega arith) (omega arith) in
    omega (arith, sum, zero)

pub more : (xs ys zs : List ℕ) (m : Marking) (p : ℕ) (f : ℕ → ℕ) → length ys ≡ length xs → Tallied xs ys m → Added ys zs (64 * p) f → Tallied xs zs (λ c. m c + on_place p f c)
more xs ys zs m p f len t a c h = by (leb (64 * p) c) refl
  where
    by : (b : Bool) → leb (64 * p) c ≡ b → get_or zs c 0 ≡ min (get_or xs c 0 + (m c + cond b (f (c - 64 * p)) 0)) (2 ^ 32 - 1)
    by true e =
        let low : 64 * p ≤ c = grind (arith, nat_tests, e) in
        let same : 64 * p + (c - 64 * p) ≡ c = omega arith in
        let here = rw same at (a.row (c - 64 * p) (omega arith)) in
        grind (arith, here, t c h)
    by false e =
        let high : c < 64 * p = grind (arith, nat_tests, e) in
        grind (arith, a.below c high, t c h)
