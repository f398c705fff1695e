-- Every mode has a number, and every number below the number of modes is one of a mode.
use Rattle.std.proofs.Common.{◌≡◌, ℕ, zero, suc, ◌+◌, ◌*◌, ◌/◌, ◌%◌, ◌<◌, List, [], ◌∷◌, get_or, ap, ◌∙◌, subst, mod-lt, mod-eq_of_lt, mul_assoc, arith, ne_eqb, refl}
use lib.Arith.{digits_div, digits_lt, digits_mod}
use Rattle.format.specs.Format.{mode_count}
use Rattle.net.specs.Nets.{Mode, digit, mode_of}

digit_is : (i n : ℕ) → 0 < n → digit i n ≡ i % n
digit_is i n h = rw (ne_eqb n 0 (λ z. omega arith))

module _ (p q r s a b c d : ℕ) (ha : a < p) (hb : b < q) (hc : c < r) (hd : d < s) where
  abbrev i : ℕ
  i = ((a * q + b) * r + c) * s + d

  counted : a ∷ b ∷ c ∷ d ∷ [] ≡ digit (i / s / r / q) p ∷ digit (i / s / r) q ∷ digit (i / s) r ∷ digit i s ∷ []
  counted =
      let e3 : digit i s ≡ d = digit_is i s (omega arith) ∙ digits_mod ((a * q + b) * r + c) hd in
      let f3 : i / s ≡ (a * q + b) * r + c = digits_div ((a * q + b) * r + c) hd in
      let e2 : digit (i / s) r ≡ c = digit_is (i / s) r (omega arith) ∙ ap (λ (x : ℕ). x % r) f3 ∙ digits_mod (a * q + b) hc in
      let f2 : i / s / r ≡ a * q + b = ap (λ (x : ℕ). x / r) f3 ∙ digits_div (a * q + b) hc in
      let e1 : digit (i / s / r) q ≡ b = digit_is (i / s / r) q (omega arith) ∙ ap (λ (x : ℕ). x % q) f2 ∙ digits_mod a hb in
      let f1 : i / s / r / q ≡ a = ap (λ (x : ℕ). x / q) f2 ∙ digits_div a hb in
      let e0 : digit (i / s / r / q) p ≡ a = digit_is (i / s / r / q) p (omega arith) ∙ ap (λ (x : ℕ). x % p) f1 ∙ mod-eq_of_lt ha in
      cc

  below : i < p * q * r * s
  below = digits_lt (digits_lt (digits_lt ha hb) hc) hd

-- the number of a mode
pub numbered : (ns m : List ℕ) → Mode ns m → (i : ℕ) × (i < mode_count ns) × (m ≡ mode_of ns i)
numbered ns [] h = let l = h.four in absurd (omega arith)
numbered ns (a ∷ []) h = let l = h.four in absurd (omega arith)
numbered ns (a ∷ b ∷ []) h = let l = h.four in absurd (omega arith)
numbered ns (a ∷ b ∷ c ∷ []) h = let l = h.four in absurd (omega arith)
numbered ns (a ∷ b ∷ c ∷ d ∷ []) h =
    let p = get_or ns 0 0 in
    let q = get_or ns 1 0 in
    let r = get_or ns 2 0 in
    let s = get_or ns 3 0 in (
      i p q r s a b c d h.first h.second h.third h.fourth,
      subst (λ (x : ℕ). i p q r s a b c d h.first h.second h.third h.fourth < x) (mul_assoc (p * q) r s) (below p q r s a b c d h.first h.second h.third h.fourth),
      counted p q r s a b c d h.first h.second h.third h.fourth,
    )
numbered ns (a ∷ b ∷ c ∷ d ∷ e ∷ es) h = let l = h.four in absurd (omega arith)

some : (p q i : ℕ) → i < p * q → (0 < p) × (0 < q)
some zero q i h = absurd (omega arith)
some (suc p) zero i h = absurd (omega arith)
some (suc p) (suc q) i h = (omega arith, omega arith)

pub is_mode : (ns : List ℕ) (i : ℕ) → i < mode_count ns → Mode ns (mode_of ns i)
is_mode ns i h =
    let p = get_or ns 0 0 in
    let q = get_or ns 1 0 in
    let r = get_or ns 2 0 in
    let s = get_or ns 3 0 in
    let front = some (p * q) (r * s) i h in
    let one = some p q 0 front.0 in
    let two = some r s 0 front.1 in
    record {
      four = refl;
      first = small (i / s / r / q) p one.0;
      second = small (i / s / r) q one.1;
      third = small (i / s) r two.0;
      fourth = small i s two.1;
    }
  where
    small : (i n : ℕ) → 0 < n → digit i n < n
    small i n h = rw (digit_is i n h) (mod-lt i h)
