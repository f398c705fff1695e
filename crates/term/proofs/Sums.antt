-- What the laws of a domain give of the value of tokens in one cell.
pub use Rattle.term.specs.Adding.{value_add, value_holds, value_same, weighs_after, weighs_alike, weighs_nothing, place_same}
use Rattle.std.proofs.Common.{◌≡◌, ℕ, zero, suc, ◌+◌, ◌-◌, ◌*◌, ◌<◌, ◌≤◌, true, cond, eqb, leb, ◌⊎◌, List, length, get_or, ℤ, pos, sym, ap, ◌∙◌, subst, ⊎_elim, mul-le-mul, arith}
use Rattle.std.proofs.lemmas.Bool.Decides.{nat_tests}
use Rattle.domain.specs.Meaning.{Added, Laws, Meaning, copies}
use Rattle.domain.proofs.Copies.{copies_holds, copies_size}
use Rattle.term.specs.Adding.{cell_holds, neutral_right, value_none, weight_holds}
use Rattle.term.specs.Worth.{Marking, Weighs, on_place, value_of, value_to, weight_of}

module _ {V : Type 0} {d : Meaning V} (l : Laws d) (codes : List ℤ) where
  -- tokens in one cell are copies of its weight
  pub value_one : (m : Marking) (c k : ℕ) → c < k → ((i : ℕ) → (i ≡ c → ⊥) → m i ≡ 0) → value_to d codes m k ≡ copies d (m c) (weight_of d codes c)
  value_one m c zero h e = let z : ⊥ = omega arith in absurd z
  value_one m c (suc k) h e =
      ⊎_elim
      (λ (s : c ≡ k).
      ap (λ (x : V). d.plus x (copies d (m k) (weight_of d codes k))) (value_none l codes m k (λ i q. e i (λ z. omega arith)))
      ∙ l.neutral (copies d (m k) (weight_of d codes k)) (cell_holds l codes m k)
      ∙ ap (λ (i : ℕ). copies d (m i) (weight_of d codes i)) (sym s))
      (λ (s : c < k).
      ap (λ (n : ℕ). d.plus (value_to d codes m k) (copies d n (weight_of d codes k))) (e k (λ z. omega arith))
      ∙ neutral_right l (value_to d codes m k) (value_holds l codes m k) ∙ value_one m c k s e)
      (last_or_before c k h)
    where
      last_or_before : (i k : ℕ) → i < suc k → (i ≡ k) ⊎ (i < k)
      last_or_before i k h = grind arith

  -- tokens in one cell
  pub weighs_one : (v w r : V) (m : Marking) (c n : ℕ) → c < length codes → w ≡ weight_of d codes c → m c ≡ n → ((i : ℕ) → (i ≡ c → ⊥) → m i ≡ 0) → Added d v n w r → Weighs d codes v m n r
  weighs_one v w r m c n lt is here else add h s =
      let hw : d.holds w = subst d.holds (sym is) (weight_holds l codes c) in
      let light : d.size w ≤ 1000000 = subst (λ (x : V). d.size x ≤ 1000000) (sym is) (l.size_weight (get_or codes c (pos 0))) in
      let load : n * d.size w ≤ n * 1000000 = mul-le-mul (omega arith) light in
      let er : r ≡ d.plus v (copies d n w) = add.exact (omega arith) in
      let worth : value_of d codes m ≡ copies d n w = value_one m c (length codes) lt else ∙ ap (λ (k : ℕ). copies d k (weight_of d codes c)) here ∙ ap (copies d n) (sym is) in
      let grown : d.size (d.plus v (copies d n w)) ≤ d.size v + d.size (copies d n w) = l.size_plus v (copies d n w) h (copies_holds l n w hw) in
      let many : d.size (copies d n w) ≤ n * d.size w = copies_size l n w hw in
      let sr : d.size r ≡ d.size (d.plus v (copies d n w)) = ap d.size er in
      record {
        is = er ∙ ap (d.plus v) (sym worth);
        holds = subst d.holds (sym er) (l.plus_holds v (copies d n w) h (copies_holds l n w hw));
        size = omega arith;
      }

pub place_here : (p e n : ℕ) → on_place p (λ i. cond (eqb e i) n 0) (64 * p + e) ≡ n
place_here p e n =
    let a : leb (64 * p) (64 * p + e) ≡ true = grind (arith, nat_tests) in
    let b : 64 * p + e - 64 * p ≡ e = omega arith in
    let s : eqb e e ≡ true = grind (arith, nat_tests) in
    rw (a, b, s)

pub place_else : (p e n c : ℕ) → (c ≡ 64 * p + e → ⊥) → on_place p (λ i. cond (eqb e i) n 0) c ≡ 0
place_else p e n c h = grind (arith, nat_tests)

pub place_past : (p : ℕ) (f : ℕ → ℕ) (c : ℕ) → c < 64 * p → on_place p f c ≡ 0
place_past p f c h = grind (arith, nat_tests, h)
