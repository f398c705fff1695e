-- Tokens of the elements of a row.
use Rattle.std.proofs.Common.{◌≡◌, ℕ, ◌+◌, ◌-◌, ◌*◌, ◌^◌, ◌<◌, ◌≤◌, Bool, true, false, cond, eqb, ltb, List, length, get_or, min, set, take, drop, refl, sym, ap, ◌∙◌, arith}
use Rattle.std.proofs.lemmas.Bool.Decides.{nat_tests}
use Rattle.std.proofs.lemmas.List.{get_or-drop, get_or-set_other, get_or-set_same, get_or-take, get_or_past, length-take}
use Rattle.term.specs.declared.signature.BagOperation.{BagOperation}
use Rattle.term.specs.Meaning.{Sig, copies_in, size}
use Rattle.term.specs.Counts.{Added}
use Rattle.term.specs.Tally.{Words}

pub same_sum : (a b x y : ℕ) → a ≡ x → b ≡ y → a + b ≡ x + y
same_sum a b x y p q = omega arith

-- the row of a bag operation, as far as the tables go
abbrev pub row_of : Sig → BagOperation → ℕ → List ℕ
row_of s o a = take (size s o.result) (drop (o.table + a * size s o.result) s.tables)

front : (n : ℕ) (xs : List ℕ) (i : ℕ) → get_or (take n xs) i 0 ≡ cond (ltb i n) (get_or xs i 0) 0
front n xs i = by (ltb i n) refl
  where
    by : (b : Bool) → ltb i n ≡ b → get_or (take n xs) i 0 ≡ cond (ltb i n) (get_or xs i 0) 0
    by true q = let below : i < n = grind (arith, nat_tests, q) in rw q (get_or-take n xs i 0 below)
    by false q = let past : length (take n xs) ≤ i = (let l = length-take n xs in grind (arith, nat_tests, q, l)) in rw q (get_or_past (take n xs) i 0 past)

pub row_copies : (s : Sig) (o : BagOperation) (a : ℕ) (row : List ℕ) → row ≡ row_of s o a → (i : ℕ) → get_or row i 0 ≡ copies_in s o a i
row_copies s o a row is i =
    let z = size s o.result in
    let from = o.table + a * z in
    ap (λ r. get_or r i 0) is ∙ front z (drop from s.tables) i
    ∙ ap (λ k. cond (ltb i z) k 0) (get_or-drop from s.tables i 0 ∙ ap (λ k. get_or s.tables k 0) (omega arith))

-- counts to which tokens are added stay numbers of 32 bits
pub words : (a b : List ℕ) (base : ℕ) (f : ℕ → ℕ) → length b ≡ length a → Words a → Added a b base f → Words b
words a b base f same w p i = by (ltb i base) (ltb i (length a)) refl refl
  where
    by : (x y : Bool) → ltb i base ≡ x → ltb i (length a) ≡ y → get_or b i 0 < 2 ^ 32
    by true y q r =
        let below : i < base = grind (arith, nat_tests, q) in
        let e = p.below i below in
        let z = w i in
        omega (arith, e, z)
    by false true q r =
        let k : i ≡ base + (i - base) = grind (arith, nat_tests, q) in
        let within : base + (i - base) < length a = grind (arith, nat_tests, q, r) in
        let e = ap (λ j. get_or b j 0) k ∙ p.row (i - base) within in
        grind (arith, e)
    by false false q r =
        let past : length b ≤ i = grind (arith, nat_tests, r, same) in
        let e = get_or_past b i 0 past in
        omega (arith, e)

-- the first e counts from base on have grown as a row says, and no other
pub record Grown (before after row : List ℕ) (base e : ℕ) : Type 0 where
  pub below : (k : ℕ) → k < base → get_or after k 0 ≡ get_or before k 0
  pub first : (k : ℕ) → k < e → get_or after (base + k) 0 ≡ min (get_or before (base + k) 0 + get_or row k 0) (2 ^ 32 - 1)
  pub others : (k : ℕ) → base + e ≤ k → get_or after k 0 ≡ get_or before k 0

pub grow : (before after row : List ℕ) (base e i n : ℕ) → i ≡ base + e → i < length after → n ≡ min (get_or after i 0 + get_or row e 0) (2 ^ 32 - 1) → Grown before after row base e → Grown before (set after i n) row base (e + 1)
grow before after row base e i n at inside is g = record {
  below = λ k h. get_or-set_other after i k n 0 (λ q. omega arith) ∙ g.below k h;
  first = λ k h. by k h (eqb k e) refl;
  others = λ k h. get_or-set_other after i k n 0 (λ q. omega arith) ∙ g.others k (omega arith);
}
  where
    by : (k : ℕ) → k < e + 1 → (b : Bool) → eqb k e ≡ b → get_or (set after i n) (base + k) 0 ≡ min (get_or before (base + k) 0 + get_or row k 0) (2 ^ 32 - 1)
    by k h true q =
        let here : k ≡ e = grind (arith, nat_tests, q) in
        let place : base + k ≡ i = omega arith in
        let stood : get_or after i 0 ≡ get_or before i 0 = g.others i (omega arith) in
        ap (λ j. get_or (set after i n) j 0) place ∙ get_or-set_same after i n 0 inside ∙ is
        ∙ ap (λ m. min (m + get_or row e 0) (2 ^ 32 - 1)) (stood ∙ ap (λ j. get_or before j 0) (sym place))
        ∙ ap (λ j. min (get_or before (base + k) 0 + get_or row j 0) (2 ^ 32 - 1)) (sym here)
    by k h false q =
        let fewer : k < e = grind (arith, nat_tests, q) in
        get_or-set_other after i (base + k) n 0 (λ z. omega arith) ∙ g.first k fewer

-- all that the counts have room for have grown
pub grown : (before after row : List ℕ) (base e : ℕ) → min (length row) (length before - base) ≤ e → ((k : ℕ) → get_or before k 0 < 2 ^ 32) → Grown before after row base e → Added before after base (λ k. get_or row k 0)
grown before after row base e all fits g = record { below = g.below; row = λ k h. by k h (ltb k e) refl }
  where
    by : (k : ℕ) → base + k < length before → (b : Bool) → ltb k e ≡ b → get_or after (base + k) 0 ≡ min (get_or before (base + k) 0 + get_or row k 0) (2 ^ 32 - 1)
    by k h true q = let first : k < e = grind (arith, nat_tests, q) in g.first k first
    by k h false q =
        let past : e ≤ k = grind (arith, nat_tests, q) in
        let none : get_or row k 0 ≡ 0 = get_or_past row k 0 (omega arith) in
        let small = fits (base + k) in
        g.others (base + k) (omega arith) ∙ omega (arith, none, small)
