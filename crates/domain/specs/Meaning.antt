-- What a weight domain is: its meaning, its laws, and what each of its functions answers.
use Rattle.std.specs.Prelude.{◌≡◌, ℕ, zero, suc, ◌+◌, ◌*◌, ◌^◌, ◌<◌, ◌≤◌, min, Bool, true, false, List, length, ℤ, pos, slice_index, slice_index_or}

-- the meaning of a domain: which v are its values (holds), their zero, sum, relation and size, and which codes are weights, of which values
pub record Meaning (V : Type 0) : Type 1 where
  pub holds : V → Type 0
  pub nil : V
  pub plus : V → V → V
  pub rel : V → V → Type 0
  pub size : V → ℕ
  pub weighs : ℤ → Bool
  pub weight : ℤ → V

-- the largest size that a weight may have
abbrev pub largest_weight : ℕ
largest_weight = 1000000

-- the largest size up to which sums are exact
abbrev pub largest_sum : ℕ
largest_sum = 10 ^ 16

-- n copies of w, added up
abbrev pub copies : {V : Type 0} → Meaning V → ℕ → V → V
copies d zero w = d.nil
copies d (suc n) w = d.plus w (copies d n w)

-- for each of the first k entries, its count of copies of the weight of its code, added up
abbrev pub row_to : {V : Type 0} → Meaning V → List ℕ → List ℤ → ℕ → V
row_to d counts codes zero = d.nil
row_to d counts codes (suc k) = d.plus (row_to d counts codes k) (copies d (slice_index counts k) (d.weight (slice_index_or codes k (pos 0))))

-- the most entries that a row has, so that its sum stays small
abbrev pub longest_row : ℕ
longest_row = 255

-- how many entries a row has: those that have both a count and a code, and at most the longest row
abbrev pub row_length : List ℕ → List ℤ → ℕ
row_length counts codes = min (min (length counts) (length codes)) longest_row

-- the value of a row
abbrev pub row_of : {V : Type 0} → Meaning V → List ℕ → List ℤ → V
row_of d counts codes = row_to d counts codes (row_length counts codes)

-- the answer says whether P holds
abbrev pub Tells : Bool → Type 0 → Type 0
Tells true P = P
Tells false P = P → ⊥

-- r is v with n copies of w, where their sizes stay within the largest sum, and zero elsewhere
pub record Added {V : Type 0} (d : Meaning V) (v : V) (n : ℕ) (w r : V) : Type 0 where
  pub exact : d.size v + n * d.size w ≤ largest_sum → r ≡ d.plus v (copies d n w)
  pub beyond : largest_sum < d.size v + n * d.size w → r ≡ d.nil

-- the laws: a preordered commutative monoid, with a code for zero, and sizes that bound sums and weights
pub record Laws {V : Type 0} (d : Meaning V) : Type 0 where
  pub nil_holds : d.holds d.nil
  pub plus_holds : (u v : V) → d.holds u → d.holds v → d.holds (d.plus u v)
  pub weight_holds : (c : ℤ) → d.holds (d.weight c)
  pub assoc : (u v w : V) → d.holds u → d.holds v → d.holds w → d.plus (d.plus u v) w ≡ d.plus u (d.plus v w)
  pub comm : (u v : V) → d.holds u → d.holds v → d.plus u v ≡ d.plus v u
  pub neutral : (v : V) → d.holds v → d.plus d.nil v ≡ v
  pub rel_refl : (v : V) → d.holds v → d.rel v v
  pub rel_trans : (u v w : V) → d.holds u → d.holds v → d.holds w → d.rel u v → d.rel v w → d.rel u w
  pub rel_plus : (u v w : V) → d.holds u → d.holds v → d.holds w → d.rel v w → d.rel (d.plus u v) (d.plus u w)
  pub code_zero : d.weighs (pos 0) ≡ true
  pub weight_zero : d.weight (pos 0) ≡ d.nil
  pub no_weight : (c : ℤ) → d.weighs c ≡ false → d.weight c ≡ d.nil
  pub size_nil : d.size d.nil ≡ 0
  pub size_plus : (u v : V) → d.holds u → d.holds v → d.size (d.plus u v) ≤ d.size u + d.size v
  pub size_weight : (c : ℤ) → d.size (d.weight c) ≤ largest_weight

-- r is v with n copies of the weight of a code: exact while there is room for n of the largest weights
pub record Grown {V : Type 0} (d : Meaning V) (v : V) (n : ℕ) (code : ℤ) (r : V) : Type 0 where
  pub added : Added d v n (d.weight code) r
  pub exact : d.size v + n * largest_weight ≤ largest_sum → r ≡ d.plus v (copies d n (d.weight code))
  pub stays : d.holds v → d.holds r
  pub small : d.holds v → d.size r ≤ d.size v + n * largest_weight

-- copies of a + b tokens are the sum of the copies of a and of b
abbrev pub CopiesSplit : {V : Type 0} → Meaning V → Type 0
CopiesSplit {V} d = (a b : ℕ) (w : V) → d.holds w → copies d (a + b) w ≡ d.plus (copies d a w) (copies d b w)

-- it does not matter in which order copies are added
abbrev pub CopiesCommute : {V : Type 0} → Meaning V → Type 0
CopiesCommute {V} d =
    (v : V) (n : ℕ) (w : V) (m : ℕ) (x : V) → d.holds v → d.holds w → d.holds x
    → d.plus (d.plus v (copies d n w)) (copies d m x) ≡ d.plus (d.plus v (copies d m x)) (copies d n w)

-- two related pairs have related sums
abbrev pub SumsRelate : {V : Type 0} → Meaning V → Type 0
SumsRelate {V} d =
    (u v w x : V) → d.holds u → d.holds v → d.holds w → d.holds x → d.rel u v → d.rel w x → d.rel (d.plus u w) (d.plus v x)
