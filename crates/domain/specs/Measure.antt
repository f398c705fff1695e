-- What a measuring domain is.
use Rattle.std.specs.Prelude.{ℕ, ◌/◌, ◌<◌, Bool, cond, not, ◌||◌, Option, Some, None, ℤ, pos, negsuc, ◌==◌}
use Rattle.domain.specs.Meaning.{Meaning, copies}

-- plain values are values, and sums of them are plain
pub record PlainLaws {V : Type 0} (d : Meaning V) (plain : V → Type 0) : Type 0 where
  pub plain_holds : (v : V) → plain v → d.holds v
  pub plain_nil : plain d.nil
  pub plain_plus : (u v : V) → plain u → plain v → plain (d.plus u v)

-- v relates to n copies of w plus some plain value
abbrev pub Reaches : {V : Type 0} → Meaning V → (V → Type 0) → V → V → ℕ → Type 0
Reaches {V} d plain v w n = (p : V) × plain p × d.rel v (d.plus (copies d n w) p)

-- the largest such n: it is one, and no greater one is; or, where nothing bounds it, every n is one
abbrev pub Largest : {V : Type 0} → Meaning V → (V → Type 0) → V → V → Option ℕ → Type 0
Largest d plain v w (Some n) = Reaches d plain v w n × ((m : ℕ) → n < m → Reaches d plain v w m → ⊥)
Largest d plain v w None = (n : ℕ) → Reaches d plain v w n

-- how often b goes into a, for whole numbers from 0 on
abbrev pub whole_largest : ℤ → ℤ → Option ℕ
whole_largest (pos a) (pos b) = cond (b == 0) None (Some (a / b))
whole_largest (pos a) (negsuc b) = Some 0
whole_largest (negsuc a) (pos b) = Some 0
whole_largest (negsuc a) (negsuc b) = Some 0

-- truth values: no copy of true fits where false must stay false
abbrev pub truth_largest : Bool → Bool → Option ℕ
truth_largest v w = cond (v || not w) None (Some 0)
