-- The meaning of a caller's own domain.
use Rattle.std.specs.Prelude.{ℕ, ◌≤◌, max, Bool, true, false, ℤ, pos, negsuc}
use Rattle.domain.specs.Meaning.{Meaning}
use Rattle.domain_tests.specs.declared.Height.{Height}

-- a height of some metres
abbrev pub height : ℕ → Height
height n = record { metres = n }

-- the codes from 0 on
abbrev pub height_code : ℤ → Bool
height_code (pos n) = true
height_code (negsuc n) = false

-- a code is a height in metres
abbrev pub height_weight : ℤ → Height
height_weight (pos n) = height n
height_weight (negsuc n) = height 0

-- heights under the maximum; the highest never rises
abbrev pub greatest : Meaning Height
greatest = record {
  holds = λ _. Unit {0};
  nil = height 0;
  plus = λ v w. height (max v.metres w.metres);
  rel = λ v w. w.metres ≤ v.metres;
  size = λ _. 0;
  weighs = height_code;
  weight = height_weight;
}
