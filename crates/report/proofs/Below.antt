-- Of two numbers one is below the other, or they are the same.
use Rattle.std.proofs.Common.{◌≡◌, ℕ, ◌<◌, ◌⊎◌, arith}

pub below_same_above : (i j : ℕ) → (i < j) ⊎ ((i ≡ j) ⊎ (j < i))
below_same_above i j = grind arith
