-- Counts in memory, to which a bag is added.
use Rattle.std.specs.Prelude.{◌≡◌, ℕ, ◌+◌, ◌-◌, ◌^◌, ◌<◌, min, List, length, slice_index}

-- f is added to the counts from base on, each held at the largest number of 32 bits; those below stay
pub record Added (before after : List ℕ) (base : ℕ) (f : ℕ → ℕ) : Type 0 where
  pub below : (c : ℕ) → c < base → slice_index after c ≡ slice_index before c
  pub row : (e : ℕ) → base + e < length before → slice_index after (base + e) ≡ min (slice_index before (base + e) + f e) (2 ^ 32 - 1)
