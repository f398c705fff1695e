-- The sum of one weight for each code.
use Rattle.std.specs.Prelude.{ℕ, zero, suc, ◌+◌, cond, List, length, ℤ, pos, nat_le, slice_index_or}
use Rattle.domain.specs.Meaning.{Meaning, largest_sum}

-- v and w added where their sizes stay within the largest sum, and zero elsewhere
abbrev pub within : {V : Type 0} → Meaning V → V → V → V
within d v w = cond (nat_le (d.size v + d.size w) largest_sum) (d.plus v w) d.nil

module _ {V : Type 0} (d : Meaning V) (codes : List ℤ) where
  -- the weight of the code at i
  abbrev pub weight_at : ℕ → V
  weight_at i = d.weight (slice_index_or codes i (pos 0))

  -- the sum over the first k codes
  abbrev pub total_to : ℕ → V
  total_to zero = d.nil
  total_to (suc i) = d.plus (total_to i) (weight_at i)

  -- the sum over all codes
  abbrev pub total_of : V
  total_of = total_to (length codes)

  -- what adding one code after the other comes to, however many there are
  abbrev pub running_to : ℕ → V
  running_to zero = d.nil
  running_to (suc i) = within d (running_to i) (weight_at i)

  abbrev pub running_of : V
  running_of = running_to (length codes)
