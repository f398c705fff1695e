-- Markings and their value in a weight domain.
use Rattle.std.specs.Prelude.{◌≡◌, ℕ, zero, suc, ◌+◌, ◌-◌, ◌*◌, ◌≤◌, cond, List, length, ℤ, pos, nat_le, slice_index_or}
use Rattle.domain.specs.Meaning.{Meaning, copies, largest_sum, largest_weight}

-- a marking gives each cell a count, without limit
abbrev pub Marking : Type 0
Marking = ℕ → ℕ

-- the number of the cell of a place and an element: each place has 64 cells
abbrev pub cell_at : ℕ → ℕ → ℕ
cell_at place element = 64 * place + element

-- counts of the elements of a place, as a marking
abbrev pub on_place : ℕ → (ℕ → ℕ) → Marking
on_place place f c = cond (nat_le (64 * place) c) (f (c - 64 * place)) 0

module _ {V : Type 0} (d : Meaning V) (codes : List ℤ) where
  -- the weight of a cell; a cell without a code has the code 0
  abbrev pub weight_of : ℕ → V
  weight_of c = d.weight (slice_index_or codes c (pos 0))

  -- for each of the first k cells, its count of copies of its weight, added up
  abbrev pub value_to : Marking → ℕ → V
  value_to m zero = d.nil
  value_to m (suc c) = d.plus (value_to m c) (copies d (m c) (weight_of c))

  -- the value of a marking of the cells that have a code
  abbrev pub value_of : Marking → V
  value_of m = value_to m (length codes)

  -- v with the value of a marking of at most n tokens added
  pub record Weighed (v : V) (m : Marking) (n : ℕ) (r : V) : Type 0 where
    pub is : r ≡ d.plus v (value_of m)
    pub holds : d.holds r
    pub size : d.size r ≤ d.size v + largest_weight * n

  -- the same, wherever the sizes stay within what adding promises
  abbrev pub Weighs : V → Marking → ℕ → V → Type 0
  Weighs v m n r = d.holds v → d.size v + largest_weight * n ≤ largest_sum → Weighed v m n r
