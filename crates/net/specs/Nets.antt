-- Nets and what their transitions take and put.
use Rattle.std.specs.Prelude.{◌≡◌, ℕ, ◌+◌, ◌-◌, ◌*◌, ◌/◌, ◌%◌, ◌^◌, ◌<◌, min, Bool, true, cond, List, [], ◌∷◌, length, ℤ, ◌==◌, slice_index, slice_index_or, sum_by}
use Rattle.std.specs.Option.{option_map_or}
use Rattle.domain.specs.declared.kind.Kind.{Kind}
use Rattle.domain.specs.declared.kind.Kind.TheVariants.{Equal}
use Rattle.format.specs.declared.command.Direction.{Direction}
use Rattle.format.specs.Format.{depth, mode_count, place_size}
use Rattle.term.specs.Meaning.{Bag, count, value}
use Rattle.term.specs.Prefix.{bag_at, term_at}
use Rattle.term.specs.Worth.{Marking, on_place}
use Rattle.net.specs.declared.parts.Claim.{Claim}
use Rattle.net.specs.System.{Arc, SystemNet, Transition, cells, longest_file, no_transition, towards}

abbrev pub transition : SystemNet → ℕ → Transition
transition n t = slice_index_or n.transitions t no_transition

-- the guard of a transition is true in a mode; a missing guard always is
abbrev pub guard_holds : SystemNet → ℕ → List ℕ → Bool
guard_holds n t m = option_map_or (λ g. value n.sig m (term_at n.sig depth g).0 == 1) (transition n t).guard true

-- the bag of an arc
abbrev pub bag_of : SystemNet → Arc → Bag
bag_of n a = (bag_at n.sig depth a.bag).0

-- the arcs of a transition that go one way
abbrev pub arcs_of : SystemNet → ℕ → Direction → List Arc
arcs_of n t d = towards d (transition n t).takes (transition n t).puts

-- what an arc adds in a mode
abbrev pub part : SystemNet → List ℕ → ℕ → Arc → ℕ
part n m c a = on_place a.place (count n.sig m (bag_of n a)) c

-- the sum of the bags of arcs, in a mode
abbrev pub side : SystemNet → List ℕ → List Arc → Marking
side n m xs c = sum_by (part n m c) xs

-- what a transition takes in a mode, and what it puts
abbrev pub taken : SystemNet → ℕ → List ℕ → Marking
taken n t m = side n m (transition n t).takes

abbrev pub given : SystemNet → ℕ → List ℕ → Marking
given n t m = side n m (transition n t).puts

-- the remainder, 0 where there is nothing to divide by
abbrev pub digit : ℕ → ℕ → ℕ
digit i n = cond (n == 0) 0 (i % n)

-- the mode number i, the last variable fastest
abbrev pub mode_of : List ℕ → ℕ → List ℕ
mode_of ns i =
    digit (i / slice_index ns 3 / slice_index ns 2 / slice_index ns 1) (slice_index ns 0) ∷ digit (i / slice_index ns 3 / slice_index ns 2) (slice_index ns 1)
    ∷ digit (i / slice_index ns 3) (slice_index ns 2) ∷ digit i (slice_index ns 3) ∷ []

-- how many modes a transition has, and the mode of a number, the first variable slowest
abbrev pub modes_of : SystemNet → ℕ → ℕ
modes_of n t = mode_count (transition n t).sizes

abbrev pub mode : SystemNet → ℕ → ℕ → List ℕ
mode n t i = mode_of (transition n t).sizes i

-- a mode gives each of the four variables an element of its sort, 0 where there is no variable
pub record Mode (ns m : List ℕ) : Type 0 where
  pub four : length m ≡ 4
  pub first : slice_index m 0 < slice_index ns 0
  pub second : slice_index m 1 < slice_index ns 1
  pub third : slice_index m 2 < slice_index ns 2
  pub fourth : slice_index m 3 < slice_index ns 3

-- a marking is added to counts, each held at the largest number of 32 bits
abbrev pub Tallied : List ℕ → List ℕ → Marking → Type 0
Tallied before after m = (c : ℕ) → c < length before → slice_index after c ≡ min (slice_index before c + m c) (2 ^ 32 - 1)

-- at most how many tokens the arcs of a transition that go one way have in a cell: 255 for each 4 bytes of a file
abbrev pub largest_side : ℕ
largest_side = 255 * (longest_file / 4)

-- a marking is added to counts, exactly, where there is room for the largest side
abbrev pub ExactlyTallied : List ℕ → List ℕ → Marking → Type 0
ExactlyTallied before after m = (c : ℕ) → c < length before → slice_index before c + largest_side < 2 ^ 32 → slice_index after c ≡ slice_index before c + m c

-- the cell stands for a place of the net and an element of that place's sort
pub record HasCell (n : SystemNet) (cell : ℕ) : Type 0 where
  pub within : cell < cells
  pub element : cell % 64 < place_size n.sig.sizes n.places (cell / 64)

abbrev pub no_claim : Claim
no_claim = record { kind = Equal; codes = [] }

abbrev pub claim_of : SystemNet → ℕ → Claim
claim_of n k = slice_index_or n.claims k no_claim

-- the codes of a claim, one for each cell
abbrev pub codes_of : SystemNet → ℕ → List ℤ
codes_of n k = (claim_of n k).codes

-- the net has a claim of this number and kind
pub record IsKind (n : SystemNet) (claim : ℕ) (k : Kind) : Type 0 where
  pub there : claim < length n.claims
  pub is : k ≡ (claim_of n claim).kind
