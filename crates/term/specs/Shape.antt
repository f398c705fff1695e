-- What passed the check.
use Rattle.std.specs.Prelude.{◌≡◌, ℕ, ◌<◌, true, List, length, drop, slice_index}
use Rattle.term.specs.Meaning.{Sig, bag_operation, bag_sorted, sorted}
use Rattle.term.specs.Prefix.{bag_at, term_at}

-- what passed the check is a term of its sort, and r follows it
abbrev pub Passed : Sig → List ℕ → ℕ → ℕ → List ℕ → List ℕ → Type 0
Passed s vars d want bs r = (r ≡ (term_at s d bs).1) × (sorted s vars want (term_at s d bs).0 ≡ true)

-- what passed the check is a bag over its sort, and r follows it
abbrev pub PassedBag : Sig → List ℕ → ℕ → ℕ → List ℕ → List ℕ → Type 0
PassedBag s vars d want bs r = (r ≡ (bag_at s d bs).1) × (bag_sorted s vars want (bag_at s d bs).0 ≡ true)

-- a bag operation over the sort want stands here, with an argument of the sort a at r
pub record Flexible (s : Sig) (want : ℕ) (bs : List ℕ) (a : ℕ) (r : List ℕ) : Type 0 where
  pub long : 1 < length bs
  pub known : slice_index bs 1 < length s.bags
  pub over : (bag_operation s (slice_index bs 1)).result ≡ want
  pub argument : a ≡ (bag_operation s (slice_index bs 1)).argument
  pub rest : r ≡ drop 2 bs
