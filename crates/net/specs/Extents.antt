-- Parts of lists that transitions and arcs share.
use Rattle.std.specs.Prelude.{◌≡◌, ℕ, ◌+◌, ◌-◌, ◌<◌, ◌≤◌, List, [], length, take, drop, slice_index_or}
use Rattle.std.specs.List.{All}
use Rattle.std.specs.Option.{ForSome}
use Rattle.net.specs.declared.parts.Arc.{Arc}
use Rattle.net.specs.declared.parts.Transition.{Transition}
use Rattle.net.specs.declared.parts.extent.Extent.{Extent}

-- what a part of a list has
abbrev pub part_of : {X : Type 0} → Extent → List X → List X
part_of e xs = take e.len (drop e.from xs)

-- how many stand up to the end of a part
abbrev pub end_of : Extent → ℕ
end_of e = e.from + e.len

-- the parts that a transition has are within the lists
pub record PartsWithin (takes puts : List Arc) (bytes : List ℕ) (t : Transition) : Type 0 where
  pub variables : end_of t.sorts ≤ length bytes
  pub guarded : ForSome t.guard (λ e. end_of e ≤ length bytes)
  pub taken : end_of t.takes ≤ length takes
  pub put : end_of t.puts ≤ length puts

-- the bag of each arc is within the bytes
abbrev pub BagsWithin : List ℕ → List Arc → Type 0
BagsWithin bytes xs = All (λ a. end_of a.bag ≤ length bytes) xs

-- all parts are within their lists, and those of the newest transition stand last among the arcs
pub record PartsInPlace (ts : List Transition) (takes puts : List Arc) (bytes : List ℕ) : Type 0 where
  pub each : All (PartsWithin takes puts bytes) ts
  pub taken : BagsWithin bytes takes
  pub put : BagsWithin bytes puts
  pub last_taken : (d : Transition) → 0 < length ts → end_of (slice_index_or ts (length ts - 1) d).takes ≡ length takes
  pub last_put : (d : Transition) → 0 < length ts → end_of (slice_index_or ts (length ts - 1) d).puts ≡ length puts

-- neither arcs nor bytes are left
abbrev pub NothingLeft : List Arc → List Arc → List ℕ → Type 0
NothingLeft takes puts bytes = (takes ≡ []) × (puts ≡ []) × (bytes ≡ [])
