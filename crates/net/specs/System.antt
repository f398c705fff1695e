-- An algebraic system net as a plain value, and the one that parts in memory tell.
use Rattle.std.specs.Prelude.{ℕ, ◌+◌, List, [], length, Option, None, map, option_map, sum_by, vec_items}
use Rattle.term.specs.Meaning.{Sig}
use Rattle.format.specs.declared.command.Direction.{Direction}
use Rattle.format.specs.declared.command.Direction.TheVariants.{In, Out}
use Rattle.net.specs.declared.parts.Arc as arcs
use Rattle.net.specs.declared.parts.Claim.{Claim}
use Rattle.net.specs.declared.parts.Parts.{Parts}
use Rattle.net.specs.declared.parts.Transition as parts
use Rattle.net.specs.declared.parts.transitions.Transitions.{Transitions}
use Rattle.net.specs.Extents.{part_of}

-- the number of cells: 16 places of at most 64 elements
abbrev pub cells : ℕ
cells = 1024

-- the number of bytes of the longest file
abbrev pub longest_file : ℕ
longest_file = 65536

-- at most so many of each stand in a file; sort 0, which stands in none, is one of the sorts
abbrev pub most_sorts : ℕ
most_sorts = 8

abbrev pub most_operations : ℕ
most_operations = 32

abbrev pub most_bag_operations : ℕ
most_bag_operations = 8

abbrev pub most_places : ℕ
most_places = 16

abbrev pub most_transitions : ℕ
most_transitions = 32

-- the arcs of all transitions together
abbrev pub most_arcs : ℕ
most_arcs = 128

abbrev pub most_claims : ℕ
most_claims = 16

-- an arc: its place, and the bytes of its bag
pub record Arc : Type 0 where
  pub place : ℕ
  pub bag : List ℕ

-- a transition: the sorts of its variables, how many elements each of four has (1 for an unused one), the bytes of its
-- guard, and the arcs by which it takes and puts
pub record Transition : Type 0 where
  pub sorts : List ℕ
  pub sizes : List ℕ
  pub guard : Option (List ℕ)
  pub takes : List Arc
  pub puts : List Arc

abbrev pub no_transition : Transition
no_transition = record { sorts = []; sizes = []; guard = None; takes = []; puts = [] }

-- sorts and operations; the sorts of the places; the initial count of each cell; transitions; claims, each with its kind
-- and a code for each cell
pub record SystemNet : Type 0 where
  pub sig : Sig
  pub places : List ℕ
  pub initial : List ℕ
  pub transitions : List Transition
  pub claims : List Claim

-- what goes one way, of what a transition takes and what it puts
abbrev pub towards : {X : Type 0} → Direction → List X → List X → List X
towards In takes puts = takes
towards Out takes puts = puts

-- how many arcs a transition has, both directions together
abbrev pub arcs_in : Transition → ℕ
arcs_in t = length t.takes + length t.puts

-- how many arcs there are
abbrev pub arc_count : SystemNet → ℕ
arc_count n = sum_by arcs_in n.transitions

-- the arc that one in memory holds, whose bag is a part of these bytes
abbrev pub arc_told : List ℕ → arcs.Arc → Arc
arc_told bytes a = record { place = a.place; bag = part_of a.bag bytes }

-- the transition that one in memory holds, which has parts of the arcs that take, of those that put, and of these bytes
abbrev pub transition_told : List arcs.Arc → List arcs.Arc → List ℕ → parts.Transition → Transition
transition_told takes puts bytes t = record {
  sorts = part_of t.sorts bytes;
  sizes = t.sizes;
  guard = option_map (λ e. part_of e bytes) t.guard;
  takes = map (arc_told bytes) (part_of t.takes takes);
  puts = map (arc_told bytes) (part_of t.puts puts);
}

-- the transitions that those in memory hold
abbrev pub transitions_told : Transitions → List Transition
transitions_told s = map (transition_told (vec_items s.takes) (vec_items s.puts) (vec_items s.bytes)) (vec_items s.list)

-- the net that parts in memory tell
abbrev pub told_by : Parts → SystemNet
told_by p = record {
  sig = record { sizes = vec_items p.sizes; operations = vec_items p.operations; bags = vec_items p.bags; tables = vec_items p.tables };
  places = vec_items p.places;
  initial = p.initial;
  transitions = transitions_told p.transitions;
  claims = vec_items p.claims;
}
