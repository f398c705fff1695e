-- What holds of every net, of what a file tells and of the empty one: its terms are of their sorts, and its numbers are in their ranges.
use Rattle.std.specs.Prelude.{◌≡◌, ℕ, ◌+◌, ◌*◌, ◌^◌, ◌<◌, ◌≤◌, ◌⊎◌, true, List, length, pos, Some, None, Option, slice_index, slice_index_or, sum_by}
use Rattle.std.specs.List.{All}
use Rattle.std.specs.Option.{option_map_or}
use Rattle.domain.specs.Kinds.{kind_weighs}
use Rattle.format.specs.Format.{combinations, depth, mode_count, most_modes, variable_sizes}
use Rattle.term.specs.declared.signature.Arguments.{Arguments}
use Rattle.term.specs.declared.signature.Arguments.TheVariants as arguments
use Rattle.term.specs.declared.signature.BagOperation.{BagOperation}
use Rattle.term.specs.declared.signature.Operation.{Operation}
use Rattle.term.specs.Meaning.{Sig, bag_operation, bag_sorted, operation, size_of, sorted}
use Rattle.term.specs.Prefix.{bag_at, term_at}
use Rattle.net.specs.declared.parts.Claim.{Claim}
use Rattle.net.specs.Nets.{HasCell}
use Rattle.net.specs.System.{Arc, SystemNet, Transition, arc_count, longest_file, most_arcs, most_bag_operations, most_claims, most_operations, most_places, most_sorts, most_transitions}
use Rattle.net.specs.Written.{bag_bytes, term_bytes}

-- each byte is below 256
abbrev pub Bytes : List ℕ → Type 0
Bytes bs = All (λ b. b < 256) bs

-- a sort is declared, where sorts have these sizes
abbrev pub Declared : List ℕ → ℕ → Type 0
Declared sizes k = k < length sizes

-- the sort of each argument is declared, and there are at most two
abbrev pub ArgumentsDeclared : List ℕ → Arguments → Type 0
ArgumentsDeclared sizes arguments.None = Unit {0}
ArgumentsDeclared sizes (arguments.One a) = Declared sizes a
ArgumentsDeclared sizes (arguments.Two a b) = Declared sizes a × Declared sizes b
ArgumentsDeclared sizes (arguments.More a b) = ⊥

-- an operation has within the tables a result for each combination of its arguments: an element of its result sort
pub record WellFormedOperation (sizes tables : List ℕ) (o : Operation) : Type 0 where
  pub arguments : ArgumentsDeclared sizes o.arguments
  pub result : Declared sizes o.result
  pub within : o.table + combinations sizes o.arguments ≤ length tables
  pub results : (i : ℕ) → i < combinations sizes o.arguments → slice_index tables (o.table + i) < size_of sizes o.result

-- a bag operation has within the tables for each argument a count for each element of its result sort, below 256
pub record WellFormedBagOperation (sizes tables : List ℕ) (o : BagOperation) : Type 0 where
  pub argument : Declared sizes o.argument
  pub result : Declared sizes o.result
  pub within : o.table + size_of sizes o.argument * size_of sizes o.result ≤ length tables
  pub counts : (i : ℕ) → i < size_of sizes o.argument * size_of sizes o.result → slice_index tables (o.table + i) < 256

-- how many results an operation has: one for each combination of its arguments
abbrev pub results_of : List ℕ → Operation → ℕ
results_of sizes o = combinations sizes o.arguments

-- how many counts a bag operation has: for each argument one for each element of its result sort
abbrev pub counts_of : List ℕ → BagOperation → ℕ
counts_of sizes o = size_of sizes o.argument * size_of sizes o.result

-- how many entries the tables of all operations and bag operations have together
abbrev pub entries : Sig → ℕ
entries s = sum_by (results_of s.sizes) s.operations + sum_by (counts_of s.sizes) s.bags

-- one of so many entries from a place on
abbrev pub Among : ℕ → ℕ → ℕ → Type 0
Among from len i = (from ≤ i) × (i < from + len)

-- an entry of the tables is a result of some operation, or a count of some bag operation
abbrev pub IsResult : Sig → ℕ → Type 0
IsResult s i = (k : ℕ) × (k < length s.operations) × Among (operation s k).table (results_of s.sizes (operation s k)) i

abbrev pub IsCount : Sig → ℕ → Type 0
IsCount s i = (k : ℕ) × (k < length s.bags) × Among (bag_operation s k).table (counts_of s.sizes (bag_operation s k)) i

-- bytes are one term of the sort want, in variables of these sorts, and nothing else
pub record IsTerm (s : Sig) (vars : List ℕ) (want : ℕ) (bs : List ℕ) : Type 0 where
  pub over : sorted s vars want (term_at s depth bs).0 ≡ true
  pub bytes : bs ≡ term_bytes s (term_at s depth bs).0

-- bytes are one bag over the sort want, and nothing else
pub record IsBag (s : Sig) (vars : List ℕ) (want : ℕ) (bs : List ℕ) : Type 0 where
  pub over : bag_sorted s vars want (bag_at s depth bs).0 ≡ true
  pub bytes : bs ≡ bag_bytes s (bag_at s depth bs).0

-- a guard is a term of sort 0 in the transition's variables
abbrev pub WellFormedGuard : Sig → List ℕ → Option (List ℕ) → Type 0
WellFormedGuard s vars None = Unit {0}
WellFormedGuard s vars (Some g) = IsTerm s vars 0 g

-- an arc's place is declared, and its bag is one over the place's sort
pub record WellFormedArc (s : Sig) (places vars : List ℕ) (a : Arc) : Type 0 where
  pub place : a.place < length places
  pub bag : IsBag s vars (slice_index places a.place) a.bag

-- a transition has at most 4 variables, of declared sorts, and not too many modes
pub record WellFormedTransition (s : Sig) (places : List ℕ) (t : Transition) : Type 0 where
  pub few : length t.sorts ≤ 4
  pub sorts : All (Declared s.sizes) t.sorts
  pub sizes : t.sizes ≡ variable_sizes s.sizes (length t.sorts) t.sorts
  pub modes : mode_count t.sizes ≤ most_modes
  pub guard : WellFormedGuard s t.sorts t.guard
  pub takes : All (WellFormedArc s places t.sorts) t.takes
  pub puts : All (WellFormedArc s places t.sorts) t.puts

-- a claim has 1,024 codes, which are weights of its kind
pub record WellFormedClaim (k : Claim) : Type 0 where
  pub long : length k.codes ≡ 1024
  pub weights : All (λ c. kind_weighs k.kind c ≡ true) k.codes

-- how many bytes the bag of an arc has
abbrev pub span : Arc → ℕ
span a = length a.bag

-- how many bytes the bags of arcs have
abbrev pub spans : List Arc → ℕ
spans xs = sum_by span xs

-- how many bytes a transition's guard and bags have
abbrev pub bytes_of : Transition → ℕ
bytes_of t = option_map_or length t.guard 0 + (spans t.takes + spans t.puts)

-- a net within all limits of a net file, whose terms are of the right sorts
pub record WellFormed (n : SystemNet) : Type 0 where
  pub sorts : length n.sig.sizes ≤ most_sorts
  -- sort 0 has two elements, and every sort 1 to 64
  pub truths : size_of n.sig.sizes 0 ≡ 2
  pub inhabited : All (λ k. 1 ≤ k) n.sig.sizes
  pub sizes : All (λ k. k ≤ 64) n.sig.sizes
  pub few_operations : length n.sig.operations ≤ most_operations
  pub operations : All (WellFormedOperation n.sig.sizes n.sig.tables) n.sig.operations
  pub few_bags : length n.sig.bags ≤ most_bag_operations
  pub bags : All (WellFormedBagOperation n.sig.sizes n.sig.tables) n.sig.bags
  -- what an operation gives past its own table is a byte too
  pub tables : Bytes n.sig.tables
  -- the tables hold the entries of operations and bag operations, each in a place of its own, and nothing else
  pub whole : length n.sig.tables ≡ entries n.sig
  pub owned : (i : ℕ) → i < length n.sig.tables → IsResult n.sig i ⊎ IsCount n.sig i
  pub few_places : length n.places ≤ most_places
  pub places : All (Declared n.sig.sizes) n.places
  -- the initial marking has 1,024 counts of 16 bits; one that is of no cell is 0
  pub marked : length n.initial ≡ 1024
  pub counts : All (λ k. k < 2 ^ 16) n.initial
  pub unmarked : (c : ℕ) → (HasCell n c → ⊥) → slice_index n.initial c ≡ 0
  pub few_transitions : length n.transitions ≤ most_transitions
  pub transitions : All (WellFormedTransition n.sig n.places) n.transitions
  pub few_arcs : arc_count n ≤ most_arcs
  -- guards and bags have no more bytes than the longest file
  pub short : sum_by bytes_of n.transitions ≤ longest_file
  pub few_claims : length n.claims ≤ most_claims
  pub claims : All WellFormedClaim n.claims
  -- a code that is of no cell is 0
  pub uncoded : All (λ k. (c : ℕ) → (HasCell n c → ⊥) → slice_index_or k.codes c (pos 0) ≡ pos 0) n.claims
