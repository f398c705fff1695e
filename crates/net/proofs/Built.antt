-- A net as it is built, command by command: what holds of it in each section of a file.
use Rattle.std.proofs.Common.{◌≡◌, ℕ, ◌+◌, ◌*◌, ◌<◌, ◌≤◌, true, List, [], ◌∷◌, ◌++◌, length, set, ℤ, arith}
use Rattle.domain.specs.declared.kind.Kind.{Kind}
use Rattle.domain.specs.Kinds.{kind_weighs}
use Rattle.format.specs.Commands.{arc, bag_operation, claim, element_weight, guard, operation, place, place_weight, sort, tokens, transition}
use Rattle.format.specs.Format.{place_size}
use Rattle.format.specs.declared.command.Direction.{Direction}
use Rattle.format.specs.declared.section.Section.{Section}
use Rattle.term.specs.declared.signature.Arguments.{Arguments}
use Rattle.term.specs.Meaning.{Sig}
use Rattle.net.specs.declared.parts.Claim.{Claim}
use Rattle.net.specs.Nets.{no_claim}
use Rattle.net.specs.Reading.{add, newest}
use Rattle.net.specs.WellFormed.{IsTerm, WellFormedArc}
use Rattle.net.specs.System.{SystemNet, Transition, arc_count, most_arcs, most_bag_operations, most_claims, most_operations, most_places, most_sorts, most_transitions, no_transition}
use Rattle.net.proofs.Cells.{Marked, marked_place, marked_sort, marked_tokens}
use Rattle.net.proofs.Codings.{Codings, codings_before, codings_claim, codings_element, codings_place}
use Rattle.net.proofs.Moves.{Moves, moves_arc, moves_before, moves_guard, moves_transition}
use Rattle.net.proofs.Operands.{Counting, Resulting, Varied}
use Rattle.net.proofs.Signatures.{Signed, small, with_bag_operation, with_operation, with_sort}
use Rattle.net.proofs.Stages.{Opens, Stage, rank}

pub record Built (s : Section) (n : SystemNet) : Type 0 where
  pub sig : Signed n.sig
  pub marking : Marked n.sig.sizes n.places n.initial
  pub moves : Moves n.sig n.places n.transitions
  pub codings : Codings n.sig.sizes n.places n.claims
  pub stage : Stage (rank s) n

-- a command that may stand here keeps what holds
module _ (s s' : Section) (n : SystemNet) (b : Built s n) where
  -- sorts, operations and bag operations, before there are places
  other_sig : (new : Sig) → Signed new → Marked new.sizes n.places n.initial → rank s ≤ 1 → (rank s' < 1 → length new.operations ≡ 0) → (rank s' < 1 → length new.bags ≡ 0)
      → Built s' (record n { sig = new })
  other_sig new d m r none no_bags = record {
    sig = d;
    marking = m;
    moves = moves_before n.sig n.places n.transitions b.moves (b.stage.transitions (omega arith)) new n.places;
    codings = codings_before n.sig.sizes n.places n.claims b.codings (b.stage.claims (omega arith)) new.sizes n.places;
    stage = record {
      operations = none;
      bags = no_bags;
      places = λ _. b.stage.places (omega arith);
      transitions = λ _. b.stage.transitions (omega arith);
      claims = λ _. b.stage.claims (omega arith);
    };
  }

  pub add_sort : (k : ℕ) → 1 ≤ k → k ≤ 64 → length n.sig.sizes < most_sorts → Opens 0 s s' → Built s' (add n (sort k))
  add_sort k low high room o =
      let first : rank s ≤ 0 = o.0 in
      let none = b.stage.operations (omega arith) in
      let no_bags = b.stage.bags (omega arith) in
      other_sig (record n.sig { sizes = n.sig.sizes ++ k ∷ [] }) (with_sort n.sig b.sig k low high room none no_bags)
      (marked_sort n.sig.sizes n.places n.initial b.marking (b.stage.places (omega arith)) (n.sig.sizes ++ k ∷ [])) (omega arith) (λ _. none) (λ _. no_bags)

  pub add_operation : (a : Arguments) (r : ℕ) (t : List ℕ) → Resulting n.sig.sizes a r t → length n.sig.operations < most_operations → Opens 1 s s' → Built s' (add n (operation a r t))
  add_operation a r t h room o =
      let second : rank s' ≡ 1 = o.1 in
      other_sig (add n (operation a r t)).sig (with_operation n.sig b.sig a r t h room) b.marking o.0 (λ l. let z : ⊥ = omega arith in absurd z) (λ l. let z : ⊥ = omega arith in absurd z)

  pub add_bag_operation : (x r : ℕ) (t : List ℕ) → Counting n.sig.sizes x r t → length n.sig.bags < most_bag_operations → Opens 1 s s' → Built s' (add n (bag_operation x r t))
  add_bag_operation x r t h room o =
      let second : rank s' ≡ 1 = o.1 in
      other_sig (add n (bag_operation x r t)).sig (with_bag_operation n.sig b.sig x r t h room) b.marking o.0 (λ l. let z : ⊥ = omega arith in absurd z) (λ l. let z : ⊥ = omega arith in absurd z)

  -- places and the initial marking, before there are transitions
  other_cells : (places initial : List ℕ) → Marked n.sig.sizes places initial → Opens 2 s s' → Built s' (record n { places = places; initial = initial })
  other_cells places initial m o =
      let from : rank s ≤ 2 = o.0 in
      let third : rank s' ≡ 2 = o.1 in
      record {
        sig = b.sig;
        marking = m;
        moves = moves_before n.sig n.places n.transitions b.moves (b.stage.transitions (omega arith)) n.sig places;
        codings = codings_before n.sig.sizes n.places n.claims b.codings (b.stage.claims (omega arith)) n.sig.sizes places;
        stage = record {
          operations = λ l. let z : ⊥ = omega arith in absurd z;
          bags = λ l. let z : ⊥ = omega arith in absurd z;
          places = λ l. let z : ⊥ = omega arith in absurd z;
          transitions = λ _. b.stage.transitions (omega arith);
          claims = λ _. b.stage.claims (omega arith);
        };
      }

  pub add_place : (x : ℕ) → x < length n.sig.sizes → length n.places < most_places → Opens 2 s s' → Built s' (add n (place x))
  add_place x known room o = other_cells (n.places ++ x ∷ []) n.initial (marked_place n.sig.sizes n.places n.initial b.marking room x known) o

  pub add_tokens : (p e k : ℕ) → e < place_size n.sig.sizes n.places p → k < 65536 → Opens 2 s s' → Built s' (add n (tokens p e k))
  add_tokens p e k on h o = other_cells n.places (set n.initial (64 * p + e) k) (marked_tokens n.sig.sizes n.places n.initial b.marking (small n.sig b.sig) p e k on h) o

  -- transitions and what belongs to them, before there are claims
  other_moves : (ts : List Transition) → Moves n.sig n.places ts → Opens 3 s s' → Built s' (record n { transitions = ts })
  other_moves ts m o =
      let from : rank s ≤ 3 = o.0 in
      let fourth : rank s' ≡ 3 = o.1 in
      record {
        sig = b.sig;
        marking = b.marking;
        moves = m;
        codings = b.codings;
        stage = record {
          operations = λ l. let z : ⊥ = omega arith in absurd z;
          bags = λ l. let z : ⊥ = omega arith in absurd z;
          places = λ l. let z : ⊥ = omega arith in absurd z;
          transitions = λ l. let z : ⊥ = omega arith in absurd z;
          claims = λ _. b.stage.claims (omega arith);
        };
      }

  pub add_transition : (v : List ℕ) → Varied n.sig.sizes v → length n.transitions < most_transitions → Opens 3 s s' → Built s' (add n (transition v))
  add_transition v h room o = other_moves (add n (transition v)).transitions (moves_transition n.sig n.places n.transitions b.moves room v h) o

  pub add_guard : (t : List ℕ) → IsTerm n.sig (newest n.transitions no_transition).sorts 0 t → Opens 3 s s' → Built s' (add n (guard t))
  add_guard t h o = other_moves (add n (guard t)).transitions (moves_guard n.sig n.places n.transitions b.moves t h) o

  pub add_arc : (d : Direction) (p : ℕ) (t : List ℕ) → WellFormedArc n.sig n.places (newest n.transitions no_transition).sorts (record { place = p; bag = t }) → arc_count n < most_arcs → Opens 3 s s' → Built s' (add n (arc d p t))
  add_arc d p t h room o = other_moves (add n (arc d p t)).transitions (moves_arc n.sig n.places n.transitions b.moves d (record { place = p; bag = t }) room h) o

  -- claims and their codes
  other_codings : (claims : List Claim) → Codings n.sig.sizes n.places claims → Opens 4 s s' → Built s' (record n { claims = claims })
  other_codings claims f o =
      let fifth : rank s' ≡ 4 = o.1 in
      record {
        sig = b.sig;
        marking = b.marking;
        moves = b.moves;
        codings = f;
        stage = record {
          operations = λ l. let z : ⊥ = omega arith in absurd z;
          bags = λ l. let z : ⊥ = omega arith in absurd z;
          places = λ l. let z : ⊥ = omega arith in absurd z;
          transitions = λ l. let z : ⊥ = omega arith in absurd z;
          claims = λ l. let z : ⊥ = omega arith in absurd z;
        };
      }

  pub add_claim : (k : Kind) → length n.claims < most_claims → Opens 4 s s' → Built s' (add n (claim k))
  add_claim k room o = other_codings (add n (claim k)).claims (codings_claim n.sig.sizes n.places n.claims b.codings room k) o

  pub add_place_weight : (p : ℕ) (c : ℤ) → kind_weighs (newest n.claims no_claim).kind c ≡ true → Opens 4 s s' → Built s' (add n (place_weight p c))
  add_place_weight p c h o = other_codings (add n (place_weight p c)).claims (codings_place n.sig.sizes n.places n.claims b.codings (small n.sig b.sig) p c h) o

  pub add_element_weight : (p e : ℕ) (c : ℤ) → e < place_size n.sig.sizes n.places p → kind_weighs (newest n.claims no_claim).kind c ≡ true → Opens 4 s s' → Built s' (add n (element_weight p e c))
  add_element_weight p e c on h o = other_codings (add n (element_weight p e c)).claims (codings_element n.sig.sizes n.places n.claims b.codings (small n.sig b.sig) p c h e on) o
