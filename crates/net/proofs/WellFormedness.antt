-- Every net that a file tells is well-formed.
use Rattle.std.proofs.Common.{◌≡◌, ℕ, zero, suc, ◌+◌, ◌/◌, ◌%◌, ◌<◌, ◌≤◌, false, ltb, leb, List, [], ◌∷◌, length, get_or, pos, Some, None, Ok, Err, Option, Result, sum_by, sym, refl, subst, ⊎_elim, arith, leb-false, leb-true}
use Rattle.std.proofs.lemmas.List.{get_or_past, length-replicate}
use Rattle.std.proofs.lemmas.List.Elements.{All-cons, All-nil, All-replicate}
use Rattle.std.proofs.lemmas.Bool.{cases_lt, cond_both, le-ltb}
use Rattle.format.specs.Codes.{code_of}
use Rattle.format.specs.Commands.{Read, Said, arc, bag_operation, claim, element_weight, end, fault, guard, operation, place, place_weight, said, sort, tokens, transition}
use Rattle.format.specs.Format.{parse_at, place_size}
use Rattle.format.specs.Order.{enters}
use Rattle.format.specs.declared.command.Code.{Code}
use Rattle.format.specs.declared.command.Direction.TheVariants as direction
use Rattle.format.specs.declared.section.Section.{Section}
use Rattle.format.specs.declared.section.Section.TheVariants as section
use Rattle.net.specs.Nets.{HasCell}
use Rattle.net.specs.declared.reader.ReadError.{ReadError}
use Rattle.net.specs.Reading.{Opening, Reads, Step, Told, add, after, carried, commands, empty, entered, full, known, last, next, opened, setting, step, stop, told, went}
use Rattle.net.specs.WellFormed.{Bytes, Declared, WellFormed, WellFormedBagOperation, WellFormedOperation, WellFormedTransition, bytes_of}
use Rattle.net.specs.System.{SystemNet, arc_count, longest_file, most_arcs, most_bag_operations, most_claims, most_operations, most_places, most_sorts, most_transitions}
use Rattle.net.proofs.Built.{Built, add_arc, add_bag_operation, add_claim, add_element_weight, add_guard, add_operation, add_place, add_place_weight, add_sort, add_tokens, add_transition}
use Rattle.net.proofs.Cells.{alike, cell}
use Rattle.net.proofs.Codings.{Weighted}
use Rattle.net.proofs.Moves.{arc_bytes, bare_bytes, guard_bytes}
use Rattle.net.proofs.Operands.{Heard, Holds, Taken, heard_bag_operation, heard_claim, heard_element_weight, heard_end, heard_guard, heard_in, heard_operation, heard_out, heard_place, heard_place_weight, heard_sort, heard_tokens, heard_transition, taken, text}
use Rattle.net.proofs.Stages.{after_arc, after_claim, after_guard, after_operations, after_places, after_sorts, after_transitions, after_weight}

-- what is no cell, below the end of all cells or past it
no_cell : (n : SystemNet) (c : ℕ) → (HasCell n c → ⊥) → c < 1024 → cell n.sig.sizes n.places c ≡ false
no_cell n c h low = ⊎_elim
    (λ (l : c % 64 < place_size n.sig.sizes n.places (c / 64)). absurd (h (record { within = low; element = l })))
    (λ (l : place_size n.sig.sizes n.places (c / 64) ≤ c % 64). le-ltb _ _ l)
    (cases_lt (c % 64) (place_size n.sig.sizes n.places (c / 64)))

zero_off : {X : Type 0} (n : SystemNet) (xs : List X) (z : X) → length xs ≡ 1024 → ((c : ℕ) → cell n.sig.sizes n.places c ≡ false → get_or xs c z ≡ z) → (c : ℕ) → (HasCell n c → ⊥) → get_or xs c z ≡ z
zero_off n xs z long f c h = ⊎_elim (λ (l : c < 1024). f c (no_cell n c h l)) (λ (l : 1024 ≤ c). get_or_past xs c z (omega arith)) (cases_lt c 1024)

-- a net that is built, with no more bytes of guards and bags than a file has, is well-formed
well_formed_of : (s : Section) (n : SystemNet) → Built s n → sum_by bytes_of n.transitions ≤ longest_file → WellFormed n
well_formed_of s n b short = record {
  sorts = b.sig.sorts;
  truths = b.sig.truths;
  inhabited = b.sig.inhabited;
  sizes = b.sig.sizes;
  few_operations = b.sig.few_operations;
  operations = b.sig.operations;
  few_bags = b.sig.few_bags;
  bags = b.sig.bags;
  tables = b.sig.tables;
  whole = b.sig.whole;
  owned = b.sig.owned;
  few_places = b.marking.few;
  places = b.marking.sorts;
  marked = b.marking.long;
  counts = b.marking.small;
  unmarked = zero_off n n.initial 0 b.marking.long b.marking.none;
  few_transitions = b.moves.few;
  transitions = b.moves.all;
  few_arcs = b.moves.few_arcs;
  short = short;
  few_claims = b.codings.few;
  claims = λ i d h. let w = b.codings.all i d h in record { long = w.long; weights = w.weights };
  uncoded = λ i d h. let w = b.codings.all i d h in zero_off n (get_or n.claims i d).codes (pos 0) w.long w.none;
}

-- guards, bags and what is left of the file are no longer than a file
abbrev Room : SystemNet → List ℕ → Type 0
Room n r = sum_by bytes_of n.transitions + length r ≤ longest_file

room : (n : SystemNet) (x : Said) (bs r : List ℕ) → Room n bs → length (text x) + length r < length bs → Room (add n x) r
room n (sort k) bs r h l = omega arith
room n (operation a c t) bs r h l = omega arith
room n (bag_operation a b t) bs r h l = omega arith
room n (place s) bs r h l = omega arith
room n (tokens p e k) bs r h l = omega arith
room n (transition v) bs r h l = let e = bare_bytes n.sig.sizes n.transitions v in omega arith
room n (guard t) bs r h l = let e = guard_bytes n.transitions t in omega arith
room n (arc d p t) bs r h l = let e = arc_bytes n.transitions d (record { place = p; bag = t }) in omega arith
room n (claim k) bs r h l = omega arith
room n (place_weight p c) bs r h l = omega arith
room n (element_weight p e c) bs r h l = omega arith
room n end bs r h l = omega arith

-- a net that is built, and bytes of the file that are left
record Going (s : Section) (n : SystemNet) (r : List ℕ) : Type 0 where
  built : Built s n
  short : Room n r
  bytes : Bytes r

abbrev Steps : Step → Type 0
Steps (next s n r) = Going s n r
Steps (last n) = WellFormed n
Steps (stop e) = Unit {0}

module _ (s : Section) (n : SystemNet) (bs : List ℕ) (ends : ℕ) (g : Going s n bs) where
  b : Built s n
  b = g.built

  -- what a command that was read leads to
  carry : (t : Section) {c : Code} {x : Said} → Heard (setting n ends) c x → (r : List ℕ) → enters s c ≡ Some t → full n c ≡ false → Room (add n x) r → Bytes r → Steps (went t (add n x) x r)
  carry t (heard_sort k low high) r e f h q = record { built = add_sort s t n b k low high (leb-false most_sorts (length n.sig.sizes) f) (after_sorts s t e); short = h; bytes = q }
  carry t (heard_operation a z l o) r e f h q = record { built = add_operation s t n b a z l o (leb-false most_operations (length n.sig.operations) f) (after_operations s t e); short = h; bytes = q }
  carry t (heard_bag_operation x z l o) r e f h q = record { built = add_bag_operation s t n b x z l o (leb-false most_bag_operations (length n.sig.bags) f) (after_operations s t e); short = h; bytes = q }
  carry t (heard_place x known) r e f h q = record { built = add_place s t n b x known (leb-false most_places (length n.places) f) (after_places s t e); short = h; bytes = q }
  carry t (heard_tokens p i k on small) r e f h q = record { built = add_tokens s t n b p i k on small (after_places s t e); short = h; bytes = q }
  carry t (heard_transition v o) r e f h q = record { built = add_transition s t n b v o (leb-false most_transitions (length n.transitions) f) (after_transitions s t e); short = h; bytes = q }
  carry t (heard_guard l o) r e f h q = record { built = add_guard s t n b l o (after_guard s t e); short = h; bytes = q }
  carry t (heard_in p l o) r e f h q = record { built = add_arc s t n b direction.In p l o (leb-false most_arcs (arc_count n) f) (after_arc s t e); short = h; bytes = q }
  carry t (heard_out p l o) r e f h q = record { built = add_arc s t n b direction.Out p l o (leb-false most_arcs (arc_count n) f) (after_arc s t e); short = h; bytes = q }
  carry t (heard_claim k) r e f h q = record { built = add_claim s t n b k (leb-false most_claims (length n.claims) f) (after_claim s t e); short = h; bytes = q }
  carry t (heard_place_weight p c w) r e f h q = record { built = add_place_weight s t n b p c w (after_weight s t e); short = h; bytes = q }
  carry t (heard_element_weight p i c on w) r e f h q = record { built = add_element_weight s t n b p i c on w (after_weight s t e); short = h; bytes = q }
  carry t heard_end r e f h q = well_formed_of s n b (omega arith)

  carries : (t : Section) (c : Code) → enters s c ≡ Some t → full n c ≡ false → (v : Read) → Holds (Taken (setting n ends) bs c) v → Steps (carried t n v)
  carries t c e f (said x r) k = carry t k.heard r e f (room n x bs r g.short k.shorter) k.rest
  carries t c e f (fault x) k = tt

  -- what follows a code that may stand here
  abbrev Goes : Opening → Type 0
  Goes o = Steps (opened o n bs ends)

  enter : (c : Code) (o : Option Section) → enters s c ≡ o → Goes (entered o n c bs ends)
  enter c None e = tt
  enter c (Some t) e = cond_both (full n c) _ _ Goes (λ _. tt) (λ f. carries t c e f (parse_at (setting n ends) c bs) (taken (setting n ends) bs g.bytes c))

  knows : (o : Option Code) → Goes (known o s n bs ends)
  knows None = tt
  knows (Some c) = enter c (enters s c) refl

  steps : Steps (step s n bs ends)
  steps = cond_both (ltb 0 (length bs)) _ _ Goes (λ _. knows (code_of (get_or bs 0 0))) (λ _. tt)

abbrev Tells : Told → Type 0
Tells (Ok n) = WellFormed n
Tells (Err e) = Unit {0}

goes_on : (f : Section → SystemNet → List ℕ → Told) → ((s : Section) (n : SystemNet) (r : List ℕ) → Going s n r → Tells (f s n r)) → (x : Step) → Steps x → Tells (after f x)
goes_on f h (next s n r) g = h s n r g
goes_on f h (last n) g = g
goes_on f h (stop e) g = tt

all_commands : (k ends : ℕ) (s : Section) (n : SystemNet) (bs : List ℕ) → Going s n bs → Tells (commands k ends s n bs)
unfolding commands
all_commands zero ends s n bs g = tt
all_commands (suc k) ends s n bs g = goes_on (commands k ends) (all_commands k ends) (step s n bs ends) (steps s n bs ends g)

-- the net that the end alone tells
built_empty : Built section.Sorts empty
built_empty = record {
  sig = record {
    sorts = omega arith;
    truths = refl;
    inhabited = All-cons (λ k. 1 ≤ k) 2 [] (omega arith) (All-nil (λ k. 1 ≤ k));
    sizes = All-cons (λ k. k ≤ 64) 2 [] (omega arith) (All-nil (λ k. k ≤ 64));
    few_operations = omega arith;
    operations = All-nil (WellFormedOperation (2 ∷ []) []);
    few_bags = omega arith;
    bags = All-nil (WellFormedBagOperation (2 ∷ []) []);
    tables = All-nil (λ b. b < 256);
    whole = refl;
    owned = λ i l. let z : ⊥ = omega arith in absurd z;
  };
  marking = record {
    few = omega arith;
    sorts = All-nil (Declared (2 ∷ []));
    long = length-replicate {A = ℕ} 1024 0;
    small = All-replicate (λ k. k < 65536) 1024 0 (omega arith);
    none = λ c _. alike 0 1024 c;
  };
  moves = record { few = omega arith; all = All-nil (WellFormedTransition empty.sig []); few_arcs = omega arith };
  codings = record { few = omega arith; all = All-nil (Weighted (2 ∷ []) []) };
  stage = record { operations = λ _. refl; bags = λ _. refl; places = λ _. refl; transitions = λ _. refl; claims = λ _. refl };
}

pub well_formed_empty : WellFormed empty
well_formed_empty = well_formed_of section.Sorts empty built_empty (omega arith)

told_well_formed : (file : List ℕ) → Bytes file → Tells (told file)
told_well_formed file o =
    cond_both (leb (length file) longest_file) _ _ Tells
    (λ h. all_commands (length file + 1) (length file) section.Sorts empty file (record { built = built_empty; short = omega (arith, leb-true (length file) longest_file h); bytes = o })) (λ _. tt)

-- every net that a file of bytes tells is well-formed
pub well_formed : (file : List ℕ) → Bytes file → (n : SystemNet) → told file ≡ Ok n → WellFormed n
well_formed file o n e = subst Tells e (told_well_formed file o)

-- and so is what the reader leaves
pub reads_well_formed : (r : Result (Unit {0}) ReadError) (file : List ℕ) (n : SystemNet) → Bytes file → Reads r file n → WellFormed n
reads_well_formed (Ok u) file n o h = well_formed file o n h.0
reads_well_formed (Err e) file n o h = subst WellFormed (sym h.1) well_formed_empty
