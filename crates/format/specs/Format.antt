-- The operands of each command, byte by byte: the first byte that fails a check names the fault.
-- `bs` is what is left of the file from the command's code byte on, and `ends` the length of the file.
use Rattle.std.specs.Prelude.{ℕ, ◌+◌, ◌-◌, ◌*◌, Bool, cond, ◌&&◌, List, [], ◌∷◌, length, take, drop, ℤ, Some, None, Ok, Err, Option, Result, ◌==◌, nat_le, nat_lt, slice_index}
use Rattle.std.specs.Int.{w32}
use Rattle.std.specs.List.{position_from}
use Rattle.std.proofs.Common.{to_z}
use Rattle.std.specs.Borrow.{Bor}
use Rattle.domain.specs.Kinds.{kind_of, kind_weighs}
use Rattle.domain.specs.declared.kind.Kind.{Kind}
use Rattle.term.specs.Check.{Checked, done, bad, check_bag, check_term, spot}
use Rattle.term.specs.declared.fault.Fault.{Fault}
use Rattle.term.specs.declared.fault.Fault.TheVariants as fail
use Rattle.term.specs.declared.fault.FileFault.{FileFault}
use Rattle.term.specs.declared.fault.Stage.TheVariants as stage
use Rattle.term.specs.Meaning.{Sig, of, size_of}
use Rattle.term.specs.declared.signature.Arguments.{Arguments}
use Rattle.term.specs.declared.signature.Arguments.TheVariants as arguments
use Rattle.format.specs.Commands.{Said, Read, arguments_of, said, fault, sort, operation, bag_operation, place, tokens, transition, guard, arc, claim, place_weight, element_weight, end}
use Rattle.format.specs.declared.command.Code.{Code}
use Rattle.format.specs.declared.command.Code.TheVariants as code
use Rattle.format.specs.declared.command.Direction.{Direction}
use Rattle.format.specs.declared.command.Direction.TheVariants as direction
use Rattle.format.specs.declared.operands.Context.{Context}

-- a fault at a byte of a command
abbrev pub in_command : Fault → ℕ → FileFault
in_command f p = record { fault = f; place = p; stage = stage.Command }

-- the byte i of what is left, or the fault that the file ends
abbrev pub byte : List ℕ → ℕ → ℕ → (ℕ → Read) → Read
byte bs ends i k = cond (nat_lt i (length bs)) (k (slice_index bs i)) (fault (in_command fail.Ends ends))

-- a check at the byte that stands at p: the fault f unless ok
abbrev pub check : Bool → Fault → ℕ → Read → Read
check ok f p r = cond ok r (fault (in_command f p))

-- the size of a place's sort, 0 where there is no such place
abbrev pub place_size : List ℕ → List ℕ → ℕ → ℕ
place_size sizes places p = cond (nat_lt p (length places)) (size_of sizes (slice_index places p)) 0

-- what a sort byte must be: a declared sort where it is used, else 0
abbrev pub fitting : List ℕ → Bool → ℕ → Bool
fitting sizes used s = cond used (nat_lt s (length sizes)) (s == 0)

-- a sort: its size, 1 to 64
abbrev pub sort_at : List ℕ → ℕ → Read
sort_at bs ends =
    byte bs ends 1 (λ n. check (nat_le 1 n && nat_le n 64) fail.Range (spot bs ends 1)
    (said (sort n) (drop 2 bs)))

-- the index of the first byte that is not below n
abbrev pub first_bad : ℕ → List ℕ → Option ℕ
first_bad n bs = position_from (λ b. nat_le n b) 0 bs

-- a table and what follows it, or a fault
pub data Parts : Type 0 where
  both : List ℕ → List ℕ → Parts
  neither : FileFault → Parts

-- what was taken apart
abbrev pub parts_of : Result (Bor (List ℕ) × Bor (List ℕ)) FileFault → Parts
parts_of (Ok x) = both x.0.now x.1.now
parts_of (Err e) = neither e

-- the next n bytes, or the fault that the file ends
abbrev pub counts_at : List ℕ → ℕ → ℕ → Parts
counts_at bs ends n = cond (nat_le n (length bs)) (both (take n bs) (drop n bs)) (neither (in_command fail.Ends ends))

-- the fault at the first bad byte, if there is one, before all else
abbrev pub unless_bad : Option ℕ → List ℕ → ℕ → Parts → Parts
unless_bad None bs ends r = r
unless_bad (Some i) bs ends r = neither (in_command fail.Range (spot bs ends i))

-- the next n bytes, each of which is to be below size; those that are there are checked also where the file ends too early
abbrev pub table_at : List ℕ → ℕ → ℕ → ℕ → Parts
table_at bs ends n size = unless_bad (first_bad size (take n bs)) bs ends (counts_at bs ends n)

-- a command with its table
abbrev pub with_table : Parts → (List ℕ → Said) → Read
with_table (both t r) k = said (k t) r
with_table (neither e) k = fault e

-- how many combinations of arguments there are; of more than two, the first two count
abbrev pub combinations : List ℕ → Arguments → ℕ
combinations sizes arguments.None = 1
combinations sizes (arguments.One a) = size_of sizes a
combinations sizes (arguments.Two a b) = size_of sizes a * size_of sizes b
combinations sizes (arguments.More a b) = size_of sizes a * size_of sizes b

-- an operation: number of arguments, two argument sorts, result sort, a result for each combination of arguments
abbrev pub operation_at : List ℕ → List ℕ → ℕ → Read
operation_at sizes bs ends =
    byte bs ends 1 (λ n. check (nat_le n 2) fail.Range (spot bs ends 1)
    (byte bs ends 2 (λ a. check (fitting sizes (nat_lt 0 n) a) fail.Range (spot bs ends 2)
    (byte bs ends 3 (λ b. check (fitting sizes (nat_lt 1 n) b) fail.Range (spot bs ends 3)
    (byte bs ends 4 (λ r. check (nat_lt r (length sizes)) fail.Range (spot bs ends 4)
    (with_table (table_at (drop 5 bs) ends (combinations sizes (arguments_of n a b)) (size_of sizes r)) (operation (arguments_of n a b) r)))))))))

-- a bag operation: argument sort, result sort, for each argument one count for each element of the result sort
abbrev pub bag_operation_at : List ℕ → List ℕ → ℕ → Read
bag_operation_at sizes bs ends =
    byte bs ends 1 (λ a. check (nat_lt a (length sizes)) fail.Range (spot bs ends 1)
    (byte bs ends 2 (λ r. check (nat_lt r (length sizes)) fail.Range (spot bs ends 2)
    (with_table (counts_at (drop 3 bs) ends (size_of sizes a * size_of sizes r)) (bag_operation a r)))))

-- a place: its sort
abbrev pub place_at : List ℕ → List ℕ → ℕ → Read
place_at sizes bs ends =
    byte bs ends 1 (λ s. check (nat_lt s (length sizes)) fail.Range (spot bs ends 1)
    (said (place s) (drop 2 bs)))

-- initial tokens: place, element, two-byte count
abbrev pub tokens_at : List ℕ → List ℕ → List ℕ → ℕ → Read
tokens_at sizes places bs ends =
    byte bs ends 1 (λ p. check (nat_lt p (length places)) fail.Range (spot bs ends 1)
    (byte bs ends 2 (λ e. check (nat_lt e (place_size sizes places p)) fail.Range (spot bs ends 2)
    (byte bs ends 3 (λ hi. byte bs ends 4 (λ lo. said (tokens p e (hi * 256 + lo)) (drop 5 bs)))))))

-- how many elements the variable v of n has, 1 for an unused one
abbrev pub variable_size : List ℕ → ℕ → ℕ → ℕ → ℕ
variable_size sizes n v s = cond (nat_lt v n) (size_of sizes s) 1

-- how many elements each of four variables has
abbrev pub variable_sizes : List ℕ → ℕ → List ℕ → List ℕ
variable_sizes sizes n s =
    variable_size sizes n 0 (slice_index s 0) ∷ variable_size sizes n 1 (slice_index s 1) ∷ variable_size sizes n 2 (slice_index s 2) ∷ variable_size sizes n 3 (slice_index s 3) ∷ []

-- how many modes there are over variables with so many elements
abbrev pub mode_count : List ℕ → ℕ
mode_count v = (slice_index v 0 * slice_index v 1) * (slice_index v 2 * slice_index v 3)

-- the most modes that a transition may have
abbrev pub most_modes : ℕ
most_modes = 65536

-- a transition: number of variables, four sorts, of which the first are those of the variables; the modes are counted at the last sort byte
abbrev pub transition_at : List ℕ → List ℕ → ℕ → Read
transition_at sizes bs ends =
    byte bs ends 1 (λ n. check (nat_le n 4) fail.Range (spot bs ends 1)
    (byte bs ends 2 (λ a. check (fitting sizes (nat_lt 0 n) a) fail.Range (spot bs ends 2)
    (byte bs ends 3 (λ b. check (fitting sizes (nat_lt 1 n) b) fail.Range (spot bs ends 3)
    (byte bs ends 4 (λ c. check (fitting sizes (nat_lt 2 n) c) fail.Range (spot bs ends 4)
    (byte bs ends 5 (λ d. check (fitting sizes (nat_lt 3 n) d) fail.Range (spot bs ends 5)
    (check (nat_le (mode_count (variable_sizes sizes n (a ∷ b ∷ c ∷ d ∷ []))) most_modes) fail.Modes (spot bs ends 5)
    (said (transition (take n (drop 2 bs))) (drop 6 bs))))))))))))

-- the bytes of bs that stand before r, which is its end
abbrev pub front_of : List ℕ → List ℕ → List ℕ
front_of bs r = take (length bs - length r) bs

-- a command with its term or bag, which begins at bs; the fault of a term is passed on as it is
abbrev pub with_term : Checked → List ℕ → (List ℕ → Said) → Read
with_term (done r) bs k = said (k (front_of bs r)) r
with_term (bad e) bs k = fault e

-- the deepest that a term or a bag may be
abbrev pub depth : ℕ
depth = 16

-- a guard's term: of sort 0
unfoldable pub guard_term : Sig → List ℕ → ℕ → List ℕ → Checked
guard_term s vars ends bs = check_term s vars ends depth 0 bs

-- an arc's bag: over the sort of the place
unfoldable pub arc_bag : Sig → List ℕ → ℕ → ℕ → List ℕ → Checked
arc_bag s vars ends want bs = check_bag s vars ends depth want bs

-- a guard: a term
abbrev pub guard_at : Sig → List ℕ → List ℕ → ℕ → Read
guard_at s vars bs ends = byte bs ends 0 (λ c. with_term (guard_term s vars ends (drop 1 bs)) (drop 1 bs) guard)

-- an arc: place, a bag over its sort
abbrev pub arc_at : Sig → List ℕ → Direction → List ℕ → List ℕ → ℕ → Read
arc_at s places d vars bs ends =
    byte bs ends 1 (λ p. check (nat_lt p (length places)) fail.Range (spot bs ends 1)
    (with_term (arc_bag s vars ends (slice_index places p) (drop 2 bs)) (drop 2 bs) (arc d p)))

-- what a modulus must be: 2 and up for kind 4, else 0
abbrev pub modulus_fits : ℕ → ℕ → Bool
modulus_fits k m = cond (k == 4) (nat_le 2 m) (m == 0)

-- a claim: kind, 1 to 6, two-byte modulus
abbrev pub claim_at : List ℕ → ℕ → Read
claim_at bs ends =
    byte bs ends 1 (λ k. check (nat_le 1 k && nat_le k 6) fail.Range (spot bs ends 1)
    (byte bs ends 2 (λ hi. byte bs ends 3 (λ lo. check (modulus_fits k (hi * 256 + lo)) fail.Range (spot bs ends 3)
    (said (claim (kind_of k (hi * 256 + lo))) (drop 4 bs))))))

-- four bytes, the high one first, as a signed number (two's complement)
abbrev pub signed : ℕ → ℕ → ℕ → ℕ → ℤ
signed a b c d = to_z w32 (a * 16777216 + b * 65536 + c * 256 + d)

-- the weight of all of a place's elements: place, four-byte signed code
abbrev pub place_weight_at : List ℕ → Kind → List ℕ → ℕ → Read
place_weight_at places kind bs ends =
    byte bs ends 1 (λ p. check (nat_lt p (length places)) fail.Range (spot bs ends 1)
    (byte bs ends 2 (λ a. byte bs ends 3 (λ b. byte bs ends 4 (λ c. byte bs ends 5 (λ d.
    check (kind_weighs kind (signed a b c d)) fail.Range (spot bs ends 5)
    (said (place_weight p (signed a b c d)) (drop 6 bs))))))))

-- the weight of one element: place, element, four-byte signed code
abbrev pub element_weight_at : List ℕ → List ℕ → Kind → List ℕ → ℕ → Read
element_weight_at sizes places kind bs ends =
    byte bs ends 1 (λ p. check (nat_lt p (length places)) fail.Range (spot bs ends 1)
    (byte bs ends 2 (λ e. check (nat_lt e (place_size sizes places p)) fail.Range (spot bs ends 2)
    (byte bs ends 3 (λ a. byte bs ends 4 (λ b. byte bs ends 5 (λ c. byte bs ends 6 (λ d.
    check (kind_weighs kind (signed a b c d)) fail.Range (spot bs ends 6)
    (said (element_weight p e (signed a b c d)) (drop 7 bs))))))))))

-- the end: no operands, and nothing may follow
abbrev pub end_at : List ℕ → ℕ → Read
end_at bs ends =
    byte bs ends 0 (λ c.
    cond (nat_lt 1 (length bs)) (fault (record { fault = fail.Trailing; place = spot bs ends 1; stage = stage.File })) (said end (drop 1 bs)))

-- what the operands of a command are read by: the sorts and operations so far, the sorts of the places and of the newest
-- transition's variables, the kind of the newest claim, and the length of the file
pub record Setting : Type 0 where
  pub signature : Sig
  pub places : List ℕ
  pub variables : List ℕ
  pub kind : Kind
  pub ends : ℕ

-- what a context in memory says
abbrev pub setting_of : Context → Setting
setting_of x = record { signature = of x.checker.signature; places = x.places.now; variables = x.checker.variables.now; kind = x.kind; ends = x.checker.ends }

-- the operands of the command of a code; the code byte itself has been read, and a weight is one of the newest claim's kind
abbrev pub parse_at : Setting → Code → List ℕ → Read
parse_at x code.Sort bs = sort_at bs x.ends
parse_at x code.Operation bs = operation_at x.signature.sizes bs x.ends
parse_at x code.BagOperation bs = bag_operation_at x.signature.sizes bs x.ends
parse_at x code.Place bs = place_at x.signature.sizes bs x.ends
parse_at x code.Tokens bs = tokens_at x.signature.sizes x.places bs x.ends
parse_at x code.Transition bs = transition_at x.signature.sizes bs x.ends
parse_at x code.Guard bs = guard_at x.signature x.variables bs x.ends
parse_at x code.InArc bs = arc_at x.signature x.places direction.In x.variables bs x.ends
parse_at x code.OutArc bs = arc_at x.signature x.places direction.Out x.variables bs x.ends
parse_at x code.Claim bs = claim_at bs x.ends
parse_at x code.PlaceWeight bs = place_weight_at x.places x.kind bs x.ends
parse_at x code.ElementWeight bs = element_weight_at x.signature.sizes x.places x.kind bs x.ends
parse_at x code.End bs = end_at bs x.ends
