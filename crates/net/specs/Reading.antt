-- Which net a file tells, or which fault it has: the commands one after the other, each in the order of its bytes.
use Rattle.std.specs.Prelude.{Bool, Err, IfErr, List, None, Ok, Option, Result, Some, ℕ, ℤ, [], cond, false, length, nat_le, nat_lt, pos, replicate, slice_index, slice_index_or, slice_set, suc, zero, ◌++◌, ◌+◌, ◌-◌, ◌∷◌, ◌≡◌}
use Rattle.domain.specs.declared.kind.Kind.{Kind}
use Rattle.term.specs.declared.fault.Fault.TheVariants as fail
use Rattle.term.specs.declared.fault.FileFault.{FileFault}
use Rattle.term.specs.declared.fault.Stage.TheVariants as stage
use Rattle.format.specs.Codes.{code_of}
use Rattle.format.specs.Commands.{Read, Said, arc, bag_operation, claim, element_weight, end, fault, guard, operation, place, place_weight, said, sort, tokens, transition}
use Rattle.format.specs.Format.{Setting, in_command, parse_at, place_size, variable_sizes}
use Rattle.term.specs.Check.{spot}
use Rattle.format.specs.Order.{enters}
use Rattle.format.specs.declared.command.Code.{Code}
use Rattle.format.specs.declared.command.Code.TheVariants as code
use Rattle.format.specs.declared.command.Direction.{Direction}
use Rattle.format.specs.declared.command.Direction.TheVariants as direction
use Rattle.format.specs.declared.section.Section.{Section}
use Rattle.format.specs.declared.section.Section.TheVariants as section
use Rattle.net.specs.declared.parts.Claim.{Claim}
use Rattle.net.specs.declared.reader.ReadError.{ReadError}
use Rattle.net.specs.declared.reader.ReadError.TheVariants.{File, Memory}
use Rattle.net.specs.Nets.{no_claim}
use Rattle.net.specs.System.{Arc, SystemNet, Transition, arc_count, longest_file, most_arcs, most_bag_operations, most_claims, most_operations, most_places, most_sorts, most_transitions, no_transition}
use Rattle.term.specs.Worth.{cell_at}

-- the net that the end alone tells: sort 0 with its two elements
abbrev pub empty : SystemNet
empty = record { sig = record { sizes = 2 ∷ []; operations = []; bags = []; tables = [] }; places = []; initial = replicate 1024 0; transitions = []; claims = [] }

-- what stands last, or something in its place
abbrev pub newest : {X : Type 0} → List X → X → X
newest xs none = slice_index_or xs (length xs - 1) none

-- the last changed by f
abbrev pub renew : {X : Type 0} → List X → X → (X → X) → List X
renew xs none f = slice_set xs (length xs - 1) (f (newest xs none))

-- what the operands of the next command are read by, in a file of so many bytes: variables are those of the newest
-- transition, and weights are for the newest claim
abbrev pub setting : SystemNet → ℕ → Setting
setting n ends = record { signature = n.sig; places = n.places; variables = (newest n.transitions no_transition).sorts; kind = (newest n.claims no_claim).kind; ends = ends }

-- one more would pass a limit
abbrev pub full : SystemNet → Code → Bool
full n code.Sort = nat_le most_sorts (length n.sig.sizes)
full n code.Operation = nat_le most_operations (length n.sig.operations)
full n code.BagOperation = nat_le most_bag_operations (length n.sig.bags)
full n code.Place = nat_le most_places (length n.places)
full n code.Transition = nat_le most_transitions (length n.transitions)
full n code.InArc = nat_le most_arcs (arc_count n)
full n code.OutArc = nat_le most_arcs (arc_count n)
full n code.Claim = nat_le most_claims (length n.claims)
full n c = false

-- a transition without guard and arcs, where the sorts have these sizes
abbrev pub bare : List ℕ → List ℕ → Transition
bare sizes v = record { sorts = v; sizes = variable_sizes sizes (length v) v; guard = None; takes = []; puts = [] }

-- a transition with its guard
abbrev pub guarded : List ℕ → Transition → Transition
guarded g t = record t { guard = Some g }

-- a transition with an arc more
abbrev pub linked : Direction → Arc → Transition → Transition
linked direction.In a t = record t { takes = t.takes ++ a ∷ [] }
linked direction.Out a t = record t { puts = t.puts ++ a ∷ [] }

-- a claim without weights: all its codes are 0
abbrev pub unweighted : Kind → Claim
unweighted k = record { kind = k; codes = replicate 1024 (pos 0) }

-- the codes of the first k elements of a place made c
abbrev pub put_row : ℕ → ℕ → ℤ → List ℤ → List ℤ
put_row p zero c xs = xs
put_row p (suc k) c xs = slice_set (put_row p k c xs) (cell_at p k) c

-- a claim with other codes
abbrev pub coded : (List ℤ → List ℤ) → Claim → Claim
coded f k = record k { codes = f k.codes }

-- other codes in the newest claim
abbrev pub weighted : SystemNet → (List ℤ → List ℤ) → SystemNet
weighted n f = record n { claims = renew n.claims no_claim (coded f) }

-- the net with a table behind the others
abbrev pub table_added : List ℕ → SystemNet → SystemNet
table_added t n = record n { sig = record n.sig { tables = n.sig.tables ++ t } }

-- the net with a command carried out: the table of an operation or a bag operation stands behind the others, guards and
-- arcs are of the newest transition, weights are for the newest claim
abbrev pub add : SystemNet → Said → SystemNet
add n (sort k) = record n { sig = record n.sig { sizes = n.sig.sizes ++ k ∷ [] } }
add n (operation a r t) =
    record n { sig = record n.sig { operations = n.sig.operations ++ (record { arguments = a; result = r; table = length n.sig.tables }) ∷ []; tables = n.sig.tables ++ t } }
add n (bag_operation a r t) =
    record n { sig = record n.sig { bags = n.sig.bags ++ (record { argument = a; result = r; table = length n.sig.tables }) ∷ []; tables = n.sig.tables ++ t } }
add n (place s) = record n { places = n.places ++ s ∷ [] }
add n (tokens p e k) = record n { initial = slice_set n.initial (cell_at p e) k }
add n (transition s) = record n { transitions = n.transitions ++ bare n.sig.sizes s ∷ [] }
add n (guard t) = record n { transitions = renew n.transitions no_transition (guarded t) }
add n (arc d p b) = record n { transitions = renew n.transitions no_transition (linked d (record { place = p; bag = b })) }
add n (claim k) = record n { claims = n.claims ++ unweighted k ∷ [] }
add n (place_weight p c) = weighted n (put_row p (place_size n.sig.sizes n.places p) c)
add n (element_weight p e c) = weighted n (λ xs. slice_set xs (cell_at p e) c)
add n end = n

-- the code of the next command and the section that it opens, or the fault at its byte
abbrev pub Opening : Type 0
Opening = Result (Code × Section) FileFault

-- a command that may stand here, unless it would pass a limit
abbrev pub entered : Option Section → SystemNet → Code → List ℕ → ℕ → Opening
entered None n c bs ends = Err (in_command fail.Order (spot bs ends 0))
entered (Some s) n c bs ends = cond (full n c) (Err (in_command fail.Limit (spot bs ends 0))) (Ok (c, s))

-- by the command that a code stands for, if there is one
abbrev pub known : Option Code → Section → SystemNet → List ℕ → ℕ → Opening
known None s n bs ends = Err (in_command fail.NoCommand (spot bs ends 0))
known (Some c) s n bs ends = entered (enters s c) n c bs ends

-- what stands at the front of bs, in a section of a file that ends at ends
abbrev pub opening : Section → SystemNet → List ℕ → ℕ → Opening
opening s n bs ends = cond (nat_lt 0 (length bs)) (known (code_of (slice_index bs 0)) s n bs ends) (Err (in_command fail.Ends ends))

-- a command was carried out and the file goes on, or it was the end, or there is a fault
pub data Step : Type 0 where
  next : Section → SystemNet → List ℕ → Step
  last : SystemNet → Step
  stop : FileFault → Step

-- what follows a command, by whether it was the end
abbrev pub went : Section → SystemNet → Said → List ℕ → Step
went s n end r = last n
went s n x r = next s n r

-- a command that was read, carried out, or its fault
abbrev pub carried : Section → SystemNet → Read → Step
carried s n (said x r) = went s (add n x) x r
carried s n (fault e) = stop e

-- a command's operands, once its code may stand there
abbrev pub opened : Opening → SystemNet → List ℕ → ℕ → Step
opened (Ok x) n bs ends = carried x.1 n (parse_at (setting n ends) x.0 bs)
opened (Err e) n bs ends = stop e

-- the first command of bs, in a section of a file that ends at ends
abbrev pub step : Section → SystemNet → List ℕ → ℕ → Step
step s n bs ends = opened (opening s n bs ends) n bs ends

-- what a file tells: a net, or its one fault
abbrev pub Told : Type 0
Told = Result SystemNet FileFault

-- what the file tells after a step: by f where it goes on
abbrev pub after : (Section → SystemNet → List ℕ → Told) → Step → Told
after f (next s n r) = f s n r
after f (last n) = Ok n
after f (stop e) = Err e

-- at most k commands; each takes at least one byte, so there are never more than bytes
unfoldable pub commands : ℕ → ℕ → Section → SystemNet → List ℕ → Told
commands zero ends s n bs = Err (in_command fail.Ends ends)
commands (suc k) ends s n bs = after (commands k ends) (step s n bs ends)

-- the net that a file tells, or its fault; a file that is too long is refused before all else
abbrev pub told : List ℕ → Told
told file =
    cond (nat_le (length file) longest_file) (commands (length file + 1) (length file) section.Sorts empty file) (Err (record { fault = fail.TooLong; place = longest_file; stage = stage.File }))

-- what the reader answers at a code byte, with the section that is then open
abbrev pub opens : Result Code FileFault → Section → Opening
opens (Ok c) s = Ok (c, s)
opens (Err e) s = Err e

-- what the reader answers at a command: whether the file goes on, in a section, with a net and what is left; where
-- memory runs out nothing is said
abbrev pub Steps : Result Bool ReadError → Section → SystemNet → List ℕ → Step → Type 0
Steps (Ok more) s n r x = x ≡ cond more (next s n r) (last n)
Steps (Err (File e)) s n r x = x ≡ stop e
Steps (Err Memory) s n r x = Unit {0}

-- what the reader answers at a file, which tells a net or a fault; where memory runs out nothing is said
abbrev pub Fills : Result (Unit {0}) ReadError → List ℕ → SystemNet → Type 0
Fills (Ok u) file n = told file ≡ Ok n
Fills (Err (File e)) file n = told file ≡ Err e
Fills (Err Memory) file n = Unit {0}

-- a net read from a file, by the reader's answer: the net that the file tells, or the empty one, where the file
-- has a fault or memory runs out
abbrev pub Reads : Result (Unit {0}) ReadError → List ℕ → SystemNet → Type 0
Reads r file n = Fills r file n × IfErr r (λ _. n ≡ empty)
