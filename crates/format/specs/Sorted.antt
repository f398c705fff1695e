-- The sorts of the terms and bags of commands.
use Rattle.std.specs.Prelude.{ℕ, List, [], slice_index}
use Rattle.term.specs.Shape.{Passed, PassedBag}
use Rattle.term.specs.Meaning.{Sig}
use Rattle.format.specs.Commands.{Said, sort, operation, bag_operation, place, tokens, transition, guard, arc, claim, place_weight, element_weight, end}

-- a guard's bytes are one term of sort 0, an arc's are one bag over the sort of its place, and nothing follows in them
abbrev pub SaidSorted : Sig → List ℕ → List ℕ → Said → Type 0
SaidSorted s places vars (sort n) = Unit {0}
SaidSorted s places vars (operation a r t) = Unit {0}
SaidSorted s places vars (bag_operation a r t) = Unit {0}
SaidSorted s places vars (place p) = Unit {0}
SaidSorted s places vars (tokens p e n) = Unit {0}
SaidSorted s places vars (transition v) = Unit {0}
SaidSorted s places vars (guard t) = Passed s vars 16 0 t []
SaidSorted s places vars (arc d p t) = PassedBag s vars 16 (slice_index places p) t []
SaidSorted s places vars (claim k) = Unit {0}
SaidSorted s places vars (place_weight p c) = Unit {0}
SaidSorted s places vars (element_weight p e c) = Unit {0}
SaidSorted s places vars end = Unit {0}
