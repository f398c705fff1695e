-- Which command may follow in which section, and the section that it opens.
use Rattle.std.specs.Prelude.{Bool, true, false, cond, Some, None, Option}
use Rattle.format.specs.declared.command.Code.{Code}
use Rattle.format.specs.declared.command.Code.TheVariants as code
use Rattle.format.specs.declared.section.Section.{Section}
use Rattle.format.specs.declared.section.Section.TheVariants as section

-- the section after a command that was let in; none after a refusal
abbrev pub after : Bool → Section → Option Section
after true s = Some s
after false s = None

-- the section that stays where a command is refused
abbrev pub stays : Option Section → Section → Section
stays (Some s) old = s
stays None old = old

-- a sort: only before all other commands
abbrev pub to_sorts : Section → Option Section
to_sorts section.Sorts = Some section.Sorts
to_sorts section.Operations = None
to_sorts section.Places = None
to_sorts (section.Transitions f) = None
to_sorts section.Claims = None
to_sorts section.Ended = None

-- an operation or a bag operation: until the first place, transition or claim
abbrev pub to_operations : Section → Option Section
to_operations section.Sorts = Some section.Operations
to_operations section.Operations = Some section.Operations
to_operations section.Places = None
to_operations (section.Transitions f) = None
to_operations section.Claims = None
to_operations section.Ended = None

-- a place or initial tokens: until the first transition or claim
abbrev pub to_places : Section → Option Section
to_places section.Sorts = Some section.Places
to_places section.Operations = Some section.Places
to_places section.Places = Some section.Places
to_places (section.Transitions f) = None
to_places section.Claims = None
to_places section.Ended = None

-- a transition: until the first claim; it is fresh, so a guard may follow
abbrev pub to_transitions : Section → Option Section
to_transitions section.Sorts = Some (section.Transitions true)
to_transitions section.Operations = Some (section.Transitions true)
to_transitions section.Places = Some (section.Transitions true)
to_transitions (section.Transitions f) = Some (section.Transitions true)
to_transitions section.Claims = None
to_transitions section.Ended = None

-- a guard: directly after a transition
abbrev pub to_guard : Section → Option Section
to_guard section.Sorts = None
to_guard section.Operations = None
to_guard section.Places = None
to_guard (section.Transitions f) = cond f (Some (section.Transitions false)) None
to_guard section.Claims = None
to_guard section.Ended = None

-- an arc: after some transition, until the first claim
abbrev pub to_arc : Section → Option Section
to_arc section.Sorts = None
to_arc section.Operations = None
to_arc section.Places = None
to_arc (section.Transitions f) = Some (section.Transitions false)
to_arc section.Claims = None
to_arc section.Ended = None

-- a weight: after some claim
abbrev pub to_weight : Section → Option Section
to_weight section.Sorts = None
to_weight section.Operations = None
to_weight section.Places = None
to_weight (section.Transitions f) = None
to_weight section.Claims = Some section.Claims
to_weight section.Ended = None

-- a claim or the end: anywhere before the end
abbrev pub unless_ended : Section → Section → Option Section
unless_ended section.Sorts s = Some s
unless_ended section.Operations s = Some s
unless_ended section.Places s = Some s
unless_ended (section.Transitions f) s = Some s
unless_ended section.Claims s = Some s
unless_ended section.Ended s = None

-- the section that a command opens, if it may stand in this one
abbrev pub enters : Section → Code → Option Section
enters s code.Sort = to_sorts s
enters s code.Operation = to_operations s
enters s code.BagOperation = to_operations s
enters s code.Place = to_places s
enters s code.Tokens = to_places s
enters s code.Transition = to_transitions s
enters s code.Guard = to_guard s
enters s code.InArc = to_arc s
enters s code.OutArc = to_arc s
enters s code.Claim = unless_ended s section.Claims
enters s code.PlaceWeight = to_weight s
enters s code.ElementWeight = to_weight s
enters s code.End = unless_ended s section.Ended
