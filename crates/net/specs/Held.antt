-- What the lists hold that transitions share: each arc and each byte once. And which command may be told of transitions.
use Rattle.std.specs.Prelude.{◌≡◌, ℕ, ◌+◌, ◌-◌, ◌<◌, true, cond, nat_lt, List, length, None, sum_by, vec_items}
use Rattle.std.specs.Option.{option_map_or}
use Rattle.format.specs.Commands.{Said, arc, guard}
use Rattle.format.specs.declared.section.Section.{Section}
use Rattle.format.specs.declared.section.Section.TheVariants as section
use Rattle.net.specs.declared.parts.Arc as arcs
use Rattle.net.specs.declared.parts.Transition as parts
use Rattle.net.specs.declared.parts.extent.Extent.{Extent}
use Rattle.net.specs.declared.parts.transitions.Transitions.{Transitions}
use Rattle.net.specs.Extents.{end_of}
use Rattle.net.specs.Reading.{newest}
use Rattle.net.specs.System.{Transition, no_transition}

-- 1 for a number below n, else 0
abbrev pub below : ℕ → ℕ → ℕ
below n i = cond (nat_lt i n) 1 0

-- 1 for the places of a part, else 0
abbrev pub has : Extent → ℕ → ℕ
has e i = below (end_of e) i - below e.from i

-- how many of these have the place i in their part
abbrev pub parts_at : {X : Type 0} → (X → Extent) → List X → ℕ → ℕ
parts_at part xs i = sum_by (λ x. has (part x) i) xs

-- 1 for the bytes of a guard, else 0
abbrev pub guard_has : parts.Transition → ℕ → ℕ
guard_has t i = option_map_or (λ e. has e i) t.guard 0

-- each arc is one of just one transition, and each byte is one of the sorts or the guard of just one transition, or of the
-- bag of just one arc
pub record Once (ts : List parts.Transition) (takes puts : List arcs.Arc) (bytes : List ℕ) : Type 0 where
  pub taken : (i : ℕ) → parts_at (λ t. t.takes) ts i ≡ below (length takes) i
  pub put : (i : ℕ) → parts_at (λ t. t.puts) ts i ≡ below (length puts) i
  pub kept : (i : ℕ) → parts_at (λ t. t.sorts) ts i + sum_by (λ t. guard_has t i) ts + (parts_at (λ a. a.bag) takes i + parts_at (λ a. a.bag) puts i) ≡ below (length bytes) i

-- the lists hold nothing else
abbrev pub HoldsNoMore : Transitions → Type 0
HoldsNoMore s = Once (vec_items s.list) (vec_items s.takes) (vec_items s.puts) (vec_items s.bytes)

-- a guard is for a transition that has none, and an arc for one that is there
abbrev pub Fits : Said → List Transition → Type 0
Fits (guard t) ts = (0 < length ts) × ((newest ts no_transition).guard ≡ None)
Fits (arc d p b) ts = 0 < length ts
Fits x ts = Unit {0}

-- where an arc may follow there is a transition, and where a guard may, the newest has none
abbrev pub Ready : Section → List Transition → Type 0
Ready (section.Transitions fresh) ts = (0 < length ts) × (fresh ≡ true → (newest ts no_transition).guard ≡ None)
Ready s ts = Unit {0}
