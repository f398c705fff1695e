-- The order of sections: what later commands tell is not there yet.
use Rattle.std.proofs.Common.{◌≡◌, ℕ, ◌<◌, ◌≤◌, true, false, length, Some, None, Option, ap, arith}
use Rattle.std.proofs.lemmas.Option.{none-some}
use Rattle.format.specs.Order.{to_arc, to_guard, to_operations, to_places, to_sorts, to_transitions, to_weight, unless_ended}
use Rattle.format.specs.declared.section.Section.{Section}
use Rattle.format.specs.declared.section.Section.TheVariants as section
use Rattle.net.specs.System.{SystemNet}

-- sections in their order
abbrev pub rank : Section → ℕ
rank section.Sorts = 0
rank section.Operations = 1
rank section.Places = 2
rank (section.Transitions f) = 3
rank section.Claims = 4
rank section.Ended = 5

-- a command opens the section of rank k, from no later one
abbrev pub Opens : ℕ → Section → Section → Type 0
Opens k s s' = (rank s ≤ k) × (rank s' ≡ k)

pub refused : {P : Type 0} (s' : Section) → ◌≡◌ {A = Option Section} None (Some s') → P
refused s' e = absurd (none-some s' e)

same_rank : (s s' : Section) → ◌≡◌ {A = Option Section} (Some s) (Some s') → rank s' ≡ rank s
same_rank s s' e = let h : s' ≡ s = cc in ap rank h

pub after_sorts : (s s' : Section) → to_sorts s ≡ Some s' → Opens 0 s s'
after_sorts section.Sorts s' e = (omega arith, same_rank _ s' e)
after_sorts section.Operations s' e = refused s' e
after_sorts section.Places s' e = refused s' e
after_sorts (section.Transitions f) s' e = refused s' e
after_sorts section.Claims s' e = refused s' e
after_sorts section.Ended s' e = refused s' e

pub after_operations : (s s' : Section) → to_operations s ≡ Some s' → Opens 1 s s'
after_operations section.Sorts s' e = (omega arith, same_rank _ s' e)
after_operations section.Operations s' e = (omega arith, same_rank _ s' e)
after_operations section.Places s' e = refused s' e
after_operations (section.Transitions f) s' e = refused s' e
after_operations section.Claims s' e = refused s' e
after_operations section.Ended s' e = refused s' e

pub after_places : (s s' : Section) → to_places s ≡ Some s' → Opens 2 s s'
after_places section.Sorts s' e = (omega arith, same_rank _ s' e)
after_places section.Operations s' e = (omega arith, same_rank _ s' e)
after_places section.Places s' e = (omega arith, same_rank _ s' e)
after_places (section.Transitions f) s' e = refused s' e
after_places section.Claims s' e = refused s' e
after_places section.Ended s' e = refused s' e

pub after_transitions : (s s' : Section) → to_transitions s ≡ Some s' → Opens 3 s s'
after_transitions section.Sorts s' e = (omega arith, same_rank _ s' e)
after_transitions section.Operations s' e = (omega arith, same_rank _ s' e)
after_transitions section.Places s' e = (omega arith, same_rank _ s' e)
after_transitions (section.Transitions f) s' e = (omega arith, same_rank _ s' e)
after_transitions section.Claims s' e = refused s' e
after_transitions section.Ended s' e = refused s' e

pub after_guard : (s s' : Section) → to_guard s ≡ Some s' → Opens 3 s s'
after_guard section.Sorts s' e = refused s' e
after_guard section.Operations s' e = refused s' e
after_guard section.Places s' e = refused s' e
after_guard (section.Transitions true) s' e = (omega arith, same_rank _ s' e)
after_guard (section.Transitions false) s' e = refused s' e
after_guard section.Claims s' e = refused s' e
after_guard section.Ended s' e = refused s' e

pub after_arc : (s s' : Section) → to_arc s ≡ Some s' → Opens 3 s s'
after_arc section.Sorts s' e = refused s' e
after_arc section.Operations s' e = refused s' e
after_arc section.Places s' e = refused s' e
after_arc (section.Transitions f) s' e = (omega arith, same_rank _ s' e)
after_arc section.Claims s' e = refused s' e
after_arc section.Ended s' e = refused s' e

pub after_weight : (s s' : Section) → to_weight s ≡ Some s' → Opens 4 s s'
after_weight section.Sorts s' e = refused s' e
after_weight section.Operations s' e = refused s' e
after_weight section.Places s' e = refused s' e
after_weight (section.Transitions f) s' e = refused s' e
after_weight section.Claims s' e = (omega arith, same_rank _ s' e)
after_weight section.Ended s' e = refused s' e

pub after_claim : (s s' : Section) → unless_ended s section.Claims ≡ Some s' → Opens 4 s s'
after_claim section.Sorts s' e = (omega arith, same_rank _ s' e)
after_claim section.Operations s' e = (omega arith, same_rank _ s' e)
after_claim section.Places s' e = (omega arith, same_rank _ s' e)
after_claim (section.Transitions f) s' e = (omega arith, same_rank _ s' e)
after_claim section.Claims s' e = (omega arith, same_rank _ s' e)
after_claim section.Ended s' e = refused s' e

-- in a section of rank r, what is told in later ones is not there yet
pub record Stage (r : ℕ) (n : SystemNet) : Type 0 where
  pub operations : r < 1 → length n.sig.operations ≡ 0
  pub bags : r < 1 → length n.sig.bags ≡ 0
  pub places : r < 2 → length n.places ≡ 0
  pub transitions : r < 3 → length n.transitions ≡ 0
  pub claims : r < 4 → length n.claims ≡ 0
