-- The newest transition with an arc more, as it is told.
use Rattle.std.proofs.Common.{◌≡◌, ℕ, ◌+◌, ◌-◌, ◌<◌, List, [], ◌∷◌, ◌++◌, length, get_or, map, set, sym, subst, ap, ◌∙◌, arith}
use Rattle.format.specs.declared.command.Direction.TheVariants.{In, Out}
use Rattle.net.specs.declared.parts.Arc.{Arc}
use Rattle.net.specs.declared.parts.Transition.{Transition}
use Rattle.net.specs.declared.parts.extent.Extent.{Extent}
use Rattle.net.specs.Extents.{PartsInPlace, PartsWithin, end_of}
use Rattle.net.specs.Reading.{linked, renew}
use Rattle.net.specs.System.{arc_told, no_transition, transition_told}
use Rattle.net.proofs.Extents.{linked_put, linked_take, told_put, told_take}
use Rattle.net.proofs.Renewed.{told_anew}

module _ (ts : List Transition) (takes puts : List Arc) (bytes : List ℕ) (h : PartsInPlace ts takes puts bytes) (n : ℕ) (len : n ≡ length ts) (some : 0 < n) (t : Transition) (is : t ≡ get_or ts (n - 1) t) where
  fits : PartsWithin takes puts bytes t
  fits = subst (PartsWithin takes puts bytes) (sym is) (h.each (n - 1) t (omega arith))

  newest : t ≡ get_or ts (length ts - 1) t
  newest = is ∙ ap (λ k. get_or ts (k - 1) t) len

  pub last_takes : end_of t.takes ≡ length takes
  last_takes = ap (λ (x : Transition). end_of x.takes) newest ∙ h.last_taken t (omega arith)

  pub last_puts : end_of t.puts ≡ length puts
  last_puts = ap (λ (x : Transition). end_of x.puts) newest ∙ h.last_put t (omega arith)

  pub added_take : (a : Arc) (xs : List Arc) (e : Extent) → xs ≡ takes ++ a ∷ [] → e ≡ record t.takes { len = t.takes.len + 1 }
      → map (transition_told xs puts bytes) (set ts (n - 1) (record t { takes = e })) ≡ renew (map (transition_told takes puts bytes) ts) no_transition (linked In (arc_told bytes a))
  added_take a xs e p q =
      rw (p, q) (told_anew (transition_told takes puts bytes) (transition_told (takes ++ a ∷ []) puts bytes) ts n no_transition (linked In (arc_told bytes a)) t _ len some is
      (λ k d l. told_take takes puts bytes a (get_or ts k d) (h.each k d l)) (linked_take takes puts bytes a t fits last_takes))

  pub added_put : (a : Arc) (ys : List Arc) (e : Extent) → ys ≡ puts ++ a ∷ [] → e ≡ record t.puts { len = t.puts.len + 1 }
      → map (transition_told takes ys bytes) (set ts (n - 1) (record t { puts = e })) ≡ renew (map (transition_told takes puts bytes) ts) no_transition (linked Out (arc_told bytes a))
  added_put a ys e p q =
      rw (p, q) (told_anew (transition_told takes puts bytes) (transition_told takes (puts ++ a ∷ []) bytes) ts n no_transition (linked Out (arc_told bytes a)) t _ len some is
      (λ k d l. told_put takes puts bytes a (get_or ts k d) (h.each k d l)) (linked_put takes puts bytes a t fits last_puts))
