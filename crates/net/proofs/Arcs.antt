-- Arcs are counted transition by transition, up to the largest number of 64 bits.
use Rattle.std.proofs.Common.{◌≡◌, ℕ, suc, ◌+◌, ◌-◌, ◌^◌, ◌≤◌, List, [], ◌∷◌, ◌++◌, length, min, map, sum_by, refl, ◌∙◌, arith}
use Rattle.std.specs.List.{All}
use Rattle.std.proofs.Math.ListN.{length-map}
use Rattle.std.proofs.lemmas.List.{length-drop, length-take-le}
use Rattle.std.proofs.lemmas.List.Sums.{sum_by-cons, sum_by_push}
use Rattle.net.specs.declared.parts.Arc.{Arc}
use Rattle.net.specs.declared.parts.Transition.{Transition}
use Rattle.net.specs.declared.parts.extent.Extent.{Extent}
use Rattle.net.specs.Extents.{PartsWithin, end_of, part_of}
use Rattle.net.specs.System.{arc_told, arcs_in, transition_told}

-- how many arcs the parts of a transition say
abbrev pub held : Transition → ℕ
held t = t.takes.len + t.puts.len

pub arcs_more : (ys : List Transition) (t : Transition) (a b : ℕ) → a ≡ min (sum_by held ys) (2 ^ 64 - 1) → b ≡ min (a + min (held t) (2 ^ 64 - 1)) (2 ^ 64 - 1)
    → b ≡ min (sum_by held (ys ++ t ∷ [])) (2 ^ 64 - 1)
arcs_more ys t a b j e = let more = sum_by_push held ys t in omega (arith, more, j, e)

length_part : {X : Type 0} (e : Extent) (xs : List X) → end_of e ≤ length xs → length (part_of e xs) ≡ e.len
length_part e xs h = length-take-le e.len _ (omega (arith, length-drop e.from xs))

-- they are the arcs that it tells
pub held_told : (takes puts : List Arc) (bytes : List ℕ) (ts : List Transition) → All (PartsWithin takes puts bytes) ts → sum_by held ts ≡ sum_by arcs_in (map (transition_told takes puts bytes) ts)
held_told takes puts bytes [] h = refl
held_told takes puts bytes (t ∷ ts) h =
    let w = h 0 t (omega arith) in
    let rest = held_told takes puts bytes ts (λ k d l. h (suc k) d (omega arith)) in
    let p : length (map (arc_told bytes) (part_of t.takes takes)) ≡ t.takes.len = length-map (part_of t.takes takes) (arc_told bytes) ∙ length_part t.takes takes w.taken in
    let q : length (map (arc_told bytes) (part_of t.puts puts)) ≡ t.puts.len = length-map (part_of t.puts puts) (arc_told bytes) ∙ length_part t.puts puts w.put in
    let one : held t ≡ arcs_in (transition_told takes puts bytes t) = omega (arith, p, q) in
    omega (arith, one, rest, sum_by-cons held t ts, sum_by-cons arcs_in (transition_told takes puts bytes t) (map (transition_told takes puts bytes) ts))
