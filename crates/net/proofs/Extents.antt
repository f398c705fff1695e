-- A part of a list stays what it is while the list grows at its end, and so does what transitions tell.
use Rattle.std.proofs.Common.{◌≡◌, ℕ, suc, ◌+◌, ◌≤◌, List, [], ◌∷◌, ◌++◌, length, get_or, map, take, drop, take_all, Option, Some, None, option_map, refl, sym, ap, ◌∙◌, arith}
use Rattle.std.specs.List.{All}
use Rattle.std.specs.Option.{ForSome}
use Rattle.std.proofs.lemmas.List.{drop-append-le, take-append-le, length-drop, length_push, map_push}
use Rattle.std.proofs.lemmas.List.Elements.{All-drop, All-take}
use Rattle.format.specs.declared.command.Direction.TheVariants.{In, Out}
use Rattle.net.specs.declared.parts.Arc as arcs
use Rattle.net.specs.declared.parts.Transition as parts
use Rattle.net.specs.declared.parts.extent.Extent.{Extent}
use Rattle.net.specs.Extents.{BagsWithin, PartsWithin, end_of, part_of}
use Rattle.net.specs.Reading.{linked}
use Rattle.net.specs.System.{arc_told, transition_told}

module _ {X : Type 0} (e : Extent) (xs : List X) where
  pub part_more : (ys : List X) → end_of e ≤ length xs → part_of e (xs ++ ys) ≡ part_of e xs
  part_more ys h =
      let inside : e.from ≤ length xs = omega arith in
      let room : e.len ≤ length (drop e.from xs) = omega (arith, length-drop e.from xs) in
      ap (take e.len) (drop-append-le e.from xs ys inside) ∙ take-append-le e.len (drop e.from xs) ys room

  -- the part that a list ends with, by one more
  pub part_longer : (x : X) → end_of e ≡ length xs → part_of (record e { len = e.len + 1 }) (xs ++ x ∷ []) ≡ part_of e xs ++ x ∷ []
  part_longer x h =
      let inside : e.from ≤ length xs = omega arith in
      let rest = drop e.from xs in
      ap (take (e.len + 1)) (drop-append-le e.from xs (x ∷ []) inside)
      ∙ take_all (e.len + 1) (rest ++ x ∷ []) (omega (arith, length_push rest x, length-drop e.from xs))
      ∙ ap (λ l. l ++ x ∷ []) (sym (take_all e.len rest (omega (arith, length-drop e.from xs))))

pub map_same : {X Y : Type 0} (f g : X → Y) (xs : List X) → All (λ x. f x ≡ g x) xs → map f xs ≡ map g xs
map_same f g [] h = refl
map_same f g (x ∷ xs) h = λ i. h 0 x (omega arith) i ∷ map_same f g xs (λ k d l. h (suc k) d (omega arith)) i

pub bags_more : (bytes more : List ℕ) (xs : List arcs.Arc) → BagsWithin bytes xs → map (arc_told (bytes ++ more)) xs ≡ map (arc_told bytes) xs
bags_more bytes more xs h = map_same _ _ xs (λ k d l. let a = get_or xs k d in ap (λ (b : List ℕ). record { place = a.place; bag = b }) (part_more a.bag bytes more (h k d l)))

guard_more : (bytes more : List ℕ) (o : Option Extent) → ForSome o (λ e. end_of e ≤ length bytes) → option_map (λ e. part_of e (bytes ++ more)) o ≡ option_map (λ e. part_of e bytes) o
guard_more bytes more None h = refl
guard_more bytes more (Some e) h = ap Some (part_more e bytes more (h e refl))

-- what transitions tell, after bytes more
module _ (takes puts : List arcs.Arc) (bytes more : List ℕ) (b : BagsWithin bytes takes) (c : BagsWithin bytes puts) where
  told_bytes : (t : parts.Transition) → PartsWithin takes puts bytes t → transition_told takes puts (bytes ++ more) t ≡ transition_told takes puts bytes t
  told_bytes t w = λ i. record {
    sorts = part_more t.sorts bytes more w.variables i;
    sizes = t.sizes;
    guard = guard_more bytes more t.guard w.guarded i;
    takes = bags_more bytes more (part_of t.takes takes) (All-take (λ a. end_of a.bag ≤ length bytes) t.takes.len _ (All-drop (λ a. end_of a.bag ≤ length bytes) t.takes.from takes b)) i;
    puts = bags_more bytes more (part_of t.puts puts) (All-take (λ a. end_of a.bag ≤ length bytes) t.puts.len _ (All-drop (λ a. end_of a.bag ≤ length bytes) t.puts.from puts c)) i;
  }

  pub all_bytes : (ts : List parts.Transition) → All (PartsWithin takes puts bytes) ts → map (transition_told takes puts (bytes ++ more)) ts ≡ map (transition_told takes puts bytes) ts
  all_bytes ts h = map_same _ _ ts (λ k d l. told_bytes (get_or ts k d) (h k d l))

-- what a transition tells, after an arc more, of others and of its own
module _ (takes puts : List arcs.Arc) (bytes : List ℕ) (a : arcs.Arc) (t : parts.Transition) (w : PartsWithin takes puts bytes t) where
  pub told_take : transition_told (takes ++ a ∷ []) puts bytes t ≡ transition_told takes puts bytes t
  told_take = ap (λ l. record (transition_told takes puts bytes t) { takes = map (arc_told bytes) l }) (part_more t.takes takes (a ∷ []) w.taken)

  pub told_put : transition_told takes (puts ++ a ∷ []) bytes t ≡ transition_told takes puts bytes t
  told_put = ap (λ l. record (transition_told takes puts bytes t) { puts = map (arc_told bytes) l }) (part_more t.puts puts (a ∷ []) w.put)

  pub linked_take : end_of t.takes ≡ length takes → transition_told (takes ++ a ∷ []) puts bytes (record t { takes = record t.takes { len = t.takes.len + 1 } }) ≡ linked In (arc_told bytes a) (transition_told takes puts bytes t)
  linked_take e = ap (λ l. record (transition_told takes puts bytes t) { takes = l }) (ap (map (arc_told bytes)) (part_longer t.takes takes a e) ∙ map_push (arc_told bytes) (part_of t.takes takes) a)

  pub linked_put : end_of t.puts ≡ length puts → transition_told takes (puts ++ a ∷ []) bytes (record t { puts = record t.puts { len = t.puts.len + 1 } }) ≡ linked Out (arc_told bytes a) (transition_told takes puts bytes t)
  linked_put e = ap (λ l. record (transition_told takes puts bytes t) { puts = l }) (ap (map (arc_told bytes)) (part_longer t.puts puts a e) ∙ map_push (arc_told bytes) (part_of t.puts puts) a)
