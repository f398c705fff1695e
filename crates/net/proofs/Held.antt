-- The lists that transitions share, after a command; and which command may follow in a section.
use Rattle.std.proofs.Common.{◌≡◌, ℕ, ◌+◌, ◌-◌, ◌<◌, true, false, ltb, min, List, [], ◌∷◌, ◌++◌, length, get_or, map, set, vec_items, Some, None, Ok, Option, option_map, sum_by, refl, sym, ap, ◌∙◌, subst, true≢false, arith, ltb-false, ltb-true}
use Rattle.std.specs.Option.{option_map_or}
use Rattle.std.proofs.lemmas.Bool.{cond_both}
use Rattle.std.proofs.Math.ListN.{length-map}
use Rattle.std.proofs.lemmas.List.{get_or-map, get_or_default, get_or_push, length-set, length_push}
use Rattle.std.proofs.lemmas.List.Sums.{sum_by-set, sum_by_push}
use Rattle.format.specs.Codes.{code_of}
use Rattle.format.specs.Commands.{Said, arc, guard}
use Rattle.format.specs.Format.{Setting}
use Rattle.format.specs.Order.{enters, to_arc, to_guard, to_transitions, unless_ended}
use Rattle.format.specs.declared.command.Code.{Code}
use Rattle.format.specs.declared.command.Direction.{Direction}
use Rattle.format.specs.declared.command.Direction.TheVariants.{In, Out}
use Rattle.format.specs.declared.section.Section.{Section}
use Rattle.format.specs.declared.section.Section.TheVariants as section
use Rattle.net.specs.declared.parts.Arc as arcs
use Rattle.net.specs.declared.parts.Transition as parts
use Rattle.net.specs.declared.parts.extent.Extent.{Extent}
use Rattle.net.specs.declared.parts.transitions.Transitions.{Transitions}
use Rattle.net.specs.Extents.{NothingLeft, end_of, part_of}
use Rattle.net.specs.Held.{Fits, HoldsNoMore, Once, Ready, below, guard_has, has}
use Rattle.net.specs.Reading.{Opening, add, entered, full, guarded, known, linked, newest, opening, renew}
use Rattle.net.specs.System.{SystemNet, Transition, no_transition, transition_told, transitions_told}
use Rattle.net.proofs.Operands.{Heard, heard_bag_operation, heard_claim, heard_element_weight, heard_end, heard_guard, heard_in, heard_operation, heard_out, heard_place, heard_place_weight, heard_sort, heard_tokens, heard_transition}
use Rattle.net.proofs.Stages.{after_claim, after_operations, after_places, after_sorts, after_weight, rank, refused}

-- a section of another rank than that of transitions asks for nothing
asks_nothing : (s : Section) (ts : List Transition) → (rank s ≡ 3 → ⊥) → Ready s ts
asks_nothing section.Sorts ts h = tt
asks_nothing section.Operations ts h = tt
asks_nothing section.Places ts h = tt
asks_nothing (section.Transitions f) ts h = absurd (h refl)
asks_nothing section.Claims ts h = tt
asks_nothing section.Ended ts h = tt

opens_last : (s u t : Section) → unless_ended s u ≡ Some t → u ≡ t
opens_last section.Sorts u t e = cc
opens_last section.Operations u t e = cc
opens_last section.Places u t e = cc
opens_last (section.Transitions f) u t e = cc
opens_last section.Claims u t e = cc
opens_last section.Ended u t e = refused t e

module _ (ts : List Transition) where
  -- a guard is let in where the newest transition has none, an arc where there is a transition
  guard_fits : (s t : Section) (g : List ℕ) → to_guard s ≡ Some t → Ready s ts → Fits (guard g) ts
  guard_fits section.Sorts t g e r = refused t e
  guard_fits section.Operations t g e r = refused t e
  guard_fits section.Places t g e r = refused t e
  guard_fits (section.Transitions true) t g e r = (r.0, r.1 refl)
  guard_fits (section.Transitions false) t g e r = refused t e
  guard_fits section.Claims t g e r = refused t e
  guard_fits section.Ended t g e r = refused t e

  arc_fits : (s t : Section) (d : Direction) (p : ℕ) (b : List ℕ) → to_arc s ≡ Some t → Ready s ts → Fits (arc d p b) ts
  arc_fits section.Sorts t d p b e r = refused t e
  arc_fits section.Operations t d p b e r = refused t e
  arc_fits section.Places t d p b e r = refused t e
  arc_fits (section.Transitions f) t d p b e r = r.0
  arc_fits section.Claims t d p b e r = refused t e
  arc_fits section.Ended t d p b e r = refused t e

  pub fits : (x : Setting) (s t : Section) {c : Code} {y : Said} → Heard x c y → enters s c ≡ Some t → Ready s ts → Fits y ts
  fits x s t (heard_sort k low high) e r = tt
  fits x s t (heard_operation a z l o) e r = tt
  fits x s t (heard_bag_operation a z l o) e r = tt
  fits x s t (heard_place p known) e r = tt
  fits x s t (heard_tokens p i k on small) e r = tt
  fits x s t (heard_transition v o) e r = tt
  fits x s t (heard_guard l o) e r = guard_fits s t l e r
  fits x s t (heard_in p l o) e r = arc_fits s t In p l e r
  fits x s t (heard_out p l o) e r = arc_fits s t Out p l e r
  fits x s t (heard_claim k) e r = tt
  fits x s t (heard_place_weight p c w) e r = tt
  fits x s t (heard_element_weight p i c on w) e r = tt
  fits x s t heard_end e r = tt

  -- after a transition, a guard, an arc
  ready_transition : (s t : Section) (y : Transition) → y.guard ≡ None → to_transitions s ≡ Some t → Ready t (ts ++ y ∷ [])
  ready_transition s t y none e = subst (λ (u : Section). Ready u (ts ++ y ∷ [])) (fresh s e) (
    omega (arith, length_push ts y),
    λ _. ap (λ (z : Transition). z.guard) (get_or_push ts y no_transition (length (ts ++ y ∷ []) - 1) (omega (arith, length_push ts y))) ∙ none,
  )
    where
      fresh : (s : Section) → to_transitions s ≡ Some t → section.Transitions true ≡ t
      fresh section.Sorts e = cc
      fresh section.Operations e = cc
      fresh section.Places e = cc
      fresh (section.Transitions f) e = cc
      fresh section.Claims e = refused t e
      fresh section.Ended e = refused t e

  ready_changed : (t : Section) (g : Transition → Transition) → section.Transitions false ≡ t → 0 < length ts → Ready t (renew ts no_transition g)
  ready_changed t g e some = subst (λ (u : Section). Ready u (renew ts no_transition g)) e (
    omega (arith, length-set ts (length ts - 1) (g (newest ts no_transition))),
    λ f. absurd (true≢false (sym f)),
  )

  guard_opens : (s t : Section) → to_guard s ≡ Some t → section.Transitions false ≡ t
  guard_opens section.Sorts t e = refused t e
  guard_opens section.Operations t e = refused t e
  guard_opens section.Places t e = refused t e
  guard_opens (section.Transitions true) t e = cc
  guard_opens (section.Transitions false) t e = refused t e
  guard_opens section.Claims t e = refused t e
  guard_opens section.Ended t e = refused t e

  arc_opens : (s t : Section) → to_arc s ≡ Some t → section.Transitions false ≡ t
  arc_opens section.Sorts t e = refused t e
  arc_opens section.Operations t e = refused t e
  arc_opens section.Places t e = refused t e
  arc_opens (section.Transitions f) t e = cc
  arc_opens section.Claims t e = refused t e
  arc_opens section.Ended t e = refused t e

-- what a section asks for holds after each command that is let in
pub ready : (x : Setting) (s t : Section) (n : SystemNet) {c : Code} {y : Said} → Heard x c y → enters s c ≡ Some t → Ready s n.transitions → Ready t (add n y).transitions
ready x s t n (heard_sort k low high) e r = let o = after_sorts s t e in asks_nothing t n.transitions (λ k. omega arith)
ready x s t n (heard_operation a z l o) e r = let o = after_operations s t e in asks_nothing t n.transitions (λ k. omega arith)
ready x s t n (heard_bag_operation a z l o) e r = let o = after_operations s t e in asks_nothing t n.transitions (λ k. omega arith)
ready x s t n (heard_place p known) e r = let o = after_places s t e in asks_nothing t n.transitions (λ k. omega arith)
ready x s t n (heard_tokens p i k on small) e r = let o = after_places s t e in asks_nothing t n.transitions (λ k. omega arith)
ready x s t n (heard_transition v o) e r = ready_transition n.transitions s t _ refl e
ready x s t n (heard_guard l o) e r = ready_changed n.transitions t (guarded l) (guard_opens n.transitions s t e) (guard_fits n.transitions s t l e r).0
ready x s t n (heard_in p l o) e r = ready_changed n.transitions t (linked In (record { place = p; bag = l })) (arc_opens n.transitions s t e) (arc_fits n.transitions s t In p l e r)
ready x s t n (heard_out p l o) e r = ready_changed n.transitions t (linked Out (record { place = p; bag = l })) (arc_opens n.transitions s t e) (arc_fits n.transitions s t Out p l e r)
ready x s t n (heard_claim k) e r = let o = after_claim s t e in asks_nothing t n.transitions (λ k. omega arith)
ready x s t n (heard_place_weight p c w) e r = let o = after_weight s t e in asks_nothing t n.transitions (λ k. omega arith)
ready x s t n (heard_element_weight p i c on w) e r = let o = after_weight s t e in asks_nothing t n.transitions (λ k. omega arith)
ready x s t n heard_end e r = subst (λ (u : Section). Ready u n.transitions) (opens_last s section.Ended t e) tt

-- the code that opens a section may stand there
module _ (s t : Section) (n : SystemNet) (c : Code) (bs : List ℕ) (ends : ℕ) where
  abbrev Enters : Opening → Type 0
  Enters o = o ≡ Ok (c, t) → enters s c ≡ Some t

  enter : (k : Code) (o : Option Section) → enters s k ≡ o → Enters (entered o n k bs ends)
  enter k None e = λ h. let z : ⊥ = cc in absurd z
  enter k (Some u) e = cond_both (full n k) _ _ Enters (λ _ h. let z : ⊥ = cc in absurd z) (λ _ h.
      let p : ◌≡◌ {A = Code × Section} (k, u) (c, t) = cc in
      let a : k ≡ c = ap (λ x. x.0) p in
      let b : u ≡ t = ap (λ x. x.1) p in
      cc)

  knows : (o : Option Code) → Enters (known o s n bs ends)
  knows None = λ h. let z : ⊥ = cc in absurd z
  knows (Some k) = enter k (enters s k) refl

  pub opened_by : Enters (opening s n bs ends)
  opened_by = cond_both (ltb 0 (length bs)) _ _ Enters (λ _. knows (code_of (get_or bs 0 0))) (λ _ h. let z : ⊥ = cc in absurd z)

-- where an option of something else is none, so is the option
none_map : {X Y : Type 0} (f : X → Y) (o : Option X) → option_map f o ≡ None → o ≡ None
none_map f None e = refl
none_map f (Some x) e = let z : ⊥ = cc in absurd z

number : (n i : ℕ) → below n i ≡ min 1 (n - i)
number n i = cond_both (ltb i n) 1 0 (λ k. k ≡ min 1 (n - i)) (λ h. let l = ltb-true i n h in omega arith) (λ h. let l = ltb-false i n h in omega arith)

map_none : {X Y : Type 0} (f : X → Y) (xs : List X) → map f xs ≡ [] → xs ≡ []
map_none f [] e = refl
map_none f (x ∷ xs) e = let z : ⊥ = cc in absurd z

-- where nothing is told and nothing is left
pub none_no_more : (s : Transitions) → transitions_told s ≡ [] → NothingLeft (vec_items s.takes) (vec_items s.puts) (vec_items s.bytes) → HoldsNoMore s
none_no_more s told (takes, puts, bytes) =
    let empty : Once [] [] [] [] = record { taken = λ i. omega (arith, number 0 i); put = λ i. omega (arith, number 0 i); kept = λ i. omega (arith, number 0 i) } in
    rw (map_none _ (vec_items s.list) told, takes, puts, bytes) empty

-- a part that stands behind n others has the places up to its end
behind : (e : Extent) (n m i : ℕ) → e.from ≡ n → end_of e ≡ m → below n i + has e i ≡ below m i
behind e n m i p q = omega (arith, number n i, number m i, number e.from i, number (end_of e) i)

-- a part with one more at its end
longer : (e : Extent) (i : ℕ) → has (record e { len = e.len + 1 }) i + below (end_of e) i ≡ has e i + below (end_of e + 1) i
longer e i = omega (arith, number e.from i, number (end_of e) i, number (end_of e + 1) i, number (end_of (record e { len = e.len + 1 })) i)

-- the newest transition, with a guard where it has none, and with an arc more
module _ (ts : List parts.Transition) (takes puts : List arcs.Arc) (bytes more : List ℕ) (h : Once ts takes puts bytes) (n : ℕ) (len : n ≡ length ts) (some : 0 < n) (t : parts.Transition) (is : t ≡ get_or ts (n - 1) t) where
  changed : (f : parts.Transition → ℕ) (y : parts.Transition) → sum_by f (set ts (n - 1) y) + f t ≡ sum_by f ts + f y
  changed f y = let s = sum_by-set f ts (n - 1) y t (omega arith) in let e = ap f is in omega (arith, s, e)

  pub once_guard : (e : Extent) → e.from ≡ length bytes → end_of e ≡ length more → t.guard ≡ None → Once (set ts (n - 1) (record t { guard = Some e })) takes puts more
  once_guard e from to none =
      let y = record t { guard = Some e } in
      record {
        taken = λ i. omega (arith, h.taken i, changed (λ x. has x.takes i) y);
        put = λ i. omega (arith, h.put i, changed (λ x. has x.puts i) y);
        kept = λ i.
            let g : guard_has t i ≡ 0 = ap (λ o. option_map_or (λ e. has e i) o 0) none in
            omega (arith, h.kept i, behind e (length bytes) (length more) i from to, g, changed (λ x. has x.sorts i) y, changed (λ x. guard_has x i) y);
      }

  pub once_take : (a : arcs.Arc) → a.bag.from ≡ length bytes → end_of a.bag ≡ length more → end_of t.takes ≡ length takes
      → Once (set ts (n - 1) (record t { takes = record t.takes { len = t.takes.len + 1 } })) (takes ++ a ∷ []) puts more
  once_take a from to last =
      let e = record t.takes { len = t.takes.len + 1 } in
      let y = record t { takes = e } in
      record {
        taken = λ i.
            omega (arith, h.taken i, changed (λ x. has x.takes i) y, longer t.takes i, length_push takes a, number (length takes) i, number (length (takes ++ a ∷ [])) i, number (end_of t.takes) i, number (end_of t.takes + 1) i);
        put = λ i. omega (arith, h.put i, changed (λ x. has x.puts i) y);
        kept = λ i.
            omega (arith, h.kept i, behind a.bag (length bytes) (length more) i from to, changed (λ x. has x.sorts i) y, changed (λ x. guard_has x i) y, sum_by_push (λ x. has x.bag i) takes a);
      }

  pub once_put : (a : arcs.Arc) → a.bag.from ≡ length bytes → end_of a.bag ≡ length more → end_of t.puts ≡ length puts
      → Once (set ts (n - 1) (record t { puts = record t.puts { len = t.puts.len + 1 } })) takes (puts ++ a ∷ []) more
  once_put a from to last =
      let e = record t.puts { len = t.puts.len + 1 } in
      let y = record t { puts = e } in
      record {
        taken = λ i. omega (arith, h.taken i, changed (λ x. has x.takes i) y);
        put = λ i.
            omega (arith, h.put i, changed (λ x. has x.puts i) y, longer t.puts i, length_push puts a, number (length puts) i, number (length (puts ++ a ∷ [])) i, number (end_of t.puts) i, number (end_of t.puts + 1) i);
        kept = λ i.
            omega (arith, h.kept i, behind a.bag (length bytes) (length more) i from to, changed (λ x. has x.sorts i) y, changed (λ x. guard_has x i) y, sum_by_push (λ x. has x.bag i) puts a);
      }

-- where the newest transition tells no guard, it has none
pub unguarded : (s : Transitions) (n : ℕ) (t : parts.Transition) → n ≡ length (vec_items s.list) → 0 < n → t ≡ get_or (vec_items s.list) (n - 1) t → (newest (transitions_told s) no_transition).guard ≡ None → t.guard ≡ None
unguarded s n t len some is h =
    let xs = vec_items s.list in
    let told = transition_told (vec_items s.takes) (vec_items s.puts) (vec_items s.bytes) in
    let all = length-map xs told in
    let last : told t ≡ get_or (map told xs) (n - 1) no_transition =
    ap told is ∙ sym (get_or-map told xs (n - 1) t (told t) (omega arith)) ∙ get_or_default (map told xs) (n - 1) (told t) no_transition (omega (arith, all))
    in
    let at : n - 1 ≡ length (map told xs) - 1 = omega (arith, all) in
    none_map (λ e. part_of e (vec_items s.bytes)) t.guard (ap (λ (x : Transition). x.guard) (last ∙ ap (λ k. get_or (map told xs) k no_transition) at) ∙ h)
