use Rattle.std.proofs.Common.{◌≡◌, ◌+◌, ◌-◌, ◌^◌, List, min, sum_by, vec_items, ap, ◌∙◌, subst, refl, rules}
use Rattle.std.proofs.lemmas.Fn.{fold_over, slice_gives, fronts}
use Rattle.net.specs.declared.parts.Transition.{Transition}
use Rattle.net.proofs.Arcs.{arcs_more, held, held_told}
use Rattle.net.proofs.parts.transitions.Transitions.arc_count.Goals as goal

pub returns : goal.returns
returns c =
    let M = 2 ^ 64 - 1 in
    let s = c.args.self.now in
    let counted : c.fold.result ≡ min (sum_by held (vec_items s.list)) M =
    subst (λ (l : List Transition). c.fold.result ≡ min (sum_by held l) M) c.deref.ensures.value
    (subst (λ (l : List Transition). c.fold.result ≡ min (sum_by held l) M) c.iter.ensures.rest
    (fold_over fronts (λ y. y.now) _ (λ ys n. n ≡ min (sum_by held ys) M) _
    (λ ys a x b f' j k. let e : b ≡ min (a + min (held x.now) M) M = search rules in (arcs_more ys x.now a b j e, search rules))
    _ _ _ _ (slice_gives c.iter.result) refl c.fold.ensures.ran))
    in
    counted ∙ ap (λ n. min n M) (held_told (vec_items s.takes) (vec_items s.puts) (vec_items s.bytes) (vec_items s.list) s.in_place.each)
