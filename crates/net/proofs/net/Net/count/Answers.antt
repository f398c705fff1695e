use Rattle.std.proofs.Common.{List, get_or, map, take, vec_items, ap, ◌∙◌, subst, arith, take_all}
use Rattle.term.specs.Meaning.{count}
use Rattle.net.specs.Nets.{Tallied, bag_of, side}
use Rattle.net.specs.Of.{system}
use Rattle.net.proofs.Every.{counted, few_tokens}
use Rattle.net.proofs.Sides.{here, no_arc, side_more}
use Rattle.net.proofs.Tallied.{alike, more}
use Rattle.net.proofs.net.Net.count.Goals as goal
use Rattle.net.specs.System.{Arc, arc_told}

pub loop-arc-preserved : goal.loop-arc-preserved
loop-arc-preserved c =
    let n = system c.args.self.now in
    let m = c.args.f.mode in
    let items = c.arcs_of-arc-items.result.now in
    let i = c.loop-arc.arc-index in
    let bytes = vec_items c.args.self.now.parts.transitions.bytes in
    let told = arc_told bytes in
    let a = get_or items i no_arc in
    let added = rw (c.evaluator-evaluator.ensures.signature, c.evaluator-evaluator.ensures.mode, c.bag-bag.ensures) at c.count_bag.ensures.counts in
    alike _ _ _ _ (side_more bytes items i a c.loop-arc-test.true (here items i c.loop-arc-test.true) n m)
    (more _ _ _ (side n m (map told (take i items))) a.place (count n.sig m (bag_of n (told a))) c.loop-arc.auto.counts c.loop-arc.invariant added)

pub returns-clause-exact : goal.returns-clause-exact
returns-clause-exact c =
    let n = system c.args.self.now in
    let m = c.args.f.mode in
    let t = c.args.f.transition in
    let d = c.args.direction in
    let items = c.arcs_of-arc-items.result.now in
    let all = ap (map (arc_told (vec_items c.args.self.now.parts.transitions.bytes))) (take_all c.loop-arc.arc-index items (omega (arith, c.loop-arc-test.false))) ∙ c.arcs_of-arc-items.ensures in
    counted c.args.self.now m t d c.args.counts.now c.loop-arc.counts (subst (λ (xs : List Arc). Tallied c.args.counts.now c.loop-arc.counts (side n m xs)) all c.loop-arc.invariant)

pub returns-clause-few : goal.returns-clause-few
returns-clause-few c = λ k. few_tokens c.args.self.now c.args.f.mode c.args.f.transition k c.args.direction
