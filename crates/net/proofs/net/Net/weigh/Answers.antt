use Rattle.std.proofs.Common.{List, get_or, map, take, vec_items, refl, ap, ◌∙◌, subst, arith, take_all}
use Rattle.term.specs.Worth.{Weighs}
use Rattle.term.proofs.Sums.{weighs_after, weighs_alike, weighs_nothing}
use Rattle.net.specs.Nets.{bag_of, part, side}
use Rattle.net.specs.Of.{system}
use Rattle.net.proofs.Loaded.{light, weighed}
use Rattle.net.proofs.Sides.{load, here, load_more, no_arc, side_more}
use Rattle.net.proofs.net.Net.weigh.Goals as goal
use Rattle.net.specs.System.{Arc, arc_told}
use Rattle.term.specs.Meaning.{most_tokens}

pub loop-arc-init : goal.loop-arc-init
loop-arc-init g c =
    let d = g.D.WeightDomain.meaning c.args.weights.now.domain.now in
    let nothing : Weighs d c.args.weights.now.codes.now d.nil (λ k. 0) 0 d.nil = weighs_nothing (g.met.D.WeightDomain.lawful c.args.weights.now.domain.now) c.args.weights.now.codes.now d.nil (λ k. 0) 0 (λ k h. refl) in
    rw c.zero-sum.ensures nothing

pub loop-arc-preserved : goal.loop-arc-preserved
loop-arc-preserved g c =
    let law = g.met.D.WeightDomain.lawful c.args.weights.now.domain.now in
    let v = g.D.WeightDomain.meaning c.args.weights.now.domain.now in
    let codes = c.args.weights.now.codes.now in
    let n = system c.args.self.now in
    let m = c.args.f.mode in
    let items = c.arcs_of-arc-items.result.now in
    let i = c.loop-arc.arc-index in
    let bytes = vec_items c.args.self.now.parts.transitions.bytes in
    let told = arc_told bytes in
    let so_far = map told (take i items) in
    let a = get_or items i no_arc in
    let added = rw (c.evaluator-evaluator.ensures.signature, c.evaluator-evaluator.ensures.mode, c.bag-bag.ensures) at c.weigh_bag.ensures.sum in
    let more = load_more bytes items i a c.loop-arc-test.true (here items i c.loop-arc-test.true) n in
    weighs_alike law codes v.nil _ _ _ _ _ (λ k h. side_more bytes items i a c.loop-arc-test.true (here items i c.loop-arc-test.true) n m k) (omega arith)
    (weighs_after law codes v.nil c.loop-arc.sum _ (side n m so_far) (λ k. part n m k (told a)) (load n so_far) (most_tokens (bag_of n (told a))) c.loop-arc.invariant added)

pub returns : goal.returns
returns g c =
    let law = g.met.D.WeightDomain.lawful c.args.weights.now.domain.now in
    let v = g.D.WeightDomain.meaning c.args.weights.now.domain.now in
    let codes = c.args.weights.now.codes.now in
    let n = system c.args.self.now in
    let m = c.args.f.mode in
    let items = c.arcs_of-arc-items.result.now in
    let all = ap (map (arc_told (vec_items c.args.self.now.parts.transitions.bytes))) (take_all c.loop-arc.arc-index items (omega (arith, c.loop-arc-test.false))) ∙ c.arcs_of-arc-items.ensures in
    weighed law codes _ _ _ (light c.args.self.now c.args.f.transition c.args.direction) (subst (λ (xs : List Arc). Weighs v codes v.nil (side n m xs) (load n xs) c.loop-arc.sum) all c.loop-arc.invariant)
