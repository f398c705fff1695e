use Rattle.std.proofs.Common.{map, take, vec_items}
use Rattle.term.specs.Worth.{Weighs}
use Rattle.net.specs.Nets.{side}
use Rattle.net.specs.Of.{system}
use Rattle.net.proofs.Sides.{load}
use Rattle.net.proofs.net.Net.weigh.Given as goal
use Rattle.net.specs.System.{arc_told}

-- the arcs so far are weighed
abbrev pub invariant-loop-arc : goal.invariant-loop-arc
invariant-loop-arc g l =
    let so_far = map (arc_told (vec_items l.self.parts.transitions.bytes)) (take l.arc-index l.arc-items) in
    let d = g.D.WeightDomain.meaning l.weights.domain.now in
    Weighs d l.weights.codes.now d.nil (side (system l.self) l.fn.f.mode so_far) (load (system l.self) so_far) l.sum
