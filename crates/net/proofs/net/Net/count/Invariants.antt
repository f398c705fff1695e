use Rattle.std.proofs.Common.{map, take, vec_items}
use Rattle.net.specs.Nets.{Tallied, side}
use Rattle.net.specs.Of.{system}
use Rattle.net.proofs.net.Net.count.Given as goal
use Rattle.net.specs.System.{arc_told}

-- the arcs so far are counted
abbrev pub invariant-loop-arc : goal.invariant-loop-arc
invariant-loop-arc l = Tallied l.initial.counts l.counts (side (system l.self) l.fn.f.mode (map (arc_told (vec_items l.self.parts.transitions.bytes)) (take l.arc-index l.arc-items)))
