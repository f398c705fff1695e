use Rattle.judge.specs.Calls.{net_of}
use Rattle.judge.proofs.Turns.{Turned}
use Rattle.judge.proofs.judging.Judge.judge_modes.Given as goal

abbrev pub invariant-loop-i : goal.invariant-loop-i
invariant-loop-i g l = Turned (g.D.WeightDomain.meaning l.d) l.self.codes.now (net_of l.self) l.t l.i l.seen
