use Rattle.judge.specs.Calls.{net_of}
use Rattle.judge.proofs.Turns.{Over}
use Rattle.judge.proofs.judging.Judge.judge_all.Given as goal

abbrev pub invariant-loop-t : goal.invariant-loop-t
invariant-loop-t g l = Over (g.D.WeightDomain.meaning l.d) l.self.codes.now (net_of l.self) l.t l.seen
