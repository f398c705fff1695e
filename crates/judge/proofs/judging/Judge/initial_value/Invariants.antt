use Rattle.std.proofs.Common.{length}
use Rattle.net.specs.Runs.{initial}
use Rattle.judge.specs.Calls.{net_of}
use Rattle.judge.proofs.Limits.{Summed}
use Rattle.judge.proofs.judging.Judge.initial_value.Given as goal

-- the cells so far are added, and there is room for the others
abbrev pub invariant-loop-code : goal.invariant-loop-code
invariant-loop-code g l = Summed (g.met.D.WeightDomain.lawful l.d) l.self.codes.now (initial (net_of l.self)) (length l.yielded) l.sum
