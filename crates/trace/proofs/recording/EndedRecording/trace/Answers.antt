use Rattle.std.proofs.Common.{arith, length-take}
use Rattle.trace.proofs.Prefixes.{says_written}
use Rattle.trace.proofs.recording.EndedRecording.trace.Goals as goal

pub returns-clause-says : goal.returns-clause-says
returns-clause-says c = λ ms h. says_written _ ms (simp length-take (omega arith)) h
