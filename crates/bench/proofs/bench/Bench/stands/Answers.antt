use Rattle.std.proofs.Common.{Ok}
use Rattle.net.specs.Runs.{initial}
use Rattle.judge.proofs.Markings.{keeps}
use Rattle.bench.specs.Calls.{marking}
use Rattle.bench.specs.Standing.{lent_of}
use Rattle.bench.proofs.Walks.{reachable}
use Rattle.net.specs.Of.{system}
use Rattle.bench.proofs.bench.Bench.stands.Goals as goal

pub returns : goal.returns
returns g c = λ codes modes long judged.
    let b = c.args.self.now in
    let run = reachable (system b.net.now) (lent_of b).trail (marking (lent_of b)) b.reached in
    keeps (g.met.D.WeightDomain.lawful c.args.d.now) codes long (system b.net.now) (Ok modes) judged (initial (system b.net.now)) (marking (lent_of b)) run.0 run.1
