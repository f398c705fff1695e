use Rattle.bench.specs.Counted.{tokens}
use Rattle.bench.proofs.Walks.{fired-back, led-back}
use Rattle.net.specs.Of.{system}
use Rattle.bench.proofs.moves.back_on.Goals as goal

pub returns-in-Some-clause-called : goal.returns-in-Some-clause-called
returns-in-Some-clause-called c = λ led. (
  c.in-Some.firing,
  record {
    trail = c.in-Some.ensures.cases.0;
    memory = c.in-Some.ensures.cases.1;
    fires = fired-back (system c.args.net.now) _ _ c.in-Some.firing (tokens c.args.counts.now) (tokens c.undo.new.counts) c.in-Some.ensures.cases.0 c.undo.ensures.returns led;
  },
)

pub returns-in-Some-clause-leads : goal.returns-in-Some-clause-leads
returns-in-Some-clause-leads c = λ led.
    led-back (system c.args.net.now) _ _ c.in-Some.firing (tokens c.args.counts.now) (tokens c.undo.new.counts) c.in-Some.ensures.cases.0 c.undo.ensures.returns led
