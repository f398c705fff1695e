use Rattle.std.proofs.Common.{ℕ, List, rules, subst}
use Rattle.trace.specs.Replaying.{Played, lends}
use Rattle.net.specs.Of.{system}
use Rattle.trace.proofs.replays.replay.Goals as goal

pub returns-clause-called : goal.returns-clause-called
returns-clause-called c = (
  search rules,
  subst (λ (cells : List ℕ). Played (system c.args.net.now) c.args.bytes.now (lends c.args.cells.now c.args.trail.now) (lends cells c.replay_on.new.trail) c.replay_on.result) (search rules) c.replay_on.ensures.played,
)
