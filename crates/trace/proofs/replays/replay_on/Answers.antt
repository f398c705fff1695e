use Rattle.trace.proofs.Played.{played}
use Rattle.trace.proofs.replays.replay_on.Goals as goal

pub returns-clause-played : goal.returns-clause-played
returns-clause-played c = played _ _ _ _ _ _ _ _ c.begin_on.ensures.begun c.carry_all-end.ensures.ran c.carry_all-end.ensures.leads c.err.ensures.value
