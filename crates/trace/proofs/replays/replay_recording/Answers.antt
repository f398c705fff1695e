use Rattle.std.proofs.Common.{rules}
use Rattle.trace.proofs.Played.{recording_called}
use Rattle.net.specs.Of.{system}
use Rattle.trace.proofs.replays.replay_recording.Goals as goal

pub returns-clause-called : goal.returns-clause-called
returns-clause-called c =
    recording_called (system c.args.net.now) c.args.memory.now c.args.ended.now _ c.args.cells.now c.args.trail.now c.replay.new.cells c.replay.new.trail c.replay.result (search rules) (search rules) c.replay.ensures.called
