use Rattle.std.proofs.Common.{rules, string_bytes}
use Rattle.std.proofs.lemmas.Result.{on_ok_weaker}
use Rattle.net.specs.Of.{system}
use Rattle.trace.specs.Replaying.{lends}
use Rattle.report.proofs.Replayed.{all_replayed}
use Rattle.report.proofs.build.add_replay.Goals as goal

pub returns-in-Ok : goal.returns-in-Ok
returns-in-Ok c =
    on_ok_weaker _
    (all_replayed (system c.args.net.now) c.args.trace.now (lends c.args.counts.now c.args.trail.now) (lends c.replay.new.cells c.replay.new.trail) c.in-Ok.done
    (string_bytes c.args.text.now) (string_bytes c.add_replayed.new.text) c.requires.room (search rules) c.in-Ok.ensures.called.1)
    c.add_replayed.ensures
