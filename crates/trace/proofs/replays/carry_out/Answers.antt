use Rattle.std.proofs.Common.{◌≡◌, length, rules}
use Rattle.bench.specs.Calls.{lent}
use Rattle.trace.proofs.Carried.{fire_carried}
use Rattle.net.specs.Of.{system}
use Rattle.trace.proofs.replays.carry_out.Goals as goal

pub returns-in-Fire-clause-called : goal.returns-in-Fire-clause-called
returns-in-Fire-clause-called c =
    let four : length c.in-Fire.mode ≡ 4 = search rules in
    let h = fire_carried (system c.args.net.now) c.in-Fire.transition c.in-Fire.mode (lent c.args.counts.now c.args.trail.now) (lent c.fire_on.new.counts c.fire_on.new.trail) c.fire_on.result four c.from.result (search rules) c.fire_on.ensures.called in
    simp c.in-Fire.is h
