use Rattle.std.proofs.Common.{sym, refl, ap}
use Rattle.std.proofs.lemmas.Result.{err_from_is_err_and}
use Rattle.net.specs.Runs.{Fires}
use Rattle.bench.specs.Calls.{FireCalled, lent}
use Rattle.bench.specs.Counted.{tokens}
use Rattle.bench.proofs.Fired.{enabled, fires, never-full, refused, room, small-after, unheld}
use Rattle.bench.proofs.Walks.{more}
use Rattle.bench.proofs.moves.fire_on.Goals as goal
use Rattle.net.specs.Of.{system}
use Rattle.bench.proofs.moves.fire_on.Goals.{After-from_residual-in_err-checked, After-shift}

why : (c : After-from_residual-in_err-checked) → FireCalled (system c.args.net.now) c.args.firing (lent c.args.counts.now c.args.trail.now) (lent c.args.counts.now c.args.trail.now) c.from_residual-in_err-checked.result
why c =
    let e = err_from_is_err_and c.from_residual-in_err-checked.result c.from_residual-in_err-checked.ensures.1 in
    rw (e.1, e.2) (refused (system c.args.net.now) c.args.firing c.args.counts.now c.of-change.result c.of-change.ensures.takes c.of-change.ensures.puts c.args.trail.now c.in_ok-opened.ensures c.in_err-checked.field-0.0 c.in_err-checked.ensures, refl)

pub returns-in_err-checked-clause-called : goal.returns-in_err-checked-clause-called
returns-in_err-checked-clause-called c = why c

pub returns-in_err-checked-clause-never_full : goal.returns-in_err-checked-clause-never_full
returns-in_err-checked-clause-never_full c = λ led.
    let l = lent c.args.counts.now c.args.trail.now in
    never-full c.args.net.now c.args.firing l l c.from_residual-in_err-checked.result (why c) led

fired : (c : After-shift) → Fires (system c.args.net.now) c.args.firing.transition c.args.firing.mode (tokens c.args.counts.now) (tokens c.shift.new.self)
fired c =
    fires (system c.args.net.now) c.args.firing c.args.counts.now c.of-change.result c.of-change.ensures.takes c.of-change.ensures.puts c.in_ok-opened.ensures c.in_ok-checked.ensures (tokens c.shift.new.self) (unheld c.args.counts.now c.of-change.result (tokens c.shift.new.self) c.shift.ensures.shifted)

pub returns-in-Ok-clause-called : goal.returns-in-Ok-clause-called
returns-in-Ok-clause-called c =
    record { fires = fired (goal.at.returns-in-Ok-clause-called c).After-shift; trail = c.in-Ok.ensures.cases.0; memory = c.in-Ok.ensures.cases.1 }

pub returns-in-Ok-clause-leads : goal.returns-in-Ok-clause-leads
returns-in-Ok-clause-leads c = λ led.
    let low = small-after c.args.counts.now c.of-change.result c.in_ok-checked.ensures (tokens c.shift.new.self) (unheld c.args.counts.now c.of-change.result (tokens c.shift.new.self) c.shift.ensures.shifted) in
    more (system c.args.net.now) _ _ c.args.firing (tokens c.args.counts.now) (tokens c.shift.new.self) c.in-Ok.ensures.cases.0 (fired (goal.at.returns-in-Ok-clause-leads c).After-shift) low led

pub returns-in-Err-clause-called : goal.returns-in-Err-clause-called
returns-in-Err-clause-called c =
    let h = c.in-Err.ensures.cases in (
      (
        enabled (system c.args.net.now) c.args.firing c.args.counts.now c.of-change.result c.of-change.ensures.takes c.of-change.ensures.puts c.in_ok-opened.ensures c.in_ok-checked.ensures,
        room (system c.args.net.now) c.args.firing c.args.counts.now c.of-change.result c.of-change.ensures.takes c.of-change.ensures.puts c.in_ok-checked.ensures,
        sym h.1,
      ),
      ap (lent c.args.counts.now) h.0,
    )
