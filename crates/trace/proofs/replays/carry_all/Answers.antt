use Rattle.std.proofs.Common.{◌≡◌, ◌≤◌, ◌∙◌, None, Some, length, ap, arith, rules, refl, subst, sym, length-take}
use Rattle.std.proofs.lemmas.Result.{err_from_is_err_and}
use Rattle.term.specs.declared.fault.Fault.{Fault}
use Rattle.bench.specs.Calls.{lent}
use Rattle.trace.specs.Carrying.{Refuses}
use Rattle.trace.specs.Moves.{move_of}
use Rattle.trace.specs.Stops.{cell_of}
use Rattle.trace.specs.Reading.{close, end, fault, first_of, move}
use Rattle.trace.proofs.Carried.{fitting}
use Rattle.trace.proofs.Played.{few, going_on, ran_closed, ran_down, ran_long}
use Rattle.net.specs.Of.{system}
use Rattle.trace.proofs.replays.carry_all.Goals as goal

pub returns-then-bytes-gt-LONGEST-clause-ran : goal.returns-then-bytes-gt-LONGEST-clause-ran
returns-then-bytes-gt-LONGEST-clause-ran c =
    ran_long _ _ _ _ c.at.result (omega arith) c.requires.counted c.at.ensures.0 c.at.ensures.1

pub returns-in_err-command-clause-ran : goal.returns-in_err-command-clause-ran
returns-in_err-command-clause-ran c =
    let i = c.commands.invariant in
    let e = err_from_is_err_and c.from_residual.result c.from_residual.ensures.1 in
    let s = c.in_err-command.field-0.0 in
    let h : first_of c.commands.rest.now (length c.args.bytes.now) ≡ close (fault s.fault s.place) = sym c.in_err-command.ensures.value in
    let a = e.2 in
    let same : e.0 ≡ s = cc in
    rw (e.1, same) (ran_closed _ _ _ _ _ _ i.0 (fault s.fault s.place) (Some s) h (refl, refl))

pub returns-in_err-carry_out-clause-ran : goal.returns-in_err-carry_out-clause-ran
returns-in_err-carry_out-clause-ran c =
    let i = c.commands.invariant in
    let e = err_from_is_err_and c.from_residual-in_err-carry_out.result c.from_residual-in_err-carry_out.ensures.1 in
    let n = system c.args.net.now in
    let m = move_of c.in-Some.command in
    let was = lent c.commands.counts c.commands.trail in
    let s = e.0 in
    let a = e.2 in
    let t = c.in_err-carry_out.ensures.called in
    let h : first_of c.commands.rest.now (length c.args.bytes.now) ≡ move m c.in-Some.next.now = search rules in
    let f = subst (λ (v : Fault). Refuses n m was v) (sym a.0) t.0 in
    rw e.1 (ran_down _ _ _ _ _ _ i.0 m c.in-Some.next.now s _ h (a.1 ∙ ap cell_of (sym a.0)) f t.1)

pub commands-preserved : goal.commands-preserved
commands-preserved c =
    let i = c.commands.invariant in
    let m = move_of c.in-Some.command in
    let low = few _ _ _ _ _ _ i.0 in
    let t = c.in_ok-carry_out.ensures.called in
    let k = lent c.carry_out.new.counts c.carry_out.new.trail in
    let fits : length k.trail ≤ length k.memory = omega (arith, length-take c.carry_out.new.trail.len k.memory) in
    let h : first_of c.commands.rest.now (length c.args.bytes.now) ≡ move m c.in-Some.next.now = search rules in
    (going_on _ _ _ _ _ _ i.0 m c.in-Some.next.now _ _ h t (fitting _ _ c.in_ok-carry_out.ensures.leads fits) (omega arith), search rules, search rules, search rules)

pub returns-clause-ran : goal.returns-clause-ran
returns-clause-ran c =
    let i = c.commands.invariant in
    let h : first_of c.commands.rest.now (length c.args.bytes.now) ≡ close end = search rules in
    ran_closed _ _ _ _ _ _ i.0 end None h tt
