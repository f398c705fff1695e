use Rattle.std.proofs.Common.{rules}
use Rattle.domain.specs.declared.kind.Kind.TheVariants as kind
use Rattle.judge.specs.Calls.{lent}
use Rattle.judge.proofs.Refusals.{its_judged, kind_judged}
use Rattle.judge.proofs.judging.Judge.judge_by_kind.Goals as goal

pub returns-in-Some-NeverRises-clause-weighed : goal.returns-in-Some-NeverRises-clause-weighed
returns-in-Some-NeverRises-clause-weighed c = kind_judged c.args.self.now.net.now c.args.claim _ _ kind.NeverRises (rw c.in-Some-NeverRises.field-0-is at c.in-Some-NeverRises.ensures) _ c.outcome.ensures.by

pub returns-in-Some-NeverFalls-clause-weighed : goal.returns-in-Some-NeverFalls-clause-weighed
returns-in-Some-NeverFalls-clause-weighed c = kind_judged c.args.self.now.net.now c.args.claim _ _ kind.NeverFalls (rw c.in-Some-NeverFalls.field-0-is at c.in-Some-NeverFalls.ensures) _ c.outcome-in-Some-NeverFalls.ensures.by

pub returns-in-Some-Modulo-clause-weighed : goal.returns-in-Some-Modulo-clause-weighed
returns-in-Some-Modulo-clause-weighed c = kind_judged c.args.self.now.net.now c.args.claim _ _ (kind.Modulo c.in-Some-Modulo.k) (rw c.in-Some-Modulo.field-0-is at c.in-Some-Modulo.ensures) _ c.outcome-in-Some-Modulo.ensures.by

pub returns-in-Some-Trap-clause-weighed : goal.returns-in-Some-Trap-clause-weighed
returns-in-Some-Trap-clause-weighed c = kind_judged c.args.self.now.net.now c.args.claim _ _ kind.Trap (rw c.in-Some-Trap.field-0-is at c.in-Some-Trap.ensures) _ c.outcome-in-Some-Trap.ensures.by

pub returns-in-Some-Siphon-clause-weighed : goal.returns-in-Some-Siphon-clause-weighed
returns-in-Some-Siphon-clause-weighed c = kind_judged c.args.self.now.net.now c.args.claim _ _ kind.Siphon (rw c.in-Some-Siphon.field-0-is at c.in-Some-Siphon.ensures) _ c.outcome-in-Some-Siphon.ensures.by

pub returns-in-None-clause-weighed : goal.returns-in-None-clause-weighed
returns-in-None-clause-weighed c =
    its_judged c.args.self.now.net.now c.args.claim (lent c.args.self.now) (lent c.outcome-in-None.new.self) c.outcome-in-None.result (search rules)
