use Rattle.std.proofs.Common.{rules}
use Rattle.domain.specs.declared.kind.Kind.TheVariants as kind
use Rattle.judge.specs.Calls.{lent}
use Rattle.judge.proofs.Refusals.{its_asked, kind_asked}
use Rattle.judge.proofs.judging.Judge.cap_by_kind.Goals as goal

pub returns-in-Some-NeverRises-clause-weighed : goal.returns-in-Some-NeverRises-clause-weighed
returns-in-Some-NeverRises-clause-weighed c =
    kind_asked c.args.self.now.net.now c.args.claim _ _ c.args.cell kind.NeverRises (rw c.in-Some-NeverRises.field-0-is at c.in-Some-NeverRises.ensures) _ c.cap.ensures.asked

pub returns-in-Some-Siphon-clause-weighed : goal.returns-in-Some-Siphon-clause-weighed
returns-in-Some-Siphon-clause-weighed c =
    kind_asked c.args.self.now.net.now c.args.claim _ _ c.args.cell kind.Siphon (rw c.in-Some-Siphon.field-0-is at c.in-Some-Siphon.ensures) _ c.cap-in-Some-Siphon.ensures.asked

pub returns-in-None-clause-weighed : goal.returns-in-None-clause-weighed
returns-in-None-clause-weighed c =
    its_asked c.args.self.now.net.now c.args.claim (lent c.args.self.now) (lent c.cap-in-None.new.self) c.args.cell c.cap-in-None.result (search rules)
