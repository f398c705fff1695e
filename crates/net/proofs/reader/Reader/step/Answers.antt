use Rattle.std.proofs.Common.{sym, subst}
use Rattle.format.specs.Commands.{said_of}
use Rattle.format.specs.Format.{setting_of}
use Rattle.net.specs.Held.{Ready}
use Rattle.net.specs.System.{SystemNet, told_by}
use Rattle.net.specs.WellFormed.{Bytes}
use Rattle.net.proofs.Held.{fits, opened_by, ready}
use Rattle.net.proofs.Operands.{Holds, Taken, taken}
use Rattle.net.proofs.reader.Reader.step.Goals as goal

-- the command that was read
read : (c : goal.Joined-matches) → Bytes c.args.self.now.rest.now → Taken (setting_of c.context.result) c.code.new.self.rest.now c.in_ok-code.code (said_of c.in_ok-command.command) c.in_ok-command.rest.now
read c b =
    let now = c.code.new.self in
    let x = setting_of c.context.result in
    let bytes : Bytes now.rest.now = subst Bytes (sym c.in_ok-code.ensures.rest) b in
    subst (Holds (Taken x now.rest.now c.in_ok-code.code)) (sym c.in_ok-command.ensures.0) (taken x now.rest.now bytes c.in_ok-code.code)

pub returns-clause-bytes : goal.returns-clause-bytes
returns-clause-bytes c b = (read c b).rest

pub returns-clause-ready : goal.returns-clause-ready
returns-clause-ready c b r =
    let old = c.args.self.now in
    let now = c.code.new.self in
    let code = c.in_ok-code.code in
    let n = told_by c.args.parts.now in
    let e = opened_by old.order.section now.order.section n code old.rest.now old.ends (sym c.in_ok-code.ensures.value) in
    subst (λ (m : SystemNet). Ready now.order.section m.transitions) (sym c.in_ok-carry_out.ensures.told) (ready (setting_of c.context.result) old.order.section now.order.section n (read c b).heard e r)

pub returns-clause-no_more : goal.returns-clause-no_more
returns-clause-no_more c b r h =
    let old = c.args.self.now in
    let now = c.code.new.self in
    let code = c.in_ok-code.code in
    let n = told_by c.args.parts.now in
    let e = opened_by old.order.section now.order.section n code old.rest.now old.ends (sym c.in_ok-code.ensures.value) in
    c.in_ok-carry_out.ensures.no_more (fits n.transitions (setting_of c.context.result) old.order.section now.order.section (read c b).heard e r) h
