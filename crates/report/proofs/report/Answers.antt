use Rattle.std.proofs.Common.{string_bytes}
use Rattle.std.proofs.lemmas.Result.{IfOk-weaker}
use Rattle.report.specs.Report.{IsReport, IsTheReport}
use Rattle.report.proofs.Only.{the_report}
use Rattle.report.proofs.report.Goals as goal

pub returns : goal.returns
returns c =
    IfOk-weaker c.written.result (λ t. IsReport c.args.file.now c.args.trace.now (string_bytes t)) (λ t. IsTheReport c.args.file.now c.args.trace.now (string_bytes t))
    (λ t h. the_report c.args.file.now c.args.trace.now (string_bytes t) h)
    c.written.ensures
