use Rattle.std.proofs.Common.{string_bytes}
use Rattle.std.proofs.lemmas.Result.{on_ok_weaker}
use Rattle.judge.specs.Calls.{lent, net_of}
use Rattle.report.proofs.Surveyed.{all_claims, never_refused}
use Rattle.report.proofs.build.add_survey.Goals as goal

pub returns-in-Ok : goal.returns-in-Ok
returns-in-Ok c =
    let a = c.in-Ok.ensures.surveyed in
    on_ok_weaker _
    (all_claims (net_of c.args.judge.now) (lent c.args.judge.now) (lent c.survey.new.self) c.args.sheet.now c.survey.new.sheet c.as_slice.result.now
    (string_bytes c.args.text.now) (string_bytes c.add_outcomes.new.text) c.requires.empty a.1 c.as_slice.ensures)
    c.add_outcomes.ensures

pub returns-in-Err : goal.returns-in-Err
returns-in-Err c =
    absurd (never_refused c.args.judge.now.net.now (lent c.args.judge.now) (lent c.survey.new.self) c.args.sheet.now c.survey.new.sheet c.in-Err.field-0
    c.requires.fits c.requires.empty c.requires.room c.in-Err.ensures.surveyed)
