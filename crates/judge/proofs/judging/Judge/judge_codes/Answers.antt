use Rattle.judge.specs.Calls.{net_of}
use Rattle.judge.proofs.Markings.{exactly, keeps}
use Rattle.judge.proofs.judging.Judge.judge_codes.Goals as goal

pub returns-clause-verdict : goal.returns-clause-verdict
returns-clause-verdict g c =
    let d = g.D.WeightDomain.meaning c.args.d.now in
    let law = g.met.D.WeightDomain.lawful c.args.d.now in
    let codes = c.args.self.now.codes.now in
    let n = net_of c.args.self.now in
    let r = c.judge_all-verdict.result in
    let long = c.requires.codes_long in
    let judged = c.judge_all-verdict.ensures in
    record { judged = judged; exactly = exactly law codes long n r judged; keeps = keeps law codes long n r judged; left = c.leave.ensures.left }
