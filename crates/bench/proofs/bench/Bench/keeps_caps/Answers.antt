use Rattle.std.proofs.Common.{◌<◌, ◌≤◌, Ok, ⊎_elim, arith}
use Rattle.std.proofs.lemmas.Bool.{cases_lt}
use Rattle.std.proofs.lemmas.List.{get_or_past}
use Rattle.judge.proofs.Limits.{bounded}
use Rattle.judge.proofs.Markings.{keeps}
use Rattle.bench.specs.Calls.{marking}
use Rattle.bench.specs.Standing.{lent_of}
use Rattle.bench.proofs.Walks.{reachable}
use Rattle.net.specs.Of.{system}
use Rattle.bench.proofs.bench.Bench.keeps_caps.Goals as goal

pub returns : goal.returns
returns g c = λ codes modes cell k long judged plain cap.
    let b = c.args.self.now in
    let n = system b.net.now in
    let a = marking (lent_of b) in
    let law = g.met.M.WeightDomain.lawful c.args.m.now in
    ⊎_elim
    (λ (h : cell < 1024). bounded law codes (g.met.M.Measuring.measured c.args.m.now) plain n cell (omega arith) k modes cap (keeps law codes long n (Ok modes) judged) a (reachable n (lent_of b).trail a b.reached))
    (λ (h : 1024 ≤ cell). let past = get_or_past b.counts.now.cells.now cell 0 (omega (arith, b.counts.now.long)) in omega (arith, past))
    (cases_lt cell 1024)
