use Rattle.std.proofs.Common.{w64, SFits, rules}
use Rattle.domain.proofs.Wholes.{added}
use Rattle.domain.proofs.whole.add.Goals as goal

pub returns-then-size-le-LARGEST_SUM : goal.returns-then-size-le-LARGEST_SUM
returns-then-size-le-LARGEST_SUM c =
    let from = c.from-then-size-le-LARGEST_SUM in
    let fits : SFits w64 from.result = record { sfits = from.type_inv } in
    record {
      exact = λ h. added c.args.v c.args.w from.result c.args.n c.ranges.v c.ranges.w fits from.ensures h;
      beyond = λ h. search rules;
    }
