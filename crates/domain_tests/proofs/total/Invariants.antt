use Rattle.std.proofs.Common.{◌≡◌, ◌*◌, ◌≤◌, length}
use Rattle.domain.specs.Meaning.{largest_sum, largest_weight}
use Rattle.domain_tests.specs.Total.{running_to, total_to}
use Rattle.domain_tests.proofs.total.Given as goal

abbrev pub invariant-loop-code : goal.invariant-loop-code
invariant-loop-code g l =
    let m = g.D.WeightDomain.meaning l.d in
    m.holds l.sum × (l.sum ≡ running_to m l.codes l.code-index)
    × (length l.codes * largest_weight ≤ largest_sum → (m.size l.sum ≤ l.code-index * largest_weight) × (l.sum ≡ total_to m l.codes l.code-index))
