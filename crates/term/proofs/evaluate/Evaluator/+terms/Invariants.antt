use Rattle.std.proofs.Common.{◌+◌, ◌*◌}
use Rattle.term.proofs.evaluate.Evaluator.+terms.Given as goal

abbrev pub decreases-next : goal.decreases-next
decreases-next l = 2 * l.depth + 1

abbrev pub decreases-next_other : goal.decreases-next_other
decreases-next_other l = 2 * l.depth
