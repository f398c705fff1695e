use Rattle.std.proofs.Common.{◌*◌}
use Rattle.term.proofs.Tallies.{Grown}
use Rattle.term.proofs.tally.add_row.Given as goal

abbrev pub invariant-loop-e : goal.invariant-loop-e
invariant-loop-e l = Grown l.initial.counts l.counts l.row (64 * l.place) l.e
