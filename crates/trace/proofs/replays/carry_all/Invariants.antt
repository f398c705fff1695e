use Rattle.std.proofs.Common.{◌≡◌, length}
use Rattle.lent.specs.Held as list
use Rattle.bench.specs.Calls.{Leads, lent}
use Rattle.bench.specs.Counted.{loan}
use Rattle.net.specs.Of.{system}
use Rattle.trace.proofs.Played.{Going}
use Rattle.trace.proofs.replays.carry_all.Given as goal

abbrev pub invariant-commands : goal.invariant-commands
invariant-commands l =
    Going (system l.net) l.bytes l.rest (lent l.initial.counts l.initial.trail) (lent l.counts l.trail) l.carried
    × Leads (system l.net) (lent l.counts l.trail)
    × (loan l.counts ≡ loan l.initial.counts)
    × (list.loan l.trail ≡ list.loan l.initial.trail)

abbrev pub decreases-commands : goal.decreases-commands
decreases-commands l = length l.rest
