use Rattle.std.proofs.Common.{ℕ, ◌≤◌}
use Rattle.net.specs.Runs.{Bounded, Reachable}
use Rattle.bench.specs.Calls.{marking}
use Rattle.bench.specs.Standing.{lent_of}
use Rattle.bench.specs.declared.bench.Bench.{Bench}
use Rattle.bench.proofs.Walks.{reachable}
use Rattle.net.specs.Of.{system}
use Rattle.bench.proofs.bench.Bench.count.Goals as goal

led : (b : Bench) → Reachable (system b.net.now) (marking (lent_of b))
led b = reachable (system b.net.now) (lent_of b).trail (marking (lent_of b)) b.reached

within : (b : Bench) (c k : ℕ) → Bounded (system b.net.now) c k → marking (lent_of b) c ≤ k
within b c k h = h (marking (lent_of b)) (led b)

pub returns-then-has_cell-clause-bounded : goal.returns-then-has_cell-clause-bounded
returns-then-has_cell-clause-bounded c = within c.args.self.now

pub returns-else-has_cell-clause-bounded : goal.returns-else-has_cell-clause-bounded
returns-else-has_cell-clause-bounded c = within c.args.self.now

pub returns-then-has_cell-clause-reachable : goal.returns-then-has_cell-clause-reachable
returns-then-has_cell-clause-reachable c = led c.args.self.now

pub returns-else-has_cell-clause-reachable : goal.returns-else-has_cell-clause-reachable
returns-else-has_cell-clause-reachable c = led c.args.self.now
