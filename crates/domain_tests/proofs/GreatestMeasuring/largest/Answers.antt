use Rattle.domain_tests.proofs.Heights.{higher, no_higher}
use Rattle.domain_tests.proofs.GreatestMeasuring.largest.Goals as goal

pub returns-then-v-w-clause-plains : goal.returns-then-v-w-clause-plains
returns-then-v-w-clause-plains c = λ _ _. higher c.args.v.now c.args.w.now c.if-v-w.true

pub returns-else-v-w-clause-plains : goal.returns-else-v-w-clause-plains
returns-else-v-w-clause-plains c = λ _ _. no_higher c.args.v.now c.args.w.now c.if-v-w.false
