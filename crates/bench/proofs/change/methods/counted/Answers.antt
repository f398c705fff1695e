use Rattle.std.proofs.Common.{refl}
use Rattle.net.proofs.Tallied.{counted_zeros}
use Rattle.bench.proofs.change.methods.counted.Goals as goal

pub returns-clause-takes : goal.returns-clause-takes
returns-clause-takes c = counted_zeros _ c.count.new.counts _ refl c.count.ensures.exact

pub returns-clause-puts : goal.returns-clause-puts
returns-clause-puts c = counted_zeros _ c.count-2.new.counts _ refl c.count-2.ensures.exact
