-- What a bench holds, and what every call leaves it.
use Rattle.std.specs.Prelude.{◌≡◌}
use Rattle.std.specs.Borrow.{MutBor}
use Rattle.lent.specs.Held as list
use Rattle.lent.specs.declared.list.LentList.{LentList}
use Rattle.net.specs.declared.firing.Firing.{Firing}
use Rattle.bench.specs.Calls.{Lent, lent}
use Rattle.bench.specs.Counted.{loan}
use Rattle.bench.specs.declared.bench.Bench.{Bench}
use Rattle.bench.specs.declared.counts.Counts.{Counts}

-- what the memory lent to a bench holds
abbrev pub lent_of : Bench → Lent
lent_of b = lent b.counts.now b.trail.now

-- the bench works on the counts and the trail that are lent, and these on the memory lent to them, and not on copies
pub record HasLoans (k : MutBor Counts) (l : MutBor (LentList Firing)) (b : Bench) : Type 0 where
  pub counts : b.counts.ghost_name ≡ k.ghost_name
  pub trail : b.trail.ghost_name ≡ l.ghost_name
  pub cells : loan b.counts.now ≡ loan k.now
  pub items : list.loan b.trail.now ≡ list.loan l.now

-- a call leaves a bench its net and its loans
pub record SameLoans (v w : Bench) : Type 0 where
  pub net : w.net ≡ v.net
  pub lent : HasLoans v.counts v.trail w
