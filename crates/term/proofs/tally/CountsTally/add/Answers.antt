use Rattle.std.proofs.Common.{refl}
use Rattle.term.proofs.Tallies.{words}
use Rattle.term.proofs.tally.CountsTally.add.Goals as goal

pub returns : goal.returns
returns c = record {
  place = refl;
  same = refl;
  long = c.add.auto.counts;
  added = λ w. (words _ _ _ _ c.add.auto.counts w c.add.ensures, c.add.ensures);
}
