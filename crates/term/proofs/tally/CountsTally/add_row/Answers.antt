use Rattle.std.proofs.Common.{refl}
use Rattle.term.proofs.Tallies.{words}
use Rattle.term.proofs.tally.CountsTally.add_row.Goals as goal

pub returns : goal.returns
returns c = record {
  place = refl;
  same = refl;
  long = c.add_row.auto.counts;
  added = λ w. (words _ _ _ _ c.add_row.auto.counts w c.add_row.ensures, c.add_row.ensures);
}
