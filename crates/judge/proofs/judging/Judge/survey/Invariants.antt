use Rattle.std.proofs.Common.{◌≡◌}
use Rattle.judge.specs.Calls.{SameLoans, lent, net_of}
use Rattle.judge.specs.Surveys.{AllJudged, Ready}
use Rattle.judge.proofs.judging.Judge.survey.Given as goal

-- there was room for all claims, and those so far are judged onto the sheet
abbrev pub invariant-loop-claim : goal.invariant-loop-claim
invariant-loop-claim l = record {
  same : SameLoans l.fn.self l.self;
  named : l.sheet.items.ghost_name ≡ l.fn.sheet.items.ghost_name;
  ready : Ready (net_of l.fn.self) (lent l.fn.self) l.fn.sheet;
  added : AllJudged (net_of l.fn.self) (lent l.fn.self) (lent l.self) l.fn.sheet l.sheet l.claim;
}
