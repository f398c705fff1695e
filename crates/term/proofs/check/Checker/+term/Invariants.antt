use Rattle.term.proofs.check.Checker.+term.Given as goal

abbrev pub decreases-term : goal.decreases-term
decreases-term l = l.depth
