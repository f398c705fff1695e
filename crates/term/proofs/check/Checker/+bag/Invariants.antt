use Rattle.term.proofs.check.Checker.+bag.Given as goal

abbrev pub decreases-bag : goal.decreases-bag
decreases-bag l = l.depth
