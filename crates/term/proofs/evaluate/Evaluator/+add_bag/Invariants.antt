use Rattle.term.proofs.evaluate.Evaluator.+add_bag.Given as goal

abbrev pub decreases-add_bag : goal.decreases-add_bag
decreases-add_bag g l = l.depth
