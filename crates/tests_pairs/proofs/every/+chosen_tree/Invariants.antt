use Rattle.tests_pairs.proofs.every.+chosen_tree.Given as goal

abbrev pub decreases-chosen_tree : goal.decreases-chosen_tree
decreases-chosen_tree l = l.count
