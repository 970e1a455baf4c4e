use Rattle.reread_law_texts.proofs.Alike.MovedStatements.{item_moves, tree_moves}
use Rattle.reread_law_texts.proofs.laws.alike.trees_move.Goals as goal

pub returns-clause-item : goal.returns-clause-item
returns-clause-item c d to m ts rest one h p = item_moves to m p h

pub returns-clause-tree : goal.returns-clause-tree
returns-clause-tree c = tree_moves
