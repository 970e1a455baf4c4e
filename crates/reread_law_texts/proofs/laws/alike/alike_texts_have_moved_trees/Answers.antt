use Rattle.reread_law_texts.proofs.Alike.Alike.{alike_moved, alike_trees}
use Rattle.reread_law_texts.proofs.laws.alike.alike_texts_have_moved_trees.Goals as goal

pub returns-clause-moved : goal.returns-clause-moved
returns-clause-moved c tokens others = alike_moved 0 tokens others

pub returns-clause-tree : goal.returns-clause-tree
returns-clause-tree c = alike_trees
