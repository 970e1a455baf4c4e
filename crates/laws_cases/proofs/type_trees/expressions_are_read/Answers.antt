use Rattle.laws_cases.proofs.Units.{expressions_are_read}
use Rattle.laws_cases.proofs.type_trees.expressions_are_read.Goals as goal

pub returns : goal.returns
returns c = expressions_are_read
