use Rattle.mc_cond.specs.Tree.{tree_of}
use Rattle.mc_probe.proofs.Kept.{equal_trees}
use Rattle.mc_reduce.proofs.pairs.chosen_pair.Goals as goal

pub unique_pair-requires-clause-numbering : goal.unique_pair-requires-clause-numbering
unique_pair-requires-clause-numbering c =
    (equal_trees (tree_of c.args.mapped.now.numbering) (tree_of c.args.mapped.now.decision.tree)).0 c.args.mapped.now.same

pub masking_pair-requires-clause-numbering : goal.masking_pair-requires-clause-numbering
masking_pair-requires-clause-numbering c =
    (equal_trees (tree_of c.args.mapped.now.numbering) (tree_of c.args.mapped.now.decision.tree)).0 c.args.mapped.now.same

pub returns-in-Unique-clause-none : goal.returns-in-Unique-clause-none
returns-in-Unique-clause-none c = rw c.in-Unique.is c.unique_pair.ensures.none

pub returns-in-Masking-clause-none : goal.returns-in-Masking-clause-none
returns-in-Masking-clause-none c = rw c.in-Masking.is c.masking_pair.ensures.none
