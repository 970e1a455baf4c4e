use Rattle.mc_needs.proofs.Trees.{same_tree}
use Rattle.mc_needs.proofs.pairing.chosen_pair.Goals as goal

pub unique_pair-requires-clause-numbering : goal.unique_pair-requires-clause-numbering
unique_pair-requires-clause-numbering c = same_tree c.args.mapped.now

pub masking_pair-requires-clause-numbering : goal.masking_pair-requires-clause-numbering
masking_pair-requires-clause-numbering c = same_tree c.args.mapped.now

pub returns-in-Unique-clause-none : goal.returns-in-Unique-clause-none
returns-in-Unique-clause-none c = rw c.in-Unique.is c.unique_pair.ensures.none

pub returns-in-Masking-clause-none : goal.returns-in-Masking-clause-none
returns-in-Masking-clause-none c = rw c.in-Masking.is c.masking_pair.ensures.none
