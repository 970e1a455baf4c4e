use Rattle.mc_probe.proofs.Kept.{equal_trees}
use Rattle.mc_probe.proofs.laws.same_trees_are_equal.Goals as goal

pub returns : goal.returns
returns c = equal_trees
