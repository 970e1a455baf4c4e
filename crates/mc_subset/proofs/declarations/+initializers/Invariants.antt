use Rattle.std.proofs.Common.{◌≡◌, drop, map}
use Rattle.mc_tree.specs.Units.{initializer_of, initializers_from}
use Rattle.mc_subset.specs.Nodes.{nodes_of_initializers}
use Rattle.mc_subset.specs.Forms.{first_outside}
use Rattle.mc_subset.proofs.declarations.+initializers.Given as goal

abbrev pub invariant-initializers-loop-tree : goal.invariant-initializers-loop-tree
invariant-initializers-loop-tree l = first_outside (nodes_of_initializers l.region (initializers_from (map initializer_of (drop l.tree-index l.trees)))) ≡ first_outside (nodes_of_initializers l.region (initializers_from (map initializer_of l.trees)))
