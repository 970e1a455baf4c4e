-- What is seen so far, with what is still to come, is as high as the whole list.
use Rattle.std.proofs.Common.{◌≡◌, max, drop, map}
use Rattle.mc_typed.specs.Levels.{height_initializers, limited_more}
use Rattle.mc_typed.specs.Views.{initializer_of, initializers_from}
use Rattle.mc_typed.proofs.heights.initializers.+initializer.Given as goal

abbrev pub invariant-initializers-loop-tree : goal.invariant-initializers-loop-tree
invariant-initializers-loop-tree l = max l.tallest (height_initializers limited_more (initializers_from (map initializer_of (drop l.tree-index l.trees)))) ≡ height_initializers limited_more (initializers_from (map initializer_of l.trees))
