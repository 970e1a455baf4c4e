-- What is seen so far, with what is still to come, is as high as the whole list.
use Rattle.std.proofs.Common.{◌≡◌, max, drop, map}
use Rattle.mc_typed.specs.Levels.{height_arguments, limited_more}
use Rattle.mc_typed.specs.Views.{argument_of, arguments_from}
use Rattle.mc_typed.proofs.heights.expressions.+levels.Given as goal

abbrev pub invariant-arguments-loop-tree : goal.invariant-arguments-loop-tree
invariant-arguments-loop-tree l = max l.tallest (height_arguments limited_more (arguments_from (map argument_of (drop l.tree-index l.trees)))) ≡ height_arguments limited_more (arguments_from (map argument_of l.trees))
