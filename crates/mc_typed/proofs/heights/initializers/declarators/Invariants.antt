-- What is seen so far, with what is still to come, is as high as the whole list.
use Rattle.std.proofs.Common.{◌≡◌, max, drop, map}
use Rattle.mc_typed.specs.Levels.{height_declarators, limited_more}
use Rattle.mc_typed.specs.Views.{declarator_of}
use Rattle.mc_typed.proofs.heights.initializers.declarators.Given as goal

abbrev pub invariant-loop-tree : goal.invariant-loop-tree
invariant-loop-tree l = max l.tallest (height_declarators limited_more (map declarator_of (drop l.tree-index l.trees))) ≡ height_declarators limited_more (map declarator_of l.trees)
