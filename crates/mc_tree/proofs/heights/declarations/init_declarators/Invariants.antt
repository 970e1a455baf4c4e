use Rattle.std.proofs.Common.{◌≡◌, max, drop, map}
use Rattle.mc_tree.specs.Units.{init_declarator_of}
use Rattle.mc_tree.specs.Height.{height_init_declarators}
use Rattle.mc_tree.proofs.heights.declarations.init_declarators.Given as goal

abbrev pub invariant-loop-tree : goal.invariant-loop-tree
invariant-loop-tree l = max l.tallest (height_init_declarators (map init_declarator_of (drop l.tree-index l.trees))) ≡ height_init_declarators (map init_declarator_of l.trees)
