use Rattle.std.proofs.Common.{◌≡◌, drop, map}
use Rattle.mc_tree.specs.Units.{init_declarator_of}
use Rattle.mc_subset.specs.Nodes.{nodes_of_init_declarators}
use Rattle.mc_subset.specs.Forms.{first_outside}
use Rattle.mc_subset.proofs.declarations.init_declarators.Given as goal

abbrev pub invariant-loop-tree : goal.invariant-loop-tree
invariant-loop-tree l = first_outside (nodes_of_init_declarators l.region l.external (map init_declarator_of (drop l.tree-index l.trees))) ≡ first_outside (nodes_of_init_declarators l.region l.external (map init_declarator_of l.trees))
