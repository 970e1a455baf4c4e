-- What is copied, with what is still to come, is the whole.
use Rattle.std.proofs.Common.{◌≡◌, ◌++◌, drop, map}
use Rattle.mc_tree.specs.Units.{init_declarator_of}
use Rattle.reread_plain_tree.specs.Unprobed.{unprobed_init_declarator}
use Rattle.reread_plain_tree.proofs.copies.declarations.init_declarators.Given as goal

abbrev pub invariant-loop-tree : goal.invariant-loop-tree
invariant-loop-tree l = map init_declarator_of l.copies.items ++ map unprobed_init_declarator (map init_declarator_of (drop l.tree-index l.trees)) ≡ map unprobed_init_declarator (map init_declarator_of l.trees)
