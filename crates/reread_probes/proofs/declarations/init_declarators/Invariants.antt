-- The walk so far, and then over what is still to come, is the walk over all.
use Rattle.std.proofs.Common.{◌≡◌, drop, map}
use Rattle.mc_tree.specs.Units.{init_declarator_of}
use Rattle.reread_probes.specs.Statements.{walk_init_declarators}
use Rattle.reread_probes.specs.steps.Views.{walk_of}
use Rattle.reread_probes.proofs.declarations.init_declarators.Given as goal

abbrev pub invariant-loop-tree : goal.invariant-loop-tree
invariant-loop-tree l = walk_init_declarators (map init_declarator_of (drop l.tree-index l.trees)) (walk_of l.walk) ≡ walk_init_declarators (map init_declarator_of l.trees) (walk_of l.fn.walk)
