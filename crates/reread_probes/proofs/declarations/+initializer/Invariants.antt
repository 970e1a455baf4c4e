-- The walk so far, and then over what is still to come, is the walk over all.
use Rattle.std.proofs.Common.{◌≡◌, drop, map}
use Rattle.mc_tree.specs.Units.{initializer_of, initializers_from}
use Rattle.reread_probes.specs.Statements.{walk_initializers}
use Rattle.reread_probes.specs.steps.Views.{walk_of}
use Rattle.reread_probes.proofs.declarations.+initializer.Given as goal

abbrev pub invariant-initializers-loop-tree : goal.invariant-initializers-loop-tree
invariant-initializers-loop-tree l = walk_initializers (initializers_from (map initializer_of (drop l.tree-index l.trees))) (walk_of l.walk) ≡ walk_initializers (initializers_from (map initializer_of l.trees)) (walk_of l.fn.walk)
