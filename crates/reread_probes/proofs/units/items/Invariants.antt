-- The walk so far, and then over what is still to come, is the walk over all.
use Rattle.std.proofs.Common.{◌≡◌, drop}
use Rattle.mc_tree.specs.Units.{items_of}
use Rattle.reread_probes.specs.Statements.{walk_items}
use Rattle.reread_probes.specs.steps.Views.{walk_of}
use Rattle.reread_probes.proofs.units.items.Given as goal

abbrev pub invariant-loop-tree : goal.invariant-loop-tree
invariant-loop-tree l = walk_items (items_of (drop l.tree-index l.trees)) (walk_of l.walk) ≡ walk_items (items_of l.trees) (walk_of l.fn.walk)
