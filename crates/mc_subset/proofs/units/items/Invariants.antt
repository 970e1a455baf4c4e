-- What was found, or else the first of what is still to come, is the first of all.
use Rattle.std.proofs.Common.{◌≡◌, drop}
use Rattle.mc_tree.specs.Units.{items_of}
use Rattle.subset_forms.specs.Order.{or_else}
use Rattle.mc_subset.specs.Nodes.{nodes_of_unit}
use Rattle.mc_subset.specs.Forms.{first_outside}
use Rattle.mc_subset.proofs.units.items.Given as goal

abbrev pub invariant-loop-tree : goal.invariant-loop-tree
invariant-loop-tree l = or_else l.found (first_outside (nodes_of_unit (items_of (drop l.tree-index l.trees)))) ≡ first_outside (nodes_of_unit (items_of l.trees))
