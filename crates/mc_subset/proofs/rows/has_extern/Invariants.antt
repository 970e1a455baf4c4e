-- The word is among the specifiers still to come exactly where it is among all.
use Rattle.std.proofs.Common.{◌≡◌, map, drop}
use Rattle.mc_tree.specs.Views.{specifier_of, specifiers_from}
use Rattle.mc_subset.specs.Nodes.{has_extern}
use Rattle.mc_subset.proofs.rows.has_extern.Given as goal

abbrev pub invariant-loop-tree : goal.invariant-loop-tree
invariant-loop-tree l = has_extern (specifiers_from (map specifier_of (drop l.tree-index l.trees))) ≡ has_extern (specifiers_from (map specifier_of l.trees))
