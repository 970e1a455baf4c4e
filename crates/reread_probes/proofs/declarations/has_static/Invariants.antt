-- The word is among the specifiers still to come exactly where it is among all.
use Rattle.std.proofs.Common.{◌≡◌, map, drop}
use Rattle.mc_tree.specs.Views.{specifier_of, specifiers_from}
use Rattle.reread_probes.specs.Statements.{has_static}
use Rattle.reread_probes.proofs.declarations.has_static.Given as goal

abbrev pub invariant-loop-tree : goal.invariant-loop-tree
invariant-loop-tree l = has_static (specifiers_from (map specifier_of (drop l.tree-index l.trees))) ≡ has_static (specifiers_from (map specifier_of l.trees))
