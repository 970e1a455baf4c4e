use Rattle.std.proofs.Common.{◌≡◌, map, drop}
use Rattle.mc_tree.specs.Units.{init_declarator_of}
use Rattle.reread_probes.specs.Statements.{initializes}
use Rattle.reread_probes.proofs.declarations.initializes.Given as goal

abbrev pub invariant-loop-tree : goal.invariant-loop-tree
invariant-loop-tree l = initializes (map init_declarator_of (drop l.tree-index l.trees)) ≡ initializes (map init_declarator_of l.trees)
