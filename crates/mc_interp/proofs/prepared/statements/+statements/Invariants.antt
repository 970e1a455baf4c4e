use Rattle.std.proofs.Common.{◌≡◌, ◌++◌, drop, map}
use Rattle.mc_probe.specs.Views as view
use Rattle.mc_interp.specs.Views.{statement_of}
use Rattle.mc_interp.proofs.prepared.statements.+statements.Given as goal

-- the items so far, with those that are still to come, are all
abbrev pub invariant-prepare_all-loop-tree : goal.invariant-prepare_all-loop-tree
invariant-prepare_all-loop-tree l =
    map statement_of l.made.items ++ map view.statement_of (drop l.tree-index l.trees) ≡ map view.statement_of l.trees
