use Rattle.std.proofs.Common.{drop}
use Rattle.mc_interp.proofs.Sequences.{AreSetting}
use Rattle.mc_interp.proofs.initializers.+initializer.Given as goal

abbrev pub invariant-items-loop-tree : goal.invariant-items-loop-tree
invariant-items-loop-tree g l =
    AreSetting g.P.Probe.bits g.P.Probe.leads l.frame l.trees (drop l.tree-index l.trees) l.at l.tree-index l.offset l.cells l.fn.store l.store l.fn.probe l.probe
