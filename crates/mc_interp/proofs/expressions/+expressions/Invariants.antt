use Rattle.std.proofs.Common.{drop}
use Rattle.mc_interp.proofs.Arguments.{ArePassing}
use Rattle.mc_interp.proofs.expressions.+expressions.Given as goal

abbrev pub invariant-arguments-loop-tree : goal.invariant-arguments-loop-tree
invariant-arguments-loop-tree g l =
    ArePassing g.P.Probe.bits g.P.Probe.leads l.frame l.trees (drop l.tree-index l.trees) l.passed.items l.fn.store l.store l.fn.probe l.probe
