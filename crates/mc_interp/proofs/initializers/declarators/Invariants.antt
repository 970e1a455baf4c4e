use Rattle.std.proofs.Common.{drop}
use Rattle.mc_interp.proofs.Sequences.{AreDeclaring}
use Rattle.mc_interp.proofs.initializers.declarators.Given as goal

abbrev pub invariant-loop-tree : goal.invariant-loop-tree
invariant-loop-tree g l =
    AreDeclaring g.P.Probe.bits g.P.Probe.leads l.frame l.trees (drop l.tree-index l.trees) l.fn.store l.store l.fn.probe l.probe
