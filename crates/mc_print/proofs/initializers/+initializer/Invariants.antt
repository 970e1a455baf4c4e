use Rattle.mc_print.proofs.Lists.{initializer_act, StillTo}
use Rattle.mc_print.proofs.initializers.+initializer.Given as goal

abbrev pub invariant-initializers-loop-tree : goal.invariant-initializers-loop-tree
invariant-initializers-loop-tree g l =
    StillTo initializer_act l.trees l.tree-index (g.K.Sink.written l.fn.out) (g.K.Sink.faults l.fn.out) l.fn.pen (g.K.Sink.written l.out) (g.K.Sink.faults l.out) l.pen
