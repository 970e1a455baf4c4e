use Rattle.mc_print.proofs.Lists.{argument_act, StillTo}
use Rattle.mc_print.proofs.expressions.+write.Given as goal

abbrev pub invariant-arguments-loop-tree : goal.invariant-arguments-loop-tree
invariant-arguments-loop-tree g l =
    StillTo argument_act l.trees l.tree-index (g.K.Sink.written l.fn.out) (g.K.Sink.faults l.fn.out) l.fn.pen (g.K.Sink.written l.out) (g.K.Sink.faults l.out) l.pen
