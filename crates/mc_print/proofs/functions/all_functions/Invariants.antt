use Rattle.mc_print.proofs.Lists.{function_act, StillTo}
use Rattle.mc_print.proofs.functions.all_functions.Given as goal

abbrev pub invariant-loop-tree : goal.invariant-loop-tree
invariant-loop-tree g l =
    StillTo function_act l.trees l.tree-index (g.K.Sink.written l.fn.out) (g.K.Sink.faults l.fn.out) l.fn.pen (g.K.Sink.written l.out) (g.K.Sink.faults l.out) l.pen
