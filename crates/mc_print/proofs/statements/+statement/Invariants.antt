use Rattle.mc_print.proofs.Lists.{statement_act, StillTo}
use Rattle.mc_print.proofs.statements.+statement.Given as goal

abbrev pub invariant-statements-loop-tree : goal.invariant-statements-loop-tree
invariant-statements-loop-tree g l =
    StillTo statement_act l.trees l.tree-index (g.K.Sink.written l.fn.out) (g.K.Sink.faults l.fn.out) l.fn.pen (g.K.Sink.written l.out) (g.K.Sink.faults l.out) l.pen
