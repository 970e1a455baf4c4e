use Rattle.mc_print.proofs.Lists.{effect_act, StillTo}
use Rattle.mc_print.proofs.effects.effects.Given as goal

abbrev pub invariant-loop-tree : goal.invariant-loop-tree
invariant-loop-tree g l =
    StillTo effect_act l.trees l.tree-index (g.K.Sink.written l.fn.out) (g.K.Sink.faults l.fn.out) l.fn.pen (g.K.Sink.written l.out) (g.K.Sink.faults l.out) l.pen
