use Rattle.mc_print.proofs.Lists.{type_act, StillTo}
use Rattle.mc_print.proofs.pen.type_words.Given as goal

abbrev pub invariant-loop-token : goal.invariant-loop-token
invariant-loop-token g l =
    StillTo type_act l.tokens l.token-index (g.K.Sink.written l.fn.out) (g.K.Sink.faults l.fn.out) l.fn.pen (g.K.Sink.written l.out) (g.K.Sink.faults l.out) l.pen
