use Rattle.mc_print.proofs.Lists.{token_act, StillTo}
use Rattle.mc_print.proofs.pen.texts.Given as goal

abbrev pub invariant-loop-token : goal.invariant-loop-token
invariant-loop-token g l =
    StillTo token_act l.tokens l.token-index (g.K.Sink.written l.fn.out) (g.K.Sink.faults l.fn.out) l.fn.pen (g.K.Sink.written l.out) (g.K.Sink.faults l.out) l.pen
