use Rattle.mc_print.proofs.Lists.{piece_act, StillTo}
use Rattle.mc_print.proofs.pieces.insert.Given as goal

abbrev pub invariant-loop-piece : goal.invariant-loop-piece
invariant-loop-piece g l =
    StillTo piece_act l.pieces l.piece-index (g.K.Sink.written l.fn.out) (g.K.Sink.faults l.fn.out) l.fn.pen (g.K.Sink.written l.out) (g.K.Sink.faults l.out) l.pen
