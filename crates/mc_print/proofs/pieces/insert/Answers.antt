use Rattle.mc_print.proofs.Lists.{piece_act, all_pieces, begin, next_at, finish}
use Rattle.mc_print.proofs.pieces.insert.Goals as goal

pub loop-piece-init : goal.loop-piece-init
loop-piece-init g c = begin piece_act c.args.pieces.now _ _ _

pub loop-piece-preserved : goal.loop-piece-preserved
loop-piece-preserved g c =
    next_at piece_act c.args.pieces.now c.loop-piece.piece-index _ (g.K.Sink.written c.args.out.now) (g.K.Sink.written c.loop-piece.out) (g.K.Sink.written c.put_piece.new.out) (g.K.Sink.faults c.args.out.now) (g.K.Sink.faults c.loop-piece.out) (g.K.Sink.faults c.put_piece.new.out) c.args.pen.now c.loop-piece.pen c.put_piece.new.pen c.loop-piece-test.true c.put_piece.ensures c.loop-piece.invariant

pub returns : goal.returns
returns g c =
    finish piece_act c.args.pieces.now c.loop-piece.piece-index _ _ _ _ _ _ _ c.loop-piece-test.false (all_pieces c.args.pieces.now) c.loop-piece.invariant
