use Rattle.mc_print.proofs.Lists.{type_act, all_types, begin, next_at, finish}
use Rattle.mc_print.proofs.pen.type_words.Goals as goal

pub loop-token-init : goal.loop-token-init
loop-token-init g c = begin type_act c.args.tokens.now _ _ _

pub loop-token-preserved : goal.loop-token-preserved
loop-token-preserved g c =
    next_at type_act c.args.tokens.now c.loop-token.token-index _ (g.K.Sink.written c.args.out.now) (g.K.Sink.written c.loop-token.out) (g.K.Sink.written c.type_word.new.out) (g.K.Sink.faults c.args.out.now) (g.K.Sink.faults c.loop-token.out) (g.K.Sink.faults c.type_word.new.out) c.args.pen.now c.loop-token.pen c.type_word.new.pen c.loop-token-test.true c.type_word.ensures c.loop-token.invariant

pub returns : goal.returns
returns g c =
    finish type_act c.args.tokens.now c.loop-token.token-index _ _ _ _ _ _ _ c.loop-token-test.false (all_types c.args.tokens.now) c.loop-token.invariant
