use Rattle.mc_print.proofs.Lists.{token_act, all_tokens, begin, next_at, finish}
use Rattle.mc_print.proofs.pen.texts.Goals as goal

pub loop-token-init : goal.loop-token-init
loop-token-init g c = begin token_act c.args.tokens.now _ _ _

pub loop-token-preserved : goal.loop-token-preserved
loop-token-preserved g c =
    next_at token_act c.args.tokens.now c.loop-token.token-index _ (g.K.Sink.written c.args.out.now) (g.K.Sink.written c.loop-token.out) (g.K.Sink.written c.word.new.out) (g.K.Sink.faults c.args.out.now) (g.K.Sink.faults c.loop-token.out) (g.K.Sink.faults c.word.new.out) c.args.pen.now c.loop-token.pen c.word.new.pen c.loop-token-test.true c.word.ensures c.loop-token.invariant

pub returns : goal.returns
returns g c =
    finish token_act c.args.tokens.now c.loop-token.token-index _ _ _ _ _ _ _ c.loop-token-test.false (all_tokens c.args.tokens.now) c.loop-token.invariant
