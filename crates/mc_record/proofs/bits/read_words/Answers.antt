use Rattle.std.proofs.Common.{refl, sym, arith}
use Rattle.mc_record.proofs.BitLines.{words_end, words_step, words_stop}
use Rattle.mc_record.proofs.bits.read_words.Goals as goal

pub returns-in_default-clause-fault : goal.returns-in_default-clause-fault
returns-in_default-clause-fault c = λ _. (words_stop c.args.words.now.items c.loop-place.words.items c.args.text.now c.loop-place.left.now c.args.count c.loop-place._place c.loop-place-test.true (sym c.in_default.ensures) c.loop-place.invariant, refl)

pub loop-place-preserved : goal.loop-place-preserved
loop-place-preserved c = words_step c.args.words.now.items c.loop-place.words.items c.push.new.self.items c.args.text.now c.loop-place.left.now c.in-Some.rest.now c.args.count c.loop-place._place c.in-Some.word c.loop-place-test.true (sym c.in-Some.ensures) c.in_ok-push.ensures.items c.loop-place.invariant

pub returns-clause-read : goal.returns-clause-read
returns-clause-read c = words_end c.args.words.now.items c.loop-place.words.items c.args.text.now c.loop-place.left.now c.args.count c.loop-place._place (omega arith) c.loop-place.invariant
