use Rattle.evidence_texts.proofs.Answered.{pushed}
use Rattle.evidence_texts.proofs.vector.push_answers.Goals as goal

pub loop-k-preserved : goal.loop-k-preserved
loop-k-preserved c =
    pushed c.push.new.self.items c.loop-k.line.items c.args.line.now.items c.args.vector.now.answers c.loop-k.k c.answer.result c.answer_byte.result c.answer.ensures c.answer_byte.ensures c.in_ok-push.ensures.items c.loop-k.invariant
