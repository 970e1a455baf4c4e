use Rattle.std.proofs.Common.{◌+◌, ◌*◌, max}
use Rattle.mc_interp.specs.declared.prepared.questions.Question.{size-Question}
use Rattle.mc_interp.proofs.asked.+answers.Given as goal

-- the depth of what is asked; a question hands its operands on before one of them is asked
abbrev pub decreases-answer : goal.decreases-answer
decreases-answer l = size-Question l.question.now * 2

abbrev pub decreases-negated : goal.decreases-negated
decreases-negated l = size-Question l.operand.now * 2 + 1

abbrev pub decreases-joined : goal.decreases-joined
decreases-joined l = max (size-Question l.left.now) (size-Question l.right.now) * 2 + 1
