use Rattle.std.proofs.Common.{◌≡◌, ◌++◌, map, take}
use Rattle.evidence_texts.specs.Words.{answer_byte}
use Rattle.evidence_texts.proofs.vector.push_answers.Given as goal

abbrev pub invariant-loop-k : goal.invariant-loop-k
invariant-loop-k l = l.line.items ≡ l.initial.line.items ++ map answer_byte (take l.k l.vector.answers)
