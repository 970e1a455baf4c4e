use Rattle.std.proofs.Common.{◌≡◌, ◌++◌, length}
use Rattle.report_words.specs.Hexadecimal.{hexadecimal}
use Rattle.report_words.proofs.hexadecimal.push_hexadecimal.Given as goal

abbrev pub invariant-loop-left : goal.invariant-loop-left
invariant-loop-left l = l.line.items ++ hexadecimal l.left ≡ l.initial.line.items ++ hexadecimal l.fn.bytes

abbrev pub decreases-loop-left : goal.decreases-loop-left
decreases-loop-left l = length l.left
