use Rattle.std.proofs.Common.{◌≡◌, ◌+◌, ◌*◌, ◌++◌, length}
use Rattle.arrayvec.specs.ArrayVec.{array_vec_len}
use Rattle.report_words.specs.Hexadecimal.{hexadecimal}
use Rattle.mc_record.proofs.line.push_digits.Given as goal

abbrev pub invariant-loop-left : goal.invariant-loop-left
invariant-loop-left l = record {
  items : l.line.items ++ hexadecimal l.left ≡ l.initial.line.items ++ hexadecimal l.fn.bytes;
  room : array_vec_len l.line + 2 * length l.left ≡ array_vec_len l.initial.line + 2 * length l.fn.bytes;
}

abbrev pub decreases-loop-left : goal.decreases-loop-left
decreases-loop-left l = length l.left
