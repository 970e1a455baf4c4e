use Rattle.std.proofs.Common.{◌≡◌, ◌+◌, ◌*◌, ◌++◌, length}
use Rattle.std.specs.Prelude.{flat_map}
use Rattle.arrayvec.specs.ArrayVec.{array_vec_len}
use Rattle.mc_record.specs.Lines.{word_text}
use Rattle.mc_record.proofs.lines.push_words.Given as goal

abbrev pub invariant-loop-left : goal.invariant-loop-left
invariant-loop-left l = record {
  items : l.line.items ++ flat_map word_text l.left ≡ l.initial.line.items ++ flat_map word_text l.fn.words;
  room : array_vec_len l.line + 17 * length l.left ≡ array_vec_len l.initial.line + 17 * length l.fn.words;
}

abbrev pub decreases-loop-left : goal.decreases-loop-left
decreases-loop-left l = length l.left
