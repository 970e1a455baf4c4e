use Rattle.std.proofs.Common.{◌≡◌, ◌-◌}
use Rattle.mc_record.specs.Digits.{words_in}
use Rattle.mc_record.specs.Seen.{onto}
use Rattle.mc_record.proofs.bits.read_words.Given as goal

abbrev pub invariant-loop-place : goal.invariant-loop-place
invariant-loop-place l = onto l.fn.words.items (words_in l.count l.fn.text) ≡ onto l.words.items (words_in (l.count - l._place) l.left)
