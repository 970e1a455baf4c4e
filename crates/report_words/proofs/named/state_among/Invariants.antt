use Rattle.std.proofs.Common.{◌≡◌, length}
use Rattle.report_words.specs.Named.{state_among}
use Rattle.report_words.proofs.named.state_among.Given as goal

abbrev pub invariant-loop-left : goal.invariant-loop-left
invariant-loop-left l = state_among l.states l.word ≡ state_among l.left l.word

abbrev pub decreases-loop-left : goal.decreases-loop-left
decreases-loop-left l = length l.left
