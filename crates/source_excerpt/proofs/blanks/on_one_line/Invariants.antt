use Rattle.std.proofs.Common.{◌≡◌, ◌++◌, length}
use Rattle.source_excerpt.specs.Blanks.{on_one_line}
use Rattle.source_excerpt.specs.steps.Modes.{text_rest}
use Rattle.source_excerpt.proofs.blanks.on_one_line.Given as goal

abbrev pub invariant-loop-left : goal.invariant-loop-left
invariant-loop-left l = l.text.items ++ text_rest l.before l.left ≡ on_one_line l.fn.bytes

abbrev pub decreases-loop-left : goal.decreases-loop-left
decreases-loop-left l = length l.left
