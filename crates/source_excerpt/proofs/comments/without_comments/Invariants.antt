use Rattle.std.proofs.Common.{◌≡◌, ◌++◌, length}
use Rattle.source_excerpt.specs.Comments.{without_comments}
use Rattle.source_excerpt.specs.steps.Modes.{code_rest}
use Rattle.source_excerpt.proofs.comments.without_comments.Given as goal

abbrev pub invariant-loop-left : goal.invariant-loop-left
invariant-loop-left l = l.text.items ++ code_rest l.mode l.left ≡ without_comments l.fn.bytes

abbrev pub decreases-loop-left : goal.decreases-loop-left
decreases-loop-left l = length l.left
