use Rattle.std.proofs.Common.{◌≡◌, ◌++◌, length}
use Rattle.results_lines.specs.Statements.{to_line_end}
use Rattle.results_lines.proofs.statement.push_to_line_end.Given as goal

abbrev pub invariant-loop-left : goal.invariant-loop-left
invariant-loop-left l = l.text.items ++ to_line_end l.left ≡ l.initial.text.items ++ to_line_end l.fn.bytes

abbrev pub decreases-loop-left : goal.decreases-loop-left
decreases-loop-left l = length l.left
