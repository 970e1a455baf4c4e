use Rattle.std.proofs.Common.{◌≡◌, ◌++◌, length}
use Rattle.needs_lines.specs.Conditions.{values_text}
use Rattle.needs_lines.proofs.conditions.push_values.Given as goal

abbrev pub invariant-loop-left : goal.invariant-loop-left
invariant-loop-left l = l.line.items ++ values_text l.left l.k ≡ l.fn.line.items ++ values_text l.vectors l.k

abbrev pub decreases-loop-left : goal.decreases-loop-left
decreases-loop-left l = length l.left
