use Rattle.std.proofs.Common.{◌≡◌, ◌++◌, length}
use Rattle.std.specs.Prelude.{flat_map}
use Rattle.told_lines.specs.Values.{number_text}
use Rattle.told_lines.proofs.values.push_output.Given as goal

abbrev pub invariant-loop-left : goal.invariant-loop-left
invariant-loop-left l = l.line.items ++ flat_map number_text l.left ≡ l.initial.line.items ++ flat_map number_text l.fn.output

abbrev pub decreases-loop-left : goal.decreases-loop-left
decreases-loop-left l = length l.left
