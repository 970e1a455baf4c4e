use Rattle.std.proofs.Common.{◌≡◌, ◌+◌, ◌++◌, length}
use Rattle.std.specs.List.{concat}
use Rattle.needs_lines.specs.Conditions.{condition_lines}
use Rattle.needs_lines.proofs.conditions.push_all.Given as goal

abbrev pub invariant-loop-left : goal.invariant-loop-left
invariant-loop-left l = record {
  same : l.text.items ++ concat (condition_lines l.source l.vectors l.k l.left) ≡ l.fn.text.items ++ concat (condition_lines l.source l.vectors 0 l.spans);
  count : l.k + length l.left ≡ length l.spans;
}

abbrev pub decreases-loop-left : goal.decreases-loop-left
decreases-loop-left l = length l.left
