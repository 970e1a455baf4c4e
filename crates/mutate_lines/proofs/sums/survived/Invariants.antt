use Rattle.std.proofs.Common.{◌≡◌, ◌≤◌, ◌+◌, length}
use Rattle.mutate_lines.specs.Lines.{survived_of}
use Rattle.mutate_lines.proofs.sums.survived.Given as goal

abbrev pub invariant-loop-left : goal.invariant-loop-left
invariant-loop-left l = record {
  same : l.count + survived_of l.left ≡ survived_of l.fn.killers;
  room : l.count + length l.left ≤ length l.fn.killers;
}

abbrev pub decreases-loop-left : goal.decreases-loop-left
decreases-loop-left l = length l.left
