use Rattle.std.proofs.Common.{◌≡◌, ◌+◌, ◌++◌, length}
use Rattle.mc_port.specs.Lines.{bytes_of}
use Rattle.mutate_lines.specs.Lines.{AreOf}
use Rattle.mutate_lines.specs.steps.Each.{each_given}
use Rattle.mutate_lines.proofs.lines.push_each.Given as goal

abbrev pub invariant-loop-changes_left : goal.invariant-loop-changes_left
invariant-loop-changes_left l = record {
  text : bytes_of l.lines.items ++ each_given l.names l.number l.changes_left l.killers_left ≡ bytes_of l.initial.lines.items ++ each_given l.names 1 l.fn.changes l.fn.killers;
  same : length l.changes_left ≡ length l.killers_left;
  number : l.number + length l.changes_left ≡ 1 + length l.fn.changes;
  tests : AreOf (length l.names) l.killers_left;
}

abbrev pub decreases-loop-changes_left : goal.decreases-loop-changes_left
decreases-loop-changes_left l = length l.changes_left
