use Rattle.std.proofs.Common.{◌≡◌, ◌++◌, length}
use Rattle.mc_report.specs.Lines.{kept_lines}
use Rattle.mc_report.specs.Seen.{bytes_of}
use Rattle.mc_report.proofs.test_lines.push_all_kept.Given as goal

abbrev pub invariant-loop-names_left : goal.invariant-loop-names_left
invariant-loop-names_left l = record {
  same : bytes_of l.lines.items ++ kept_lines l.names_left l.states_left ≡ bytes_of l.initial.lines.items ++ kept_lines l.fn.names l.fn.states;
  states : length l.states_left ≡ length l.names_left;
}

abbrev pub decreases-loop-names_left : goal.decreases-loop-names_left
decreases-loop-names_left l = length l.names_left
