use Rattle.std.proofs.Common.{◌≡◌, ◌++◌, length, map}
use Rattle.mc_meaning.specs.Seen.{told_of}
use Rattle.mc_report.specs.Lines.{run_lines}
use Rattle.mc_report.specs.Seen.{bytes_of}
use Rattle.mc_report.proofs.test_lines.push_runs.Given as goal

abbrev pub invariant-loop-names_left : goal.invariant-loop-names_left
invariant-loop-names_left l = record {
  same : bytes_of l.lines.items ++ run_lines l.names_left l.states_left (map told_of l.runs_left) ≡ bytes_of l.initial.lines.items ++ run_lines l.fn.names l.fn.states (map told_of l.fn.runs);
  states : length l.states_left ≡ length l.names_left;
  runs : length l.runs_left ≡ length l.names_left;
}

abbrev pub decreases-loop-names_left : goal.decreases-loop-names_left
decreases-loop-names_left l = length l.names_left
