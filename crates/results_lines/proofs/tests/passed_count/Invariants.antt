use Rattle.std.proofs.Common.{◌≡◌, ◌+◌, ◌≤◌, length, map}
use Rattle.std.specs.Prelude.{count_by}
use Rattle.interp_trail.specs.Seen.{trace_of}
use Rattle.results_lines.specs.Tests.{passed, states_of}
use Rattle.results_lines.proofs.tests.passed_count.Given as goal

abbrev pub invariant-loop-left : goal.invariant-loop-left
invariant-loop-left l = record {
  same : l.count + count_by passed (states_of (map trace_of l.left)) ≡ count_by passed (states_of (map trace_of l.fn.traces));
  few : l.count + length l.left ≤ length l.fn.traces;
}

abbrev pub decreases-loop-left : goal.decreases-loop-left
decreases-loop-left l = length l.left
