use Rattle.std.proofs.Common.{◌≡◌, ◌+◌, ◌≤◌, length}
use Rattle.mc_report.specs.Counts.{counted}
use Rattle.mc_report.proofs.counts.counted.Given as goal

abbrev pub invariant-loop-obligations_left : goal.invariant-loop-obligations_left
invariant-loop-obligations_left l = record {
  same : l.count + counted l.kind l.state l.obligations_left l.verdicts_left ≡ counted l.kind l.state l.fn.obligations l.fn.verdicts;
  each : length l.verdicts_left ≡ length l.obligations_left;
  few : l.count + length l.obligations_left ≤ length l.fn.obligations;
}

abbrev pub decreases-loop-obligations_left : goal.decreases-loop-obligations_left
decreases-loop-obligations_left l = length l.obligations_left
