use Rattle.std.proofs.Common.{◌≡◌, ◌+◌, ◌≤◌, length}
use Rattle.mc_functions.specs.Counts.{counted}
use Rattle.mc_functions.specs.Measured.{is_counted}
use Rattle.mc_functions.specs.Seen.{measured_of}
use Rattle.mc_functions.proofs.measured.Measured.counted.Given as goal

abbrev pub invariant-loop-obligations : goal.invariant-loop-obligations
invariant-loop-obligations l = record {
  same : l.count + counted (is_counted (measured_of l.self)) l.state l.obligations l.verdicts ≡ counted (is_counted (measured_of l.self)) l.state l.self.obligations.now l.self.verdicts.now;
  each : length l.verdicts ≡ length l.obligations;
  few : l.count + length l.obligations ≤ length l.self.obligations.now;
}

abbrev pub decreases-loop-obligations : goal.decreases-loop-obligations
decreases-loop-obligations l = length l.obligations
