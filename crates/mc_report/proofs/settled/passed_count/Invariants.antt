use Rattle.std.proofs.Common.{◌≡◌, ◌≤◌, take}
use Rattle.std.specs.Prelude.{count_by}
use Rattle.mc_report.specs.Status.{passed}
use Rattle.mc_report.proofs.settled.passed_count.Given as goal

abbrev pub invariant-loop-state : goal.invariant-loop-state
invariant-loop-state l = record {
  same : l.count ≡ count_by passed (take l.state-index l.states);
  few : l.count ≤ l.state-index;
}
