use Rattle.std.proofs.Common.{◌≡◌, ◌++◌, length}
use Rattle.mc_functions.specs.Asked.{asked_from, asked_in}
use Rattle.mc_functions.specs.Seen.{measured_of}
use Rattle.mc_functions.proofs.asking.asked.Given as goal

abbrev pub invariant-loop-obligations : goal.invariant-loop-obligations
invariant-loop-obligations l = record {
  same : l.found.items ++ asked_from (measured_of l.measured) l.obligations l.verdicts ≡ asked_in (measured_of l.measured);
  each : length l.verdicts ≡ length l.obligations;
}

abbrev pub decreases-loop-obligations : goal.decreases-loop-obligations
decreases-loop-obligations l = length l.obligations
