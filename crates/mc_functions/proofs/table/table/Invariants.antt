use Rattle.std.proofs.Common.{◌≡◌, length}
use Rattle.mc_functions.specs.Seen.{measured_of}
use Rattle.mc_functions.proofs.Rows.{IsAt}
use Rattle.mc_functions.proofs.table.table.Given as goal

abbrev pub invariant-loop-obligations : goal.invariant-loop-obligations
invariant-loop-obligations l = record {
  same : length l.verdicts ≡ length l.obligations;
  at : IsAt (measured_of l.measured) l.rows.items l.obligations l.verdicts;
}

abbrev pub decreases-loop-obligations : goal.decreases-loop-obligations
decreases-loop-obligations l = length l.obligations
