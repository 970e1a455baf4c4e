use Rattle.std.proofs.Common.{◌≡◌, length}
use Rattle.mc_oblige.specs.steps.Table.{AreLeast}
use Rattle.mc_oblige.proofs.table.least_tests.Given as goal

abbrev pub invariant-loop-bit : goal.invariant-loop-bit
invariant-loop-bit l = record { count : length l.tests.items ≡ l.bit; each : AreLeast l.matrix 0 l.tests.items }
