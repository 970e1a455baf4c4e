use Rattle.std.proofs.Common.{◌≡◌, length}
use Rattle.mutate_lines.specs.Killers.{AreKillers, IsRecorded}
use Rattle.mutate_lines.proofs.search.killers.Given as goal

abbrev pub invariant-loop-mutant : goal.invariant-loop-mutant
invariant-loop-mutant l = record {
  each : AreKillers (IsRecorded l.matrix l.tests) l.tests 0 l.all.items;
  count : length l.all.items ≡ l.mutant;
}
