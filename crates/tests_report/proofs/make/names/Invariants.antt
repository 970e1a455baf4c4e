use Rattle.std.proofs.Common.{◌≡◌, length}
use Rattle.std.specs.Prelude.{All, IsUtf8}
use Rattle.tests_report.proofs.make.names.Given as goal

abbrev pub invariant-loop-test : goal.invariant-loop-test
invariant-loop-test l = record {
  count : length l.all.items ≡ l.test;
  text : All IsUtf8 l.all.items;
}
