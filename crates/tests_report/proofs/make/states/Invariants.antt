use Rattle.std.proofs.Common.{◌≡◌, length}
use Rattle.tests_report.proofs.make.states.Given as goal

abbrev pub invariant-loop-test : goal.invariant-loop-test
invariant-loop-test l = length l.all.items ≡ l.test-index
