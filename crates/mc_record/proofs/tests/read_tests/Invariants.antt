use Rattle.std.proofs.Common.{◌≡◌, ◌-◌, [], length}
use Rattle.mc_record.specs.Seen.{AreSeen}
use Rattle.mc_record.specs.Tests.{tests_in}
use Rattle.mc_record.proofs.tests.read_tests.Given as goal

abbrev pub invariant-loop-test : goal.invariant-loop-test
invariant-loop-test l = record {
  seen : AreSeen l.names.items l.seen;
  many : length l.names.items ≡ l._test;
  left : tests_in [] [] l.tests l.fn.text ≡ tests_in l.names.items l.states.items (l.tests - l._test) l.left;
}
