use Rattle.std.proofs.Common.{◌≡◌, ◌++◌}
use Rattle.std.specs.List.{flat_map, range_with_len}
use Rattle.mc_gen.specs.Tests.{test_line}
use Rattle.mc_gen.proofs.test_lines.push_tests.Given as goal

abbrev pub invariant-loop-test : goal.invariant-loop-test
invariant-loop-test l = l.text.items ≡ l.initial.text.items ++ flat_map (test_line l.function) (range_with_len 0 l.test)
