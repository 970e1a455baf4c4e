use Rattle.std.proofs.Common.{◌≡◌, ◌++◌, ◌-◌}
use Rattle.std.specs.Prelude.{codes}
use Rattle.std.specs.List.{flat_map, range_with_len}
use Rattle.mc_gen.specs.Tests.{lines_of}
use Rattle.mc_gen.proofs.test_lines.tests.Given as goal

abbrev pub invariant-loop-function : goal.invariant-loop-function
invariant-loop-function l = l.text.items ≡ codes "test,call,arguments,inputs,expect,output\n" ++ flat_map lines_of (range_with_len 1 (l.function - 1))
