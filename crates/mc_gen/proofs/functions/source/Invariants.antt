use Rattle.std.proofs.Common.{◌≡◌, ◌-◌}
use Rattle.std.specs.List.{flat_map, range_with_len}
use Rattle.mc_gen.specs.Source.{function_line}
use Rattle.mc_gen.proofs.functions.source.Given as goal

abbrev pub invariant-loop-number : goal.invariant-loop-number
invariant-loop-number l = l.text.items ≡ flat_map function_line (range_with_len 1 (l.number - 1))
