use Rattle.std.proofs.Common.{◌≡◌, ◌+◌, length}
use Rattle.mc_functions.specs.Standing.{function_from, function_of}
use Rattle.mc_functions.proofs.functions.function_of.Given as goal

abbrev pub invariant-loop-left : goal.invariant-loop-left
invariant-loop-left l = record {
  same : function_from l.found l.number l.at l.left ≡ function_of l.names l.at;
  count : l.number + length l.left ≡ length l.names;
}

abbrev pub decreases-loop-left : goal.decreases-loop-left
decreases-loop-left l = length l.left
