-- What is copied, with what is still to come, is the whole.
use Rattle.std.proofs.Common.{◌≡◌, ◌++◌, drop, map}
use Rattle.mc_typed.specs.Views as plain
use Rattle.mc_probe.specs.Views as probed
use Rattle.mc_probe.specs.Bare.{bare_function}
use Rattle.instrument_copies.proofs.copies.functions.all_functions.Given as goal

abbrev pub invariant-loop-tree : goal.invariant-loop-tree
invariant-loop-tree l = map probed.function_of l.copies.items ++ map bare_function (map plain.function_of (drop l.tree-index l.trees)) ≡ map bare_function (map plain.function_of l.trees)
