-- What is copied, with what is still to come, is the whole.
use Rattle.std.proofs.Common.{◌≡◌, ◌++◌, drop, map}
use Rattle.mc_typed.specs.Views as plain
use Rattle.instrument_copies.proofs.copies.functions.parameters.Given as goal

abbrev pub invariant-loop-tree : goal.invariant-loop-tree
invariant-loop-tree l = map plain.parameter_of l.copies.items ++ map plain.parameter_of (drop l.tree-index l.trees) ≡ map plain.parameter_of l.trees
