-- What is copied, with what is still to come, is the whole.
use Rattle.std.proofs.Common.{◌≡◌, ◌++◌, drop, map}
use Rattle.mc_typed.specs.Views as plain
use Rattle.instrument_copies.proofs.copies.functions.local_objects.Given as goal

abbrev pub invariant-loop-tree : goal.invariant-loop-tree
invariant-loop-tree l = map plain.object_of l.copies.items ++ map plain.object_of (drop l.tree-index l.trees) ≡ map plain.object_of l.trees
