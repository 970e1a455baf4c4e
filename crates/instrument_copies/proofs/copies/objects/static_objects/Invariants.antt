-- What is copied, with what is still to come, is the whole.
use Rattle.std.proofs.Common.{◌≡◌, ◌++◌, drop, map}
use Rattle.mc_typed.specs.Views as plain
use Rattle.instrument_copies.proofs.copies.objects.static_objects.Given as goal

abbrev pub invariant-loop-tree : goal.invariant-loop-tree
invariant-loop-tree l = map plain.static_of l.copies.items ++ map plain.static_of (drop l.tree-index l.trees) ≡ map plain.static_of l.trees
