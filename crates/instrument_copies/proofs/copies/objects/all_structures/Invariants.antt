-- What is copied, with what is still to come, is the whole.
use Rattle.std.proofs.Common.{◌≡◌, ◌++◌, drop, map}
use Rattle.mc_typed.specs.Layout.{object_type_of}
use Rattle.instrument_copies.proofs.copies.objects.all_structures.Given as goal

abbrev pub invariant-loop-tree : goal.invariant-loop-tree
invariant-loop-tree l = map object_type_of l.copies.items ++ map object_type_of (drop l.tree-index l.trees) ≡ map object_type_of l.trees
