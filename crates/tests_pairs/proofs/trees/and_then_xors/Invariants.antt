use Rattle.std.proofs.Common.{◌≡◌}
use Rattle.mc_cond.specs.Tree.{tree_of, size, IsNumberedFrom}
use Rattle.tests_pairs.proofs.trees.and_then_xors.Given as goal

abbrev pub invariant-loop-at : goal.invariant-loop-at
invariant-loop-at l = (IsNumberedFrom 1 (tree_of l.right)) × (size (tree_of l.right) ≡ l.at)
