-- What is copied, with what is still to come, is the whole.
use Rattle.std.proofs.Common.{◌≡◌, ◌++◌, drop, map}
use Rattle.mc_tree.specs.Units.{initializer_of}
use Rattle.reread_plain_tree.specs.Unprobed.{unprobed_initializer}
use Rattle.reread_plain_tree.proofs.copies.declarations.+copy.Given as goal

abbrev pub invariant-initializers-loop-tree : goal.invariant-initializers-loop-tree
invariant-initializers-loop-tree l = map initializer_of l.copies.items ++ map (λ a. unprobed_initializer (initializer_of a)) (drop l.tree-index l.trees) ≡ map (λ a. unprobed_initializer (initializer_of a)) l.trees
