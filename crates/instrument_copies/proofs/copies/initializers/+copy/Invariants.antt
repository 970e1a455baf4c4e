-- What is copied, with what is still to come, is the whole.
use Rattle.std.proofs.Common.{◌≡◌, ◌++◌, drop, map}
use Rattle.mc_typed.specs.Views as plain
use Rattle.mc_probe.specs.Views as probed
use Rattle.mc_probe.specs.Bare.{bare_initializer}
use Rattle.instrument_copies.proofs.copies.initializers.+copy.Given as goal

abbrev pub invariant-initializers-loop-tree : goal.invariant-initializers-loop-tree
invariant-initializers-loop-tree l = map probed.initializer_of l.copies.items ++ map (λ a. bare_initializer (plain.initializer_of a)) (drop l.tree-index l.trees) ≡ map (λ a. bare_initializer (plain.initializer_of a)) l.trees
