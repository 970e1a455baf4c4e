-- What is copied, with what is still to come, is the whole.
use Rattle.std.proofs.Common.{◌≡◌, ◌++◌, drop, map}
use Rattle.mc_typed.specs.Views as plain
use Rattle.mc_probe.specs.Views as probed
use Rattle.mc_probe.specs.Bare.{bare_argument}
use Rattle.instrument_copies.proofs.copies.expressions.+copy.Given as goal

abbrev pub invariant-arguments-loop-tree : goal.invariant-arguments-loop-tree
invariant-arguments-loop-tree l = map probed.argument_of l.copies.items ++ map (λ a. bare_argument (plain.argument_of a)) (drop l.tree-index l.trees) ≡ map (λ a. bare_argument (plain.argument_of a)) l.trees
