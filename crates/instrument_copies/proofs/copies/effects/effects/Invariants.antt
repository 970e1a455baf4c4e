-- What is copied, with what is still to come, is the whole.
use Rattle.std.proofs.Common.{◌≡◌, ◌++◌, drop, map}
use Rattle.mc_typed.specs.Views as plain
use Rattle.mc_probe.specs.Views as probed
use Rattle.mc_probe.specs.Bare.{bare_effect}
use Rattle.instrument_copies.proofs.copies.effects.effects.Given as goal

abbrev pub invariant-loop-tree : goal.invariant-loop-tree
invariant-loop-tree l = map probed.effect_of l.copies.items ++ map bare_effect (map plain.effect_of (drop l.tree-index l.trees)) ≡ map bare_effect (map plain.effect_of l.trees)
