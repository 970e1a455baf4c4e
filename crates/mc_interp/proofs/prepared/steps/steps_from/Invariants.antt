use Rattle.std.proofs.Common.{◌≡◌, ◌++◌, drop, map}
use Rattle.mc_probe.specs.Views as view
use Rattle.mc_interp.specs.Views.{effect_of}
use Rattle.mc_interp.proofs.prepared.steps.steps_from.Given as goal

-- the steps so far, with those that are still to come, are all
abbrev pub invariant-loop-tree : goal.invariant-loop-tree
invariant-loop-tree l =
    map effect_of l.made.items ++ map view.effect_of (drop l.tree-index l.trees) ≡ map view.effect_of l.trees
