use Rattle.mc_probe.specs.BitMaps.{map_of}
use Rattle.mc_oblige.specs.Shown.{HasEvent}
use Rattle.mc_oblige.specs.steps.Tested.{AreTestedBelow}
use Rattle.mc_oblige.proofs.evaluated.evaluated_paths.Given as goal

abbrev pub invariant-loop-d : goal.invariant-loop-d
invariant-loop-d l = let m = map_of l.map in AreTestedBelow (HasEvent m l.matrix) m l.d 0 l.found.items
