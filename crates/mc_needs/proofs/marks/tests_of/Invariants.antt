use Rattle.mc_probe.specs.BitMaps.{map_of}
use Rattle.mc_needs.proofs.Marking.{AreTestsBelow}
use Rattle.mc_needs.proofs.marks.tests_of.Given as goal

abbrev pub invariant-loop-path : goal.invariant-loop-path
invariant-loop-path l = AreTestsBelow (map_of l.map) l.evaluated l.path-index l.tests.items
