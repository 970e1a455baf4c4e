use Rattle.mc_probe.specs.BitMaps.{map_of}
use Rattle.mc_oblige.specs.Shown.{HasEvent}
use Rattle.mc_oblige.specs.steps.Found.{AreEvidence}
use Rattle.mc_oblige.proofs.Judged.{so_far}
use Rattle.mc_oblige.proofs.evidence.all_evidence.Given as goal

abbrev pub invariant-loop-mapped : goal.invariant-loop-mapped
invariant-loop-mapped l =
    let m = map_of l.map in AreEvidence (HasEvent m l.matrix) m l.mode (so_far m l.matrix l.mode l.mapped-index) l.found.items
