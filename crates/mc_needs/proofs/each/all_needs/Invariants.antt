use Rattle.mc_probe.specs.BitMaps.{map_of}
use Rattle.mc_needs.proofs.Needing.{HaveNeeds}
use Rattle.mc_needs.specs.steps.Each.{IsNeedBy}
use Rattle.mc_needs.proofs.each.all_needs.Given as goal

abbrev pub invariant-loop-at : goal.invariant-loop-at
invariant-loop-at l = HaveNeeds (IsNeedBy (map_of l.map) l.mode l.tests l.marks) l.at l.obligations l.asked l.each.items
