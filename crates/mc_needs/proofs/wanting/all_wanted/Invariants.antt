use Rattle.std.proofs.Common.{length}
use Rattle.mc_probe.specs.BitMaps.{map_of}
use Rattle.mc_needs.specs.steps.Marks.{IsMarkedIn}
use Rattle.mc_needs.specs.steps.State.{Fits, AreReady, Leads}
use Rattle.mc_needs.proofs.wanting.all_wanted.Given as goal

abbrev pub invariant-loop-left : goal.invariant-loop-left
invariant-loop-left l = let m = map_of l.fn.map in let seen = IsMarkedIn m l.fn.marks.items in record {
  fits : Fits seen m l.fn.mode l.fn.asked l.listing;
  ready : AreReady m l.fn.asked l.left;
  leads : Leads seen m l.fn.mode l.fn.asked l.listing.wanted.items l.left;
}

abbrev pub decreases-loop-left : goal.decreases-loop-left
decreases-loop-left l = length l.left
