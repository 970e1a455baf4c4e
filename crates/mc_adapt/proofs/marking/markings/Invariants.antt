use Rattle.std.proofs.Common.{◌≡◌, ◌++◌, length}
use Rattle.adapt_tokens.specs.Seen.{parts_of}
use Rattle.mc_adapt.specs.States.{start}
use Rattle.mc_adapt.specs.Marks.{markings}
use Rattle.mc_adapt.specs.Seen.{markings_of}
use Rattle.mc_adapt.proofs.marking.markings.Given as goal

abbrev pub invariant-loop-left : goal.invariant-loop-left
invariant-loop-left l = markings_of l.found.items ++ markings l.state (parts_of l.left) ≡ markings start (parts_of l.pieces)

abbrev pub decreases-loop-left : goal.decreases-loop-left
decreases-loop-left l = length l.left
