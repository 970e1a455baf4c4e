use Rattle.mc_places.specs.steps.Starts.{AreStarts}
use Rattle.mc_places.proofs.starts.line_starts.Given as goal

abbrev pub invariant-loop-at : goal.invariant-loop-at
invariant-loop-at l = AreStarts l.source l.at l.starts.items
