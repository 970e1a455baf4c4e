use Rattle.mc_report.specs.steps.Starts.{AreStarts}
use Rattle.mc_report.proofs.places.line_starts.Given as goal

abbrev pub invariant-loop-at : goal.invariant-loop-at
invariant-loop-at l = AreStarts l.source l.at l.starts.items
