use Rattle.mc_needs.specs.steps.Due.{AreDue}
use Rattle.mc_needs.proofs.due.asked_outcomes.Given as goal

abbrev pub invariant-loop-at : goal.invariant-loop-at
invariant-loop-at l = AreDue l.decisions l.at l.obligations l.asked l.due.items
