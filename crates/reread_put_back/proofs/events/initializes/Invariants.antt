-- What is left tells the same as all.
use Rattle.std.proofs.Common.{◌≡◌, drop, map}
use Rattle.mc_typed.specs.Views.{declarator_of}
use Rattle.mc_steps.specs.Points.{initializes}
use Rattle.reread_put_back.proofs.events.initializes.Given as goal

abbrev pub invariant-loop-declarator : goal.invariant-loop-declarator
invariant-loop-declarator l =
    initializes (map declarator_of (drop l.declarator-index l.declarators)) ≡ initializes (map declarator_of l.declarators)
