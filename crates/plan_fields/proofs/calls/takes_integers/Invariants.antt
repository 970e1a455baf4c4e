use Rattle.std.proofs.Common.{◌≡◌, map, length}
use Rattle.mc_typed.specs.Views.{parameter_of}
use Rattle.plan_fields.specs.Calls.{takes_integers}
use Rattle.plan_fields.proofs.calls.takes_integers.Given as goal

abbrev pub invariant-loop-left : goal.invariant-loop-left
invariant-loop-left l = takes_integers (map parameter_of l.left) ≡ takes_integers (map parameter_of l.fn.parameters)

abbrev pub decreases-loop-left : goal.decreases-loop-left
decreases-loop-left l = length l.left
