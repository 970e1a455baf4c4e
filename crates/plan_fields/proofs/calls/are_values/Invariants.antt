use Rattle.std.proofs.Common.{◌≡◌, map, length}
use Rattle.mc_typed.specs.Views.{parameter_of}
use Rattle.plan_fields.specs.Calls.{are_values, integer_types}
use Rattle.plan_fields.proofs.calls.are_values.Given as goal

abbrev pub invariant-loop-left : goal.invariant-loop-left
invariant-loop-left l = are_values l.values (integer_types (map parameter_of l.left)) ≡ are_values l.fn.arguments (integer_types (map parameter_of l.fn.parameters))

abbrev pub decreases-loop-left : goal.decreases-loop-left
decreases-loop-left l = length l.left
