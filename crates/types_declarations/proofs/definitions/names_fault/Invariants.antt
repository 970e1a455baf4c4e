-- The first fault so far, and those still to come.
use Rattle.std.proofs.Common.{◌≡◌, ◌++◌, map, length}
use Rattle.mc_tree.specs.Views.{parameter_of, parameters_from}
use Rattle.types_faults.specs.Faults.{least_of}
use Rattle.types_rules.specs.Typing.{list_names_faults}
use Rattle.types_faults.specs.Kept.{listed}
use Rattle.types_declarations.proofs.definitions.names_fault.Given as goal

abbrev pub invariant-loop-left : goal.invariant-loop-left
invariant-loop-left l =
    least_of (listed l.fault ++ list_names_faults (parameters_from (map parameter_of l.left)))
    ≡ least_of (list_names_faults (parameters_from (map parameter_of l.fn.parameters)))

abbrev pub decreases-loop-left : goal.decreases-loop-left
decreases-loop-left l = length l.left
