use Rattle.std.proofs.Common.{◌≡◌, ◌++◌, map, drop}
use Rattle.mc_typed.specs.Views as views
use Rattle.types_rules.specs.Typing as ty
use Rattle.types_scopes.specs.Types.{kind_of}
use Rattle.types_scopes.specs.Views.{structure_of}
use Rattle.types_declarations.proofs.definitions.add_parameter_types.Given as goal

abbrev pub invariant-loop-kind : goal.invariant-loop-kind
invariant-loop-kind l =
    map views.parameter_of l.types.items
    ++ map (ty.parameter_type (map structure_of l.structures)) (map kind_of (drop l.kind-index l.kinds))
    ≡ map (ty.parameter_type (map structure_of l.structures)) (map kind_of l.kinds)
