-- How assignments make their effects (C17 6.5.16).
use Rattle.std.specs.Prelude.{ℕ, Bool, false, ◌||◌, List, map, Option, Some, option_map, option_and_then}
use Rattle.mc_span.specs.declared.span.Span.{Span}
use Rattle.mc_value.specs.declared.int_type.IntType.{IntType}
use Rattle.mc_value.specs.Conversions.{promoted, common_of}
use Rattle.mc_typed.specs.declared.operators.Operator.{Operator}
use Rattle.mc_typed.specs.declared.operators.Operator.TheVariants.{Binary, Shift}
use Rattle.mc_typed.specs.Sound.{type_of}
use Rattle.mc_typed.specs.Tree.{Effect, Expression, Place}
use Rattle.mc_typed.specs.Tree as typed
use Rattle.types_faults.specs.declared.fault.FaultKind.TheVariants.{Mismatch}
use Rattle.types_faults.specs.Faults.{fault_if}
use Rattle.types_rules.specs.Types.{Base}
use Rattle.types_rules.specs.Values.{Value, Kind, Found, kind_of, kind_found, fails, is_integer, judged_two, part, found}
use Rattle.types_rules.specs.Expressions.{convert_to, is_assigned, target_fails, sides_fail, update_of, assign_effect, update_effect, assignment_value}
use Rattle.types_scopes.specs.Views.{structure_of}
use Rattle.types_expressions.specs.declared.making.Making.{Making}
use Rattle.types_expressions.specs.declared.making.Making.TheVariants as making

-- the type that an operator works in, and the type of its right side
abbrev pub working_type : Operator → IntType → IntType → IntType
working_type (Binary operator) a b = common_of a b
working_type (Shift operator) a b = promoted a

abbrev pub value_type : Operator → IntType → IntType → IntType
value_type (Binary operator) a b = common_of a b
value_type (Shift operator) a b = promoted b

-- an operator on an object of an integer type
abbrev pub updated : Operator → Place → IntType → Expression → Span → Effect
updated operator place a e span =
    let b = type_of e in
    typed.Update place a operator (working_type operator a b)
    (convert_to (value_type operator a b) e)
    span

-- the effect on an object of an integer type
abbrev pub number_by : Making → Place → IntType → Span → Option Expression → Option Effect
number_by (making.Assign structures) place a span =
    option_map (λ e. typed.Assign place a (convert_to a e) span)
number_by (making.Update operator) place a span =
    option_and_then (λ e. update_of operator place a e span)

abbrev pub made_by : Making → Span → Value → Place → Base → List ℕ → Option Effect
made_by (making.Assign structures) span = assign_effect (map structure_of structures.now) span
made_by (making.Update operator) span = update_effect operator span

-- whether the sides cannot stand in it
abbrev pub fails_by : Making → Bool → Option Value → Option Kind → Bool
fails_by (making.Assign structures) place v l =
    target_fails is_assigned place v || sides_fail (option_map kind_of v) l
fails_by (making.Update operator) place v l =
    target_fails is_integer place v || fails is_integer l

abbrev pub found_by : Making → Span → Found → Found → Found
found_by m span x y =
    found false false
    (judged_two (fault_if (fails_by m x.place x.value (kind_found y)) Mismatch span.start)
    (assignment_value (made_by m span) x.value y.value) (part x) (part y))
