-- The values of integer constant expressions (C17 6.6), from those of their operands. There is none
-- where an evaluation traps. An operator acts on values of its type, and an operand that is none of
-- them, which a sound program does not have, gives none.
use Rattle.std.specs.Prelude.{ℤ, Bool, ◌&&◌, if◌then◌else◌, Option, Some, None, option_map, option_and_then, Result, Ok, Err}
use Rattle.mc_value.specs.declared.trap.Trap.{Trap}
use Rattle.mc_value.specs.declared.int_type.IntType.{IntType}
use Rattle.mc_value.specs.declared.operators.UnOp.{UnOp}
use Rattle.mc_value.specs.IntTypes.{in_range}
use Rattle.mc_value.specs.Conversions.{converted, is_promoted, is_zero}
use Rattle.mc_value.specs.Arithmetic.{unary_of, truth}
use Rattle.mc_typed.specs.declared.operators.Operator.{Operator}
use Rattle.mc_typed.specs.declared.operators.Operator.TheVariants.{Binary, Shift}
use Rattle.mc_typed.specs.declared.operators.LogicOperator.{LogicOperator}
use Rattle.mc_typed.specs.Operators.{operated, is_true, goes_on}
use Rattle.mc_typed.specs.Tree.{Expression}
use Rattle.mc_typed.specs.Tree as typed

abbrev pub unless_trap : Result ℤ Trap → Option ℤ
unless_trap (Ok v) = Some v
unless_trap (Err trap) = None

-- ---- operands

-- the type is promoted, and the number one of its values
abbrev pub is_operand : IntType → ℤ → Bool
is_operand a x = is_promoted a && in_range a x

-- those of a shift have each their own type (C17 6.5.7p3)
abbrev pub are_operands : Operator → IntType → ℤ → ℤ → Bool
are_operands (Binary operator) a x y = is_operand a x && is_operand a y
are_operands (Shift operator) a x y = is_operand a x

-- ---- what an operator gives for the values of its operands

abbrev pub unary_value : UnOp → IntType → Option ℤ → Option ℤ
unary_value operator a =
    option_and_then (λ x. if is_operand a x then unless_trap (unary_of operator a x) else None)

abbrev pub converted_value : IntType → Option ℤ → Option ℤ
converted_value a = option_map (converted a)

abbrev pub negated_value : Option ℤ → Option ℤ
negated_value = option_map (λ x. truth (is_zero x))

abbrev pub operated_value : Operator → IntType → ℤ → ℤ → Option ℤ
operated_value operator a x y =
    if are_operands operator a x y then unless_trap (operated operator a x y) else None

abbrev pub binary_value : Operator → IntType → Option ℤ → Option ℤ → Option ℤ
binary_value operator a x y =
    option_and_then (λ x. option_and_then (operated_value operator a x) y) x

abbrev pub truth_value : Option ℤ → Option ℤ
truth_value = option_map (λ x. truth (is_true x))

-- An operand that is not evaluated makes nothing trap (C17 6.5.13p4, 6.5.14p4, 6.5.15p4).
abbrev pub logic_value : LogicOperator → Option ℤ → Option ℤ → Option ℤ
logic_value operator x y =
    option_and_then
    (λ x. if goes_on operator (is_true x) then truth_value y else Some (truth (is_true x))) x

abbrev pub choice_value : Option ℤ → Option ℤ → Option ℤ → Option ℤ
choice_value x y z = option_and_then (λ x. if is_true x then y else z) x

-- ---- the value of an expression, which has one where its operands are constants

abbrev pub constant_value : Expression → Option ℤ
constant_value (typed.Constant v a span) = Some v
constant_value (typed.Read place a) = None
constant_value (typed.Unary operator a e span) = unary_value operator a (constant_value e)
constant_value (typed.Convert a written e span) = converted_value a (constant_value e)
constant_value (typed.Not e span) = negated_value (constant_value e)
constant_value (typed.Binary operator a e f span) =
    binary_value operator a (constant_value e) (constant_value f)
constant_value (typed.Logic operator e f span) =
    logic_value operator (constant_value e) (constant_value f)
constant_value (typed.Choice e f g a span) =
    choice_value (constant_value e) (constant_value f) (constant_value g)
constant_value (typed.Call k a) = None
constant_value (typed.Input span) = None
