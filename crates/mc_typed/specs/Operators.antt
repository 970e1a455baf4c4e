-- What operators give for numbers, and when a number is true.
use Rattle.std.specs.Prelude.{ℤ, Bool, not, Result}
use Rattle.mc_value.specs.declared.trap.Trap.{Trap}
use Rattle.mc_value.specs.declared.int_type.IntType.{IntType}
use Rattle.mc_value.specs.Conversions.{is_zero}
use Rattle.mc_value.specs.Arithmetic.{binary_of}
use Rattle.mc_value.specs.Shifts.{shift_of}
use Rattle.mc_typed.specs.declared.operators.Operator.{Operator}
use Rattle.mc_typed.specs.declared.operators.Operator.TheVariants.{Binary, Shift}
use Rattle.mc_typed.specs.declared.operators.LogicOperator.{LogicOperator}
use Rattle.mc_typed.specs.declared.operators.LogicOperator.TheVariants.{And, Or}

-- C17 6.5.5 to 6.5.12
abbrev pub operated : Operator → IntType → ℤ → ℤ → Result ℤ Trap
operated (Binary operator) a x y = binary_of operator a x y
operated (Shift operator) a x y = shift_of operator a x y

-- a number is true where it differs from 0 (C17 6.5.13p3, 6.8.4.1p2)
abbrev pub is_true : ℤ → Bool
is_true v = not (is_zero v)

-- the second operand of `&&` is evaluated where the first is true, that of `||` where it is false
-- (C17 6.5.13p4, 6.5.14p4)
abbrev pub goes_on : LogicOperator → Bool → Bool
goes_on And x = x
goes_on Or x = not x
