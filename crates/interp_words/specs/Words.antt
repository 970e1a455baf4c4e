-- Numbers of integer types as words of 64 bits.
use Rattle.std.specs.Prelude.{◌≡◌, ℕ, ℤ, pos, if◌then◌else◌, Result, Ok, Err}
use Rattle.std.specs.Int.{cast_signed, w64}
use Rattle.mc_value.specs.declared.int_type.IntType.{IntType}
use Rattle.mc_value.specs.declared.trap.Trap.{Trap}
use Rattle.mc_value.specs.IntTypes.{signed_of, InRange}
use Rattle.mc_typed.specs.declared.operators.Operator.{Operator}
use Rattle.mc_typed.specs.declared.operators.Operator.TheVariants.{Binary, Shift}

-- the number that a word stands for in a type: in two's complement where the type has a sign (C17
-- 6.2.6.2)
abbrev pub number_of : IntType → ℕ → ℤ
number_of t word = if signed_of t then cast_signed w64 word else pos word

-- a word of a number, or a trap
abbrev pub result_of : IntType → Result ℕ Trap → Result ℤ Trap
result_of t (Ok word) = Ok (number_of t word)
result_of t (Err trap) = Err trap

-- the word of a value of the type
abbrev pub Holds : IntType → ℕ → Type 0
Holds t word = InRange t (number_of t word)

-- the right operand of an operator whose left operand has the type t: of the same type, but for the
-- amount of a shift, which is any number (C17 6.5.7)
abbrev pub IsRight : Operator → IntType → ℕ → Type 0
IsRight (Binary operator) t word = Holds t word
IsRight (Shift operator) t word = Unit {0}

-- the type of the right operand
abbrev pub IsRightType : Operator → IntType → IntType → Type 0
IsRightType (Binary operator) t u = u ≡ t
IsRightType (Shift operator) t u = Unit {0}
