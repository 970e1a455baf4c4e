-- What the shifts of a number of a promoted type give (C17 6.5.7).
use Rattle.std.specs.Prelude.{ℕ, ◌/◌, ◌^◌, ℤ, pos, negsuc, ◌*ℤ◌, not, if◌then◌else◌, nat_lt, ◌&&◌, Result, Ok, Err}
use Rattle.mc_value.specs.declared.int_type.IntType.{IntType}
use Rattle.mc_value.specs.declared.trap.Trap.{Trap}
use Rattle.mc_value.specs.declared.trap.Trap.TheVariants.{Shift}
use Rattle.mc_value.specs.declared.operators.ShiftOp.{ShiftOp}
use Rattle.mc_value.specs.declared.operators.ShiftOp.TheVariants.{Left, Right}
use Rattle.mc_value.specs.IntTypes.{width_of, signed_of, in_range}
use Rattle.mc_value.specs.Conversions.{wrapped}
use Rattle.mc_value.specs.Arithmetic.{is_negative}

-- a * 2 ^ k modulo 2 ^ width in an unsigned type; in a signed one a is not negative and a * 2 ^ k
-- is a value of the type (C17 6.5.7p4)
abbrev pub shifted_left : IntType → ℤ → ℕ → Result ℤ Trap
shifted_left t a k =
    let v = a *ℤ pos (2 ^ k) in
    if not (signed_of t) then Ok (wrapped t v)
    else if not (is_negative a) && in_range t v then Ok v
    else Err Shift

-- a / 2 ^ k rounded down, which on a negative a repeats the sign bit (C17 6.5.7p5 leaves it to the
-- implementation); `negsuc n` is -n - 1
abbrev pub shifted_right : ℤ → ℕ → ℤ
shifted_right (pos n) k = pos (n / 2 ^ k)
shifted_right (negsuc n) k = negsuc (n / 2 ^ k)

-- by an amount from 0 to the width less 1
abbrev pub shifted_by : ShiftOp → IntType → ℤ → ℕ → Result ℤ Trap
shifted_by Left t a k = shifted_left t a k
shifted_by Right t a k = Ok (shifted_right a k)

-- by any amount (C17 6.5.7p3)
abbrev pub shift_of : ShiftOp → IntType → ℤ → ℤ → Result ℤ Trap
shift_of op t a (pos k) = if nat_lt k (width_of t) then shifted_by op t a k else Err Shift
shift_of op t a (negsuc n) = Err Shift
