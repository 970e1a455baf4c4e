-- What the operators on numbers of one promoted type give.
use Rattle.std.specs.Prelude.{◌/◌, ℤ, pos, negsuc, neg_ℤ, ◌+ℤ◌, ◌-ℤ◌, ◌*ℤ◌, nat_abs, Bool, true, false, not, if◌then◌else◌, int_lt, int_le, ◌&&◌, ◌||◌, Result, Ok, Err}
use Rattle.mc_value.specs.declared.int_type.IntType.{IntType}
use Rattle.mc_value.specs.declared.int_type.IntType.TheVariants as the
use Rattle.mc_value.specs.declared.trap.Trap.{Trap}
use Rattle.mc_value.specs.declared.trap.Trap.TheVariants.{Overflow, Division}
use Rattle.mc_value.specs.declared.operators.BinOp.{BinOp}
use Rattle.mc_value.specs.declared.operators.BinOp.TheVariants.{Mul, Div, Rem, Add, Sub, Lt, Gt, Le, Ge, Eq, Ne, And, Xor, Or}
use Rattle.mc_value.specs.declared.operators.UnOp.{UnOp}
use Rattle.mc_value.specs.declared.operators.UnOp.TheVariants.{Plus, Minus, Flip, Not}
use Rattle.mc_value.specs.IntTypes.{signed_of, in_range}
use Rattle.mc_value.specs.Conversions.{wrapped, is_zero}
use Rattle.mc_value.specs.Digits.{digit, value_of_digits, digitwise}

-- a mathematical result v in the type: modulo 2 ^ width in an unsigned one (C17 6.2.5p9), and in a
-- signed one v itself, which has to be in range (6.5p5)
abbrev pub fitted : IntType → ℤ → Result ℤ Trap
fitted t v =
    if signed_of t then (if in_range t v then Ok v else Err Overflow)
    else Ok (wrapped t v)

abbrev pub is_negative : ℤ → Bool
is_negative (pos n) = false
is_negative (negsuc n) = true

-- exactly one of the two holds
abbrev pub exclusive : Bool → Bool → Bool
exclusive a b = if a then not b else b

-- the algebraic quotient without its fraction: that of the magnitudes, negative where one operand
-- is (C17 6.5.5p6)
abbrev pub quotient : ℤ → ℤ → ℤ
quotient a b =
    let q = pos (nat_abs a / nat_abs b) in
    if exclusive (is_negative a) (is_negative b) then neg_ℤ q else q

-- what makes (a / b) * b + a % b equal to a (C17 6.5.5p6)
abbrev pub remainder : ℤ → ℤ → ℤ
remainder a b = a -ℤ (quotient a b *ℤ b)

-- r, where the divisor b is not 0 (C17 6.5.5p5) and the quotient of a and b is a value of the
-- type (p6)
abbrev pub divided : IntType → ℤ → ℤ → ℤ → Result ℤ Trap
divided t a b r =
    if is_zero b then Err Division
    else if in_range t (quotient a b) then Ok r
    else Err Overflow

-- 1 where the test holds, else 0 (C17 6.5.3.3p5, 6.5.8p6, 6.5.9p3)
abbrev pub truth : Bool → ℤ
truth b = if b then pos 1 else pos 0

abbrev pub are_equal : ℤ → ℤ → Bool
are_equal a b = is_zero (a -ℤ b)

-- C17 6.5.5, 6.5.6, 6.5.8, 6.5.9, 6.5.10 to 6.5.12
abbrev pub binary_of : BinOp → IntType → ℤ → ℤ → Result ℤ Trap
binary_of Mul t a b = fitted t (a *ℤ b)
binary_of Div t a b = divided t a b (quotient a b)
binary_of Rem t a b = divided t a b (remainder a b)
binary_of Add t a b = fitted t (a +ℤ b)
binary_of Sub t a b = fitted t (a -ℤ b)
binary_of Lt t a b = Ok (truth (int_lt a b))
binary_of Gt t a b = Ok (truth (int_lt b a))
binary_of Le t a b = Ok (truth (int_le a b))
binary_of Ge t a b = Ok (truth (int_le b a))
binary_of Eq t a b = Ok (truth (are_equal a b))
binary_of Ne t a b = Ok (truth (not (are_equal a b)))
binary_of And t a b = Ok (digitwise ◌&&◌ t a b)
binary_of Xor t a b = Ok (digitwise exclusive t a b)
binary_of Or t a b = Ok (digitwise ◌||◌ t a b)

-- the type of the result: int for the relational and equality operators (C17 6.5.8p6, 6.5.9p3),
-- else the operands'
abbrev pub binary_type : BinOp → IntType → IntType
binary_type Mul t = t
binary_type Div t = t
binary_type Rem t = t
binary_type Add t = t
binary_type Sub t = t
binary_type And t = t
binary_type Xor t = t
binary_type Or t = t
binary_type Lt t = the.Int
binary_type Gt t = the.Int
binary_type Le t = the.Int
binary_type Ge t = the.Int
binary_type Eq t = the.Int
binary_type Ne t = the.Int

-- C17 6.5.3.3
abbrev pub unary_of : UnOp → IntType → ℤ → Result ℤ Trap
unary_of Plus t a = Ok a
unary_of Minus t a = fitted t (neg_ℤ a)
unary_of Flip t a = Ok (value_of_digits t (λ k. not (digit t a k)))
unary_of Not t a = Ok (truth (is_zero a))

-- the type of the result: int for `!` (C17 6.5.3.3p5), else the operand's
abbrev pub unary_type : UnOp → IntType → IntType
unary_type Plus t = t
unary_type Minus t = t
unary_type Flip t = t
unary_type Not t = the.Int
