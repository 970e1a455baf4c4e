-- The digits of numbers in two's complement (C17 6.2.6.2p2).
use Rattle.std.specs.Prelude.{ℕ, zero, suc, ◌+◌, ◌/◌, ◌%◌, ◌^◌, ℤ, pos, Bool, if◌then◌else◌, ◌==◌}
use Rattle.mc_value.specs.declared.int_type.IntType.{IntType}
use Rattle.mc_value.specs.IntTypes.{width_of}
use Rattle.mc_value.specs.Conversions.{modulo, wrapped}

-- digit k of v in the type, counted from the lowest: a negative v has those of v + 2 ^ width
abbrev pub digit : IntType → ℤ → ℕ → Bool
digit t v k = modulo v (2 ^ width_of t) / 2 ^ k % 2 == 1

-- the number below 2 ^ n whose digit k is d k
abbrev pub number_of_digits : ℕ → (ℕ → Bool) → ℕ
number_of_digits zero d = 0
number_of_digits (suc k) d = number_of_digits k d + (if d k then 2 ^ k else 0)

-- the value of the type with these digits
abbrev pub value_of_digits : IntType → (ℕ → Bool) → ℤ
value_of_digits t d = wrapped t (pos (number_of_digits (width_of t) d))

-- each digit is f of the operands' digits at its place
abbrev pub digitwise : (Bool → Bool → Bool) → IntType → ℤ → ℤ → ℤ
digitwise f t a b = value_of_digits t (λ k. f (digit t a k) (digit t b k))
