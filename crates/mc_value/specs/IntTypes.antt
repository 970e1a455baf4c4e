-- The integer types: widths, signs and ranges.
use Rattle.std.specs.Prelude.{ℕ, ◌-◌, ◌^◌, ℤ, pos, neg_ℤ, ◌≤ℤ◌, Bool, true, false, if◌then◌else◌, int_le, ◌&&◌}
use Rattle.mc_value.specs.declared.int_type.IntType.{IntType}
use Rattle.mc_value.specs.declared.int_type.IntType.TheVariants as the

-- how many bits a value has, the sign bit included
-- (C17 6.2.6.2p6; 5.2.4.2.1 leaves the numbers to the implementation)
abbrev pub width_of : IntType → ℕ
width_of the.Bool = 1
width_of the.Char = 8
width_of the.SChar = 8
width_of the.UChar = 8
width_of the.Short = 16
width_of the.UShort = 16
width_of the.Int = 32
width_of the.UInt = 32
width_of the.Long = 64
width_of the.ULong = 64
width_of the.LLong = 64
width_of the.ULLong = 64

-- the types with negative values (C17 6.2.5p4)
-- char is one of them (6.2.5p15 leaves it to the implementation)
abbrev pub signed_of : IntType → Bool
signed_of the.Bool = false
signed_of the.Char = true
signed_of the.SChar = true
signed_of the.UChar = false
signed_of the.Short = true
signed_of the.UShort = false
signed_of the.Int = true
signed_of the.UInt = false
signed_of the.Long = true
signed_of the.ULong = false
signed_of the.LLong = true
signed_of the.ULLong = false

-- the least and the greatest value, in two's complement (C17 6.2.6.2p1 and p2)
abbrev pub least_of : IntType → ℤ
least_of t = if signed_of t then neg_ℤ (pos (2 ^ (width_of t - 1))) else pos 0

abbrev pub greatest_of : IntType → ℤ
greatest_of t = if signed_of t then pos (2 ^ (width_of t - 1) - 1) else pos (2 ^ width_of t - 1)

-- v is a value of the type
pub record InRange (t : IntType) (v : ℤ) : Type 0 where
  pub least : least_of t ≤ℤ v
  pub greatest : v ≤ℤ greatest_of t

-- the same as a test
abbrev pub in_range : IntType → ℤ → Bool
in_range t v = int_le (least_of t) v && int_le v (greatest_of t)

-- a holds each value of b
abbrev pub holds : IntType → IntType → Bool
holds a b = int_le (least_of a) (least_of b) && int_le (greatest_of b) (greatest_of a)

-- the integer conversion rank (C17 6.3.1.1p1)
abbrev pub rank_of : IntType → ℕ
rank_of the.Bool = 0
rank_of the.Char = 1
rank_of the.SChar = 1
rank_of the.UChar = 1
rank_of the.Short = 2
rank_of the.UShort = 2
rank_of the.Int = 3
rank_of the.UInt = 3
rank_of the.Long = 4
rank_of the.ULong = 4
rank_of the.LLong = 5
rank_of the.ULLong = 5

-- the unsigned type that corresponds to a type (C17 6.2.5p6), which an unsigned type is itself
abbrev pub unsigned_of : IntType → IntType
unsigned_of the.Bool = the.Bool
unsigned_of the.Char = the.UChar
unsigned_of the.SChar = the.UChar
unsigned_of the.UChar = the.UChar
unsigned_of the.Short = the.UShort
unsigned_of the.UShort = the.UShort
unsigned_of the.Int = the.UInt
unsigned_of the.UInt = the.UInt
unsigned_of the.Long = the.ULong
unsigned_of the.ULong = the.ULong
unsigned_of the.LLong = the.ULLong
unsigned_of the.ULLong = the.ULLong
