-- Conversions of numbers and of types (C17 6.3.1).
use Rattle.std.specs.Prelude.{ℕ, ◌-◌, ◌%◌, ◌^◌, ℤ, pos, negsuc, ◌-ℤ◌, Bool, false, not, if◌then◌else◌, int_le, nat_lt, nat_le, ◌==◌, ◌&&◌}
use Rattle.mc_value.specs.declared.int_type.IntType.{IntType}
use Rattle.mc_value.specs.declared.int_type.IntType.TheVariants as the
use Rattle.mc_value.specs.IntTypes.{width_of, signed_of, greatest_of, rank_of, holds, unsigned_of}

-- ---- numbers

-- v modulo m: the number from 0 to m - 1 that differs from v by a multiple of m
-- (`negsuc n` is -n - 1)
abbrev pub modulo : ℤ → ℕ → ℕ
modulo (pos n) m = n % m
modulo (negsuc n) m = m - 1 - n % m

-- the value of the type that differs from v by a multiple of 2 to the type's width (C17 6.3.1.3)
abbrev pub wrapped : IntType → ℤ → ℤ
wrapped t v =
    let r = pos (modulo v (2 ^ width_of t)) in
    if int_le r (greatest_of t) then r else r -ℤ pos (2 ^ width_of t)

abbrev pub is_zero : ℤ → Bool
is_zero (pos n) = n == 0
is_zero (negsuc n) = false

-- what v becomes in a type: 0 or 1 in `_Bool` (C17 6.3.1.2p1), and elsewhere as 6.3.1.3 says
abbrev pub converted : IntType → ℤ → ℤ
converted the.Bool v = if is_zero v then pos 0 else pos 1
converted t v = wrapped t v

-- ---- types

-- the integer promotions (C17 6.3.1.1p2): a type of a rank up to that of int becomes int where int
-- holds all its values, else unsigned int; the other types stay
abbrev pub promoted : IntType → IntType
promoted t =
    if nat_lt (rank_of the.Int) (rank_of t) then t
    else if holds the.Int t then the.Int
    else the.UInt

-- the promotions leave the type: its rank is that of int or greater
abbrev pub is_promoted : IntType → Bool
is_promoted t = nat_le (rank_of the.Int) (rank_of t)

-- promoted types are the same where their ranks and signs are
abbrev pub same_sign : IntType → IntType → Bool
same_sign a b = if signed_of a then signed_of b else not (signed_of b)

abbrev pub same_type : IntType → IntType → Bool
same_type a b = (rank_of a == rank_of b) && same_sign a b

abbrev pub of_greater_rank : IntType → IntType → IntType
of_greater_rank a b = if nat_lt (rank_of a) (rank_of b) then b else a

-- an unsigned type u beside a signed type s: the last three cases of C17 6.3.1.8p1
abbrev pub of_unsigned_and_signed : IntType → IntType → IntType
of_unsigned_and_signed u s =
    if nat_le (rank_of s) (rank_of u) then u
    else if holds s u then s
    else unsigned_of s

-- the usual arithmetic conversions on promoted types (C17 6.3.1.8p1)
abbrev pub common_of_promoted : IntType → IntType → IntType
common_of_promoted a b =
    if same_type a b then a
    else if same_sign a b then of_greater_rank a b
    else if signed_of a then of_unsigned_and_signed b a
    else of_unsigned_and_signed a b

abbrev pub common_of : IntType → IntType → IntType
common_of a b = common_of_promoted (promoted a) (promoted b)
