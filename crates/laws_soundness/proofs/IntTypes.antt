-- Types of integers: which are the same, promoted types, and types that are common to two.
use Rattle.std.proofs.Common.{◌≡◌, ℕ, ◌==◌, true, if◌then◌else◌, refl, ap, sym, ◌∙◌, arith}
use Rattle.mc_value.specs.declared.int_type.IntType.{IntType}
use Rattle.mc_value.specs.declared.int_type.IntType.TheVariants as the
use Rattle.mc_value.specs.Conversions.{promoted, common_of}
use Rattle.types_rules.specs.Types.{order_of, same_integer}

-- the type at a place of the order
abbrev of_order : ℕ → IntType
of_order n =
    if n == 0 then the.Bool
    else if n == 1 then the.Char
    else if n == 2 then the.SChar
    else if n == 3 then the.UChar
    else if n == 4 then the.Short
    else if n == 5 then the.UShort
    else if n == 6 then the.Int
    else if n == 7 then the.UInt
    else if n == 8 then the.Long
    else if n == 9 then the.ULong
    else if n == 10 then the.LLong
    else the.ULLong

of_order_is : (a : IntType) → of_order (order_of a) ≡ a
of_order_is the.Bool = refl
of_order_is the.Char = refl
of_order_is the.SChar = refl
of_order_is the.UChar = refl
of_order_is the.Short = refl
of_order_is the.UShort = refl
of_order_is the.Int = refl
of_order_is the.UInt = refl
of_order_is the.Long = refl
of_order_is the.ULong = refl
of_order_is the.LLong = refl
of_order_is the.ULLong = refl

same_number : (m n : ℕ) → (m == n) ≡ true → m ≡ n
same_number m n h = grind (arith, h)

pub same_integers : (a b : IntType) → same_integer a b ≡ true → a ≡ b
same_integers a b h =
    sym (of_order_is a) ∙ ap of_order (same_number (order_of a) (order_of b) h) ∙ of_order_is b

pub promoted_twice : (a : IntType) → promoted (promoted a) ≡ promoted a
promoted_twice the.Bool = refl
promoted_twice the.Char = refl
promoted_twice the.SChar = refl
promoted_twice the.UChar = refl
promoted_twice the.Short = refl
promoted_twice the.UShort = refl
promoted_twice the.Int = refl
promoted_twice the.UInt = refl
promoted_twice the.Long = refl
promoted_twice the.ULong = refl
promoted_twice the.LLong = refl
promoted_twice the.ULLong = refl

-- a common type is promoted, and common to itself and each of the two
pub common_stays : (a b : IntType)
    → (promoted (common_of a b) ≡ common_of a b) × (common_of a (common_of a b) ≡ common_of a b)
common_stays the.Bool the.Bool = (refl, refl)
common_stays the.Bool the.Char = (refl, refl)
common_stays the.Bool the.SChar = (refl, refl)
common_stays the.Bool the.UChar = (refl, refl)
common_stays the.Bool the.Short = (refl, refl)
common_stays the.Bool the.UShort = (refl, refl)
common_stays the.Bool the.Int = (refl, refl)
common_stays the.Bool the.UInt = (refl, refl)
common_stays the.Bool the.Long = (refl, refl)
common_stays the.Bool the.ULong = (refl, refl)
common_stays the.Bool the.LLong = (refl, refl)
common_stays the.Bool the.ULLong = (refl, refl)
common_stays the.Char the.Bool = (refl, refl)
common_stays the.Char the.Char = (refl, refl)
common_stays the.Char the.SChar = (refl, refl)
common_stays the.Char the.UChar = (refl, refl)
common_stays the.Char the.Short = (refl, refl)
common_stays the.Char the.UShort = (refl, refl)
common_stays the.Char the.Int = (refl, refl)
common_stays the.Char the.UInt = (refl, refl)
common_stays the.Char the.Long = (refl, refl)
common_stays the.Char the.ULong = (refl, refl)
common_stays the.Char the.LLong = (refl, refl)
common_stays the.Char the.ULLong = (refl, refl)
common_stays the.SChar the.Bool = (refl, refl)
common_stays the.SChar the.Char = (refl, refl)
common_stays the.SChar the.SChar = (refl, refl)
common_stays the.SChar the.UChar = (refl, refl)
common_stays the.SChar the.Short = (refl, refl)
common_stays the.SChar the.UShort = (refl, refl)
common_stays the.SChar the.Int = (refl, refl)
common_stays the.SChar the.UInt = (refl, refl)
common_stays the.SChar the.Long = (refl, refl)
common_stays the.SChar the.ULong = (refl, refl)
common_stays the.SChar the.LLong = (refl, refl)
common_stays the.SChar the.ULLong = (refl, refl)
common_stays the.UChar the.Bool = (refl, refl)
common_stays the.UChar the.Char = (refl, refl)
common_stays the.UChar the.SChar = (refl, refl)
common_stays the.UChar the.UChar = (refl, refl)
common_stays the.UChar the.Short = (refl, refl)
common_stays the.UChar the.UShort = (refl, refl)
common_stays the.UChar the.Int = (refl, refl)
common_stays the.UChar the.UInt = (refl, refl)
common_stays the.UChar the.Long = (refl, refl)
common_stays the.UChar the.ULong = (refl, refl)
common_stays the.UChar the.LLong = (refl, refl)
common_stays the.UChar the.ULLong = (refl, refl)
common_stays the.Short the.Bool = (refl, refl)
common_stays the.Short the.Char = (refl, refl)
common_stays the.Short the.SChar = (refl, refl)
common_stays the.Short the.UChar = (refl, refl)
common_stays the.Short the.Short = (refl, refl)
common_stays the.Short the.UShort = (refl, refl)
common_stays the.Short the.Int = (refl, refl)
common_stays the.Short the.UInt = (refl, refl)
common_stays the.Short the.Long = (refl, refl)
common_stays the.Short the.ULong = (refl, refl)
common_stays the.Short the.LLong = (refl, refl)
common_stays the.Short the.ULLong = (refl, refl)
common_stays the.UShort the.Bool = (refl, refl)
common_stays the.UShort the.Char = (refl, refl)
common_stays the.UShort the.SChar = (refl, refl)
common_stays the.UShort the.UChar = (refl, refl)
common_stays the.UShort the.Short = (refl, refl)
common_stays the.UShort the.UShort = (refl, refl)
common_stays the.UShort the.Int = (refl, refl)
common_stays the.UShort the.UInt = (refl, refl)
common_stays the.UShort the.Long = (refl, refl)
common_stays the.UShort the.ULong = (refl, refl)
common_stays the.UShort the.LLong = (refl, refl)
common_stays the.UShort the.ULLong = (refl, refl)
common_stays the.Int the.Bool = (refl, refl)
common_stays the.Int the.Char = (refl, refl)
common_stays the.Int the.SChar = (refl, refl)
common_stays the.Int the.UChar = (refl, refl)
common_stays the.Int the.Short = (refl, refl)
common_stays the.Int the.UShort = (refl, refl)
common_stays the.Int the.Int = (refl, refl)
common_stays the.Int the.UInt = (refl, refl)
common_stays the.Int the.Long = (refl, refl)
common_stays the.Int the.ULong = (refl, refl)
common_stays the.Int the.LLong = (refl, refl)
common_stays the.Int the.ULLong = (refl, refl)
common_stays the.UInt the.Bool = (refl, refl)
common_stays the.UInt the.Char = (refl, refl)
common_stays the.UInt the.SChar = (refl, refl)
common_stays the.UInt the.UChar = (refl, refl)
common_stays the.UInt the.Short = (refl, refl)
common_stays the.UInt the.UShort = (refl, refl)
common_stays the.UInt the.Int = (refl, refl)
common_stays the.UInt the.UInt = (refl, refl)
common_stays the.UInt the.Long = (refl, refl)
common_stays the.UInt the.ULong = (refl, refl)
common_stays the.UInt the.LLong = (refl, refl)
common_stays the.UInt the.ULLong = (refl, refl)
common_stays the.Long the.Bool = (refl, refl)
common_stays the.Long the.Char = (refl, refl)
common_stays the.Long the.SChar = (refl, refl)
common_stays the.Long the.UChar = (refl, refl)
common_stays the.Long the.Short = (refl, refl)
common_stays the.Long the.UShort = (refl, refl)
common_stays the.Long the.Int = (refl, refl)
common_stays the.Long the.UInt = (refl, refl)
common_stays the.Long the.Long = (refl, refl)
common_stays the.Long the.ULong = (refl, refl)
common_stays the.Long the.LLong = (refl, refl)
common_stays the.Long the.ULLong = (refl, refl)
common_stays the.ULong the.Bool = (refl, refl)
common_stays the.ULong the.Char = (refl, refl)
common_stays the.ULong the.SChar = (refl, refl)
common_stays the.ULong the.UChar = (refl, refl)
common_stays the.ULong the.Short = (refl, refl)
common_stays the.ULong the.UShort = (refl, refl)
common_stays the.ULong the.Int = (refl, refl)
common_stays the.ULong the.UInt = (refl, refl)
common_stays the.ULong the.Long = (refl, refl)
common_stays the.ULong the.ULong = (refl, refl)
common_stays the.ULong the.LLong = (refl, refl)
common_stays the.ULong the.ULLong = (refl, refl)
common_stays the.LLong the.Bool = (refl, refl)
common_stays the.LLong the.Char = (refl, refl)
common_stays the.LLong the.SChar = (refl, refl)
common_stays the.LLong the.UChar = (refl, refl)
common_stays the.LLong the.Short = (refl, refl)
common_stays the.LLong the.UShort = (refl, refl)
common_stays the.LLong the.Int = (refl, refl)
common_stays the.LLong the.UInt = (refl, refl)
common_stays the.LLong the.Long = (refl, refl)
common_stays the.LLong the.ULong = (refl, refl)
common_stays the.LLong the.LLong = (refl, refl)
common_stays the.LLong the.ULLong = (refl, refl)
common_stays the.ULLong the.Bool = (refl, refl)
common_stays the.ULLong the.Char = (refl, refl)
common_stays the.ULLong the.SChar = (refl, refl)
common_stays the.ULLong the.UChar = (refl, refl)
common_stays the.ULLong the.Short = (refl, refl)
common_stays the.ULLong the.UShort = (refl, refl)
common_stays the.ULLong the.Int = (refl, refl)
common_stays the.ULLong the.UInt = (refl, refl)
common_stays the.ULLong the.Long = (refl, refl)
common_stays the.ULLong the.ULong = (refl, refl)
common_stays the.ULLong the.LLong = (refl, refl)
common_stays the.ULLong the.ULLong = (refl, refl)
