-- Types with one place in their order are one.
use Rattle.std.proofs.Common.{◌≡◌, ℕ, ◌==◌, true, if◌then◌else◌, refl, ap, sym, ◌∙◌, arith}
use Rattle.mc_value.specs.declared.int_type.IntType.{IntType}
use Rattle.mc_value.specs.declared.int_type.IntType.TheVariants as the
use Rattle.types_rules.specs.Types.{order_of, same_integer}

-- the type at a place of the order
abbrev of_order : ℕ → IntType
of_order n =
    if n == 0 then the.Bool
    else if n == 1 then the.Char
    else if n == 2 then the.SChar
    else if n == 3 then the.UChar
    else if n == 4 then the.Short
    else if n == 5 then the.UShort
    else if n == 6 then the.Int
    else if n == 7 then the.UInt
    else if n == 8 then the.Long
    else if n == 9 then the.ULong
    else if n == 10 then the.LLong
    else the.ULLong

of_order_is : (a : IntType) → of_order (order_of a) ≡ a
of_order_is the.Bool = refl
of_order_is the.Char = refl
of_order_is the.SChar = refl
of_order_is the.UChar = refl
of_order_is the.Short = refl
of_order_is the.UShort = refl
of_order_is the.Int = refl
of_order_is the.UInt = refl
of_order_is the.Long = refl
of_order_is the.ULong = refl
of_order_is the.LLong = refl
of_order_is the.ULLong = refl

same_number : (m n : ℕ) → (m == n) ≡ true → m ≡ n
same_number m n h = grind (arith, h)

pub same_integers : (a b : IntType) → same_integer a b ≡ true → a ≡ b
same_integers a b h =
    sym (of_order_is a) ∙ ap of_order (same_number (order_of a) (order_of b) h) ∙ of_order_is b
