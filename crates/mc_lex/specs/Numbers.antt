-- Numbers: preprocessing numbers (C17 6.4.8), and which of them are integer constants
-- (C17 6.4.4.1).
use Rattle.std.specs.Prelude.{◌≡◌, ℕ, ◌-◌, ◌^◌, Bool, true, false, not, ◌&&◌, ◌||◌, ◌==◌, nat_le, List, [], ◌∷◌, ◌++◌, drop, Result, Ok, Err, if◌then◌else◌, codes}
use Rattle.std.specs.List.{list_all, list_any}
use Rattle.std.specs.Str.Parse.{digits_value}
use Rattle.mc_lex.specs.Bytes.{is_digit, is_octal, is_hexadecimal, is_word_byte}
use Rattle.mc_lex.specs.Words.{one_of}
use Rattle.mc_lex.specs.declared.base.Base.{Base}
use Rattle.mc_lex.specs.declared.base.Base.TheVariants as base
use Rattle.mc_lex.specs.declared.suffix.Suffix.{Suffix}
use Rattle.mc_lex.specs.declared.suffix.Suffix.TheVariants as suffix
use Rattle.mc_lex.specs.declared.token.TokenKind.{TokenKind}
use Rattle.mc_lex.specs.declared.token.TokenKind.TheVariants.{Constant}
use Rattle.mc_lex.specs.declared.fault_kind.FaultKind.{FaultKind}
use Rattle.mc_lex.specs.declared.fault_kind.FaultKind.TheVariants.{OutsideWord, Token, Limit}

-- ---- preprocessing numbers

-- `e`, `E`, `p` or `P`
abbrev pub is_exponent : ℕ → Bool
is_exponent b = b == 101 || b == 69 || b == 112 || b == 80

-- `+` or `-`
abbrev pub is_sign : ℕ → Bool
is_sign b = b == 43 || b == 45

-- b goes on with a number after the byte a: it is a digit, a letter, `_` or `.`,
-- or a sign directly after an exponent's letter
abbrev pub continues : ℕ → ℕ → Bool
continues a b = is_word_byte b || b == 46 || (is_exponent a && is_sign b)

-- each byte goes on after the one before it, the first one after a
abbrev pub each_continues : ℕ → List ℕ → Bool
each_continues a [] = true
each_continues a (b ∷ bs) = continues a b && each_continues b bs

-- a number starts with the byte a before these bytes: a is a digit, or a `.` before a digit
abbrev pub starts_number : ℕ → List ℕ → Bool
starts_number a [] = is_digit a
starts_number a (b ∷ bs) = is_digit a || (a == 46 && is_digit b)

-- a digit, or a `.` before a digit, and what goes on with it
abbrev pub is_number : List ℕ → Bool
is_number [] = false
is_number (a ∷ bs) = starts_number a bs && each_continues a bs

-- ---- integer constants

-- the text is digits of this base with its prefix; `0` alone is octal
abbrev pub is_digits : Base → List ℕ → Bool
is_digits base.Decimal (d ∷ ds) = is_digit d && not (d == 48) && list_all is_digit ds
is_digits base.Octal (z ∷ ds) = z == 48 && list_all is_octal ds
is_digits base.Hexadecimal (z ∷ x ∷ d ∷ ds) =
    z == 48 && (x == 120 || x == 88) && list_all is_hexadecimal (d ∷ ds)
is_digits _ _ = false

-- the number that the digits write
abbrev pub value_of : Base → List ℕ → ℕ
value_of base.Decimal ds = digits_value 10 ds
value_of base.Octal ds = digits_value 8 ds
value_of base.Hexadecimal ds = digits_value 16 (drop 2 ds)

abbrev pub is_decimal : Base → Bool
is_decimal base.Decimal = true
is_decimal base.Octal = false
is_decimal base.Hexadecimal = false

-- the texts of each suffix
abbrev pub suffix_texts : Suffix → List (List ℕ)
suffix_texts suffix.None = [] ∷ []
suffix_texts suffix.U = codes "u" ∷ codes "U" ∷ []
suffix_texts suffix.L = codes "l" ∷ codes "L" ∷ []
suffix_texts suffix.Ul =
    codes "ul" ∷ codes "uL" ∷ codes "Ul" ∷ codes "UL"
    ∷ codes "lu" ∷ codes "lU" ∷ codes "Lu" ∷ codes "LU" ∷ []
suffix_texts suffix.Ll = codes "ll" ∷ codes "LL" ∷ []
suffix_texts suffix.Ull =
    codes "ull" ∷ codes "uLL" ∷ codes "Ull" ∷ codes "ULL"
    ∷ codes "llu" ∷ codes "llU" ∷ codes "LLu" ∷ codes "LLU" ∷ []

abbrev pub has_u : Suffix → Bool
has_u suffix.None = false
has_u suffix.U = true
has_u suffix.L = false
has_u suffix.Ul = true
has_u suffix.Ll = false
has_u suffix.Ull = true

abbrev pub longs_of : Suffix → ℕ
longs_of suffix.None = 0
longs_of suffix.U = 0
longs_of suffix.L = 1
longs_of suffix.Ul = 1
longs_of suffix.Ll = 2
longs_of suffix.Ull = 2

-- the text is digits of a base and a suffix, and the digits write this number
pub record IsInteger (text : List ℕ) (radix : Base) (value : ℕ) (form : Suffix) : Type 0 where
  pub digits : List ℕ
  pub rest : List ℕ
  pub whole : text ≡ digits ++ rest
  pub of_base : is_digits radix digits ≡ true
  pub writes : value ≡ value_of radix digits
  pub of_form : one_of (suffix_texts form) rest ≡ true

-- the types that a constant may have, and the greatest value of each:
-- `int` has 32 bits, `long` and `long long` have 64
pub data IntegerType : Type 0 where
  int : IntegerType
  unsigned_int : IntegerType
  long : IntegerType
  unsigned_long : IntegerType
  long_long : IntegerType
  unsigned_long_long : IntegerType

abbrev pub greatest : IntegerType → ℕ
greatest int = 2 ^ 31 - 1
greatest unsigned_int = 2 ^ 32 - 1
greatest long = 2 ^ 63 - 1
greatest unsigned_long = 2 ^ 64 - 1
greatest long_long = 2 ^ 63 - 1
greatest unsigned_long_long = 2 ^ 64 - 1

-- the types of a constant by its suffix, decimal or not, the first one first (C17 6.4.4.1, table)
abbrev pub types_of : Suffix → Bool → List IntegerType
types_of suffix.None true = int ∷ long ∷ long_long ∷ []
types_of suffix.None false =
    int ∷ unsigned_int ∷ long ∷ unsigned_long ∷ long_long ∷ unsigned_long_long ∷ []
types_of suffix.U _ = unsigned_int ∷ unsigned_long ∷ unsigned_long_long ∷ []
types_of suffix.L true = long ∷ long_long ∷ []
types_of suffix.L false = long ∷ unsigned_long ∷ long_long ∷ unsigned_long_long ∷ []
types_of suffix.Ul _ = unsigned_long ∷ unsigned_long_long ∷ []
types_of suffix.Ll true = long_long ∷ []
types_of suffix.Ll false = long_long ∷ unsigned_long_long ∷ []
types_of suffix.Ull _ = unsigned_long_long ∷ []

-- some type of its list holds the value
abbrev pub has_type : Suffix → Bool → ℕ → Bool
has_type form dec value = list_any (λ t. nat_le value (greatest t)) (types_of form dec)

-- ---- what a number is

-- it begins with `0x` or `0X`
abbrev pub has_hexadecimal_prefix : List ℕ → Bool
has_hexadecimal_prefix (z ∷ x ∷ bs) = z == 48 && (x == 120 || x == 88)
has_hexadecimal_prefix _ = false

-- one of the bytes is b
abbrev pub has : ℕ → List ℕ → Bool
has b text = list_any (λ x. x == b) text

-- a number that is not an integer constant looks like a floating constant (C17 6.4.4.2):
-- it has a `.`, or the letter of an exponent
abbrev pub looks_floating : List ℕ → Bool
looks_floating text =
    has 46 text || (if has_hexadecimal_prefix text then has 112 text || has 80 text
    else has 101 text || has 69 text)

abbrev pub fault_of_number : List ℕ → FaultKind
fault_of_number text = if looks_floating text then OutsideWord else Token

-- the constant that the digits and the suffix write, or that no type holds it
abbrev pub constant : Base → ℕ → Suffix → Result TokenKind FaultKind
constant of value form =
    if has_type form (is_decimal of) value
    then Ok (Constant value (is_decimal of) (has_u form) (longs_of form)) else Err Limit

-- what a number is, by its text alone
pub data NumberMeans (text : List ℕ) : Result TokenKind FaultKind → Type 0 where
  integer : (radix : Base) (value : ℕ) (form : Suffix) → IsInteger text radix value form
      → NumberMeans text (constant radix value form)
  not_an_integer
      : ((radix : Base) (value : ℕ) (form : Suffix) → IsInteger text radix value form → ⊥)
      → NumberMeans text (Err (fault_of_number text))
