-- The types of integer constants (C17 6.4.4.1p5), and the types that sets of words mean (6.7.2p2):
-- each cell of both tables.
use Rattle.std.specs.Prelude.{◌≡◌, ℕ, Bool, true, false, List, [], ◌∷◌, map, Option, Some, None}
use Rattle.mc_tree.specs.declared.declarations.specifier_word.SpecifierWord.{SpecifierWord}
use Rattle.mc_tree.specs.declared.declarations.specifier_word.SpecifierWord.TheVariants as word
use Rattle.mc_tree.specs.Tree.{Specifiers}
use Rattle.mc_tree.specs.Tree as tree
use Rattle.mc_value.specs.declared.int_type.IntType.{IntType}
use Rattle.mc_value.specs.declared.int_type.IntType.TheVariants as the
use Rattle.types_rules.specs.Types.{Base, Void, Integer, base_of_words}
use Rattle.types_rules.specs.Constants.{type_of_constant}
use Rattle.laws_types.specs.Written.{here}

-- ---- constants: a value, and the type of the constant with a suffix

pub record Cell : Type 0 where
  pub value : ℕ
  pub value_type : Option IntType

abbrev pub gets : ℕ → IntType → Cell
gets v a = record { value = v; value_type = Some a }

abbrev pub has_none : ℕ → Cell
has_none v = record { value = v; value_type = None }

-- of these constants: decimal or not, with `u` or not, with so many `l`
abbrev pub Have : Bool → Bool → ℕ → List Cell → Type 0
Have decimal unsigned longs cells =
    map (λ c. type_of_constant c.value decimal unsigned longs) cells ≡ map (λ c. c.value_type) cells

-- no suffix: decimal ones are never unsigned
abbrev pub Plain : Type 0
Plain =
    Have true false 0 (gets 0 the.Int ∷ gets 2147483647 the.Int ∷ gets 2147483648 the.Long
    ∷ gets 4294967295 the.Long ∷ gets 9223372036854775807 the.Long ∷ has_none 9223372036854775808
    ∷ [])
    × Have false false 0 (gets 0 the.Int ∷ gets 2147483647 the.Int ∷ gets 2147483648 the.UInt
    ∷ gets 4294967295 the.UInt ∷ gets 4294967296 the.Long ∷ gets 9223372036854775807 the.Long
    ∷ gets 9223372036854775808 the.ULong ∷ gets 18446744073709551615 the.ULong
    ∷ has_none 18446744073709551616 ∷ [])

-- `u`
abbrev pub of_u : List Cell
of_u =
    gets 0 the.UInt ∷ gets 4294967295 the.UInt ∷ gets 4294967296 the.ULong
    ∷ gets 18446744073709551615 the.ULong ∷ has_none 18446744073709551616 ∷ []

abbrev pub Unsigned : Type 0
Unsigned = Have true true 0 of_u × Have false true 0 of_u

-- `l`, `ul`
abbrev pub of_ul : List Cell
of_ul =
    gets 0 the.ULong ∷ gets 18446744073709551615 the.ULong ∷ has_none 18446744073709551616 ∷ []

abbrev pub Longs : Type 0
Longs =
    Have true false 1 (gets 0 the.Long ∷ gets 9223372036854775807 the.Long
    ∷ has_none 9223372036854775808 ∷ [])
    × Have false false 1 (gets 0 the.Long ∷ gets 9223372036854775807 the.Long
    ∷ gets 9223372036854775808 the.ULong ∷ gets 18446744073709551615 the.ULong
    ∷ has_none 18446744073709551616 ∷ [])
    × Have true true 1 of_ul × Have false true 1 of_ul

-- `ll`, `ull`
abbrev pub of_ull : List Cell
of_ull =
    gets 0 the.ULLong ∷ gets 18446744073709551615 the.ULLong ∷ has_none 18446744073709551616 ∷ []

abbrev pub LongLongs : Type 0
LongLongs =
    Have true false 2 (gets 0 the.LLong ∷ gets 9223372036854775807 the.LLong
    ∷ has_none 9223372036854775808 ∷ [])
    × Have false false 2 (gets 0 the.LLong ∷ gets 9223372036854775807 the.LLong
    ∷ gets 9223372036854775808 the.ULLong ∷ gets 18446744073709551615 the.ULLong
    ∷ has_none 18446744073709551616 ∷ [])
    × Have true true 2 of_ull × Have false true 2 of_ull

abbrev pub ConstantsHaveTheirTypes : Type 0
ConstantsHaveTheirTypes = Plain × Unsigned × Longs × LongLongs

-- ---- words

abbrev pub words : List SpecifierWord → Specifiers
words [] = tree.no_specifiers
words (w ∷ ws) = tree.specifiers (tree.Word w here) (words ws)

-- each of these lists of words means this type
abbrev pub Mean : Base → List (List SpecifierWord) → Type 0
Mean b lists = map (λ ws. base_of_words (words ws)) lists ≡ map (λ ws. Some b) lists

abbrev pub NarrowWords : Type 0
NarrowWords =
    Mean Void ((word.Void ∷ []) ∷ (word.Static ∷ word.Void ∷ []) ∷ [])
    × Mean (Integer the.Bool) ((word.Bool ∷ []) ∷ (word.Const ∷ word.Bool ∷ []) ∷ [])
    × Mean (Integer the.Char) ((word.Char ∷ []) ∷ (word.Char ∷ word.Const ∷ []) ∷ [])
    × Mean (Integer the.SChar)
    ((word.Signed ∷ word.Char ∷ []) ∷ (word.Char ∷ word.Signed ∷ []) ∷ [])
    × Mean (Integer the.UChar)
    ((word.Unsigned ∷ word.Char ∷ []) ∷ (word.Char ∷ word.Unsigned ∷ []) ∷ [])
    × Mean (Integer the.Short) ((word.Short ∷ []) ∷ (word.Signed ∷ word.Short ∷ [])
    ∷ (word.Short ∷ word.Int ∷ []) ∷ (word.Int ∷ word.Signed ∷ word.Short ∷ []) ∷ [])
    × Mean (Integer the.UShort) ((word.Unsigned ∷ word.Short ∷ [])
    ∷ (word.Short ∷ word.Int ∷ word.Unsigned ∷ []) ∷ [])

abbrev pub WideWords : Type 0
WideWords =
    Mean (Integer the.Int)
    ((word.Int ∷ []) ∷ (word.Signed ∷ []) ∷ (word.Int ∷ word.Signed ∷ []) ∷ [])
    × Mean (Integer the.UInt)
    ((word.Unsigned ∷ []) ∷ (word.Unsigned ∷ word.Int ∷ []) ∷ (word.Int ∷ word.Unsigned ∷ []) ∷ [])
    × Mean (Integer the.Long) ((word.Long ∷ []) ∷ (word.Signed ∷ word.Long ∷ [])
    ∷ (word.Long ∷ word.Int ∷ []) ∷ (word.Int ∷ word.Long ∷ word.Signed ∷ []) ∷ [])
    × Mean (Integer the.ULong) ((word.Unsigned ∷ word.Long ∷ [])
    ∷ (word.Long ∷ word.Unsigned ∷ word.Int ∷ []) ∷ [])
    × Mean (Integer the.LLong) ((word.Long ∷ word.Long ∷ [])
    ∷ (word.Signed ∷ word.Long ∷ word.Long ∷ []) ∷ (word.Long ∷ word.Int ∷ word.Long ∷ [])
    ∷ (word.Long ∷ word.Signed ∷ word.Long ∷ word.Int ∷ []) ∷ [])
    × Mean (Integer the.ULLong) ((word.Unsigned ∷ word.Long ∷ word.Long ∷ [])
    ∷ (word.Long ∷ word.Long ∷ word.Int ∷ word.Unsigned ∷ []) ∷ [])
