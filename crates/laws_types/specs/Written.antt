-- Expressions as they are written, in a scope with an object of each integer type, and what they
-- stand for. Names and constants stand at the bytes 10 to 20, and what is made of them at 30 to 40.
use Rattle.std.specs.Prelude.{ℕ, ◌+◌, ◌==◌, Bool, true, false, if◌then◌else◌, List, [], ◌∷◌, Option, Some, option_and_then}
use Rattle.mc_span.specs.declared.span.Span.{Span}
use Rattle.mc_tree.specs.Tree as tree
use Rattle.mc_value.specs.declared.int_type.IntType.{IntType}
use Rattle.mc_value.specs.declared.int_type.IntType.TheVariants as the
use Rattle.mc_typed.specs.declared.expressions.Slot.{Slot}
use Rattle.mc_typed.specs.Tree.{Place, Expression, Effect}
use Rattle.mc_typed.specs.Tree as typed
use Rattle.types_rules.specs.Types.{Integer, plain}
use Rattle.types_rules.specs.Scopes.{Entry, Scope, Automatic, file_scope}
use Rattle.types_rules.specs.Values.{number_found, effect_in}
use Rattle.types_rules.specs.Judgement.{judge}

abbrev pub here : Span
here = record { start = 10; end = 20 }

abbrev pub there : Span
there = record { start = 30; end = 40 }

-- ---- the integer types (C17 6.2.5), and which two are one

abbrev pub types : List IntType
types =
    the.Bool ∷ the.Char ∷ the.SChar ∷ the.UChar ∷ the.Short ∷ the.UShort ∷ the.Int ∷ the.UInt
    ∷ the.Long ∷ the.ULong ∷ the.LLong ∷ the.ULLong ∷ []

abbrev pub place_of : IntType → ℕ
place_of the.Bool = 0
place_of the.Char = 1
place_of the.SChar = 2
place_of the.UChar = 3
place_of the.Short = 4
place_of the.UShort = 5
place_of the.Int = 6
place_of the.UInt = 7
place_of the.Long = 8
place_of the.ULong = 9
place_of the.LLong = 10
place_of the.ULLong = 11

abbrev pub is_same : IntType → IntType → Bool
is_same a b = place_of a == place_of b

-- ---- an object of each type: its name is one byte, and its number that of its type

abbrev pub text_of : IntType → List ℕ
text_of a = (97 + place_of a) ∷ []

abbrev pub slot_of : IntType → Slot
slot_of a = record { object = place_of a; start = place_of a }

abbrev pub entries : List IntType → List Entry
entries [] = []
entries (a ∷ rest) =
    record { name = text_of a; meaning = Automatic (slot_of a) (Some (plain (Integer a))) }
    ∷ entries rest

abbrev pub scope : Scope
scope = record (file_scope []) { names = entries types }

-- ---- what is written

abbrev pub named : IntType → tree.Expression
named a = tree.Named (record { text = text_of a; span = here })

abbrev pub digit : ℕ → tree.Expression
digit n = tree.Constant n true false 0 here

-- ---- what it stands for

abbrev pub judged : tree.Expression → Option Expression
judged e = number_found (judge e scope)

abbrev pub done : tree.Expression → Option Effect
done e = option_and_then effect_in (judge e scope).value

abbrev pub object : IntType → Place
object a = typed.Local (slot_of a) here

abbrev pub read : IntType → Expression
read a = typed.Read (object a) a

-- the value of an object, converted where it has another type
abbrev pub read_as : IntType → IntType → Expression
read_as b a = if is_same a b then read a else typed.Convert b false (read a) here
