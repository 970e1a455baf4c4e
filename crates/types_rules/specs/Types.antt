-- Types (C17 6.2.5), which type words mean (6.7.2), and when two types are the same.
use Rattle.std.specs.Prelude.{ℕ, ◌+◌, ◌==◌, nat_lt, nat_le, Bool, true, false, not, ◌&&◌, ◌||◌, if◌then◌else◌, List, [], ◌∷◌, map, slice_get, Option, Some, None, option_map, is_some}
use Rattle.mc_tree.specs.declared.declarations.specifier_word.SpecifierWord.{SpecifierWord}
use Rattle.mc_tree.specs.declared.declarations.specifier_word.SpecifierWord.TheVariants as word
use Rattle.mc_tree.specs.Tree.{Specifier, Specifiers}
use Rattle.mc_tree.specs.Tree as tree
use Rattle.mc_value.specs.declared.int_type.IntType.{IntType}
use Rattle.mc_value.specs.declared.int_type.IntType.TheVariants as the
use Rattle.mc_typed.specs.Layout.{ObjectType, members_from}
use Rattle.mc_typed.specs.Layout as layout
use Rattle.types_rules.specs.Profile.{counted}

-- ---- types

-- void, an integer type, or the structure type with this number; an enumerated type is int
pub data Base : Type 0 where
  Void : Base
  Integer : IntType → Base
  Tagged : ℕ → Base

-- A type: so many elements of so many elements .. of its base, the outermost length first. `const`
-- qualifies the base, which is the element of an array (C17 6.7.3p9).
pub record CType : Type 0 where
  pub base : Base
  pub is_const : Bool
  pub lengths : List ℕ

abbrev pub plain : Base → CType
plain b = record { base = b; is_const = false; lengths = [] }

abbrev pub int : CType
int = plain (Integer the.Int)

-- ---- structures

-- a member: its name, its type where it has one, and how it is laid out
pub record Member : Type 0 where
  pub name : List ℕ
  pub member_type : Option CType
  pub layout : ObjectType

-- a structure type: incomplete, perhaps with a list of members that has begun; complete (C17
-- 6.7.2.3p4); or with a fault in its list
pub data Structure : Type 0 where
  Incomplete : Bool → Structure
  Complete : List Member → Structure
  Faulty : Structure

abbrev pub members_of : Option Structure → List Member
members_of (Some (Complete members)) = members
members_of _ = []

abbrev pub is_complete_structure : Option Structure → Bool
is_complete_structure (Some (Complete members)) = true
is_complete_structure _ = false

abbrev pub is_faulty_structure : Option Structure → Bool
is_faulty_structure (Some Faulty) = true
is_faulty_structure _ = false

abbrev pub is_faulty : List Structure → Base → Bool
is_faulty all (Tagged k) = is_faulty_structure (slice_get all k)
is_faulty all _ = false

-- void and structures without members are incomplete (C17 6.2.5p1, p19, p22)
abbrev pub is_complete : List Structure → Base → Bool
is_complete all Void = false
is_complete all (Integer a) = true
is_complete all (Tagged k) = is_complete_structure (slice_get all k)

-- ---- layouts

-- no cells
abbrev pub nothing : ObjectType
nothing = layout.Structure 0 layout.no_members

abbrev pub layout_of_base : List Structure → Base → ObjectType
layout_of_base all Void = nothing
layout_of_base all (Integer a) = layout.Scalar a
layout_of_base all (Tagged k) =
    layout.Structure (counted k) (members_from (map (λ m. m.layout) (members_of (slice_get all k))))

abbrev pub arrays_of : List ℕ → ObjectType → ObjectType
arrays_of [] u = u
arrays_of (n ∷ ns) u = layout.Array n (arrays_of ns u)

-- the layout of an object of a complete type
abbrev pub layout_of : List Structure → CType → ObjectType
layout_of all t = arrays_of t.lengths (layout_of_base all t.base)

-- the cells of an object of a complete type, as far as they are counted
abbrev pub cells_of : List Structure → CType → ℕ
cells_of all t = counted (layout.cells (layout_of all t))

abbrev pub layout_of_member : List Structure → Option CType → ObjectType
layout_of_member all None = nothing
layout_of_member all (Some t) = layout_of all t

abbrev pub structure_from : ℕ → Structure → ObjectType
structure_from k (Complete members) =
    layout.Structure (counted k) (members_from (map (λ m. m.layout) members))
structure_from k _ = layout.Structure (counted k) layout.no_members

-- the structure types of a program, by their numbers from k on; one that stays incomplete has no
-- members
abbrev pub structures_from : ℕ → List Structure → List ObjectType
structures_from k [] = []
structures_from k (s ∷ rest) = structure_from k s ∷ structures_from (k + 1) rest

-- ---- the same type

abbrev pub order_of : IntType → ℕ
order_of the.Bool = 0
order_of the.Char = 1
order_of the.SChar = 2
order_of the.UChar = 3
order_of the.Short = 4
order_of the.UShort = 5
order_of the.Int = 6
order_of the.UInt = 7
order_of the.Long = 8
order_of the.ULong = 9
order_of the.LLong = 10
order_of the.ULLong = 11

-- types of one width and sign differ too: char from signed char, long from long long (C17 6.2.5p14)
abbrev pub same_integer : IntType → IntType → Bool
same_integer a b = order_of a == order_of b

abbrev pub same_base : Base → Base → Bool
same_base Void Void = true
same_base (Integer a) (Integer b) = same_integer a b
same_base (Tagged j) (Tagged k) = j == k
same_base _ _ = false

abbrev pub same_lengths : List ℕ → List ℕ → Bool
same_lengths [] [] = true
same_lengths (m ∷ ms) (n ∷ ns) = (m == n) && same_lengths ms ns
same_lengths _ _ = false

-- qualifiers aside
abbrev pub same_unqualified : CType → CType → Bool
same_unqualified t u = same_base t.base u.base && same_lengths t.lengths u.lengths

abbrev pub same_bool : Bool → Bool → Bool
same_bool a b = if a then b else not b

abbrev pub same_type : CType → CType → Bool
same_type t u = same_unqualified t u && same_bool t.is_const u.is_const

-- ---- functions

-- what a parameter takes: an integer or a structure, without its qualifiers (C17 6.7.6.3p15), or an
-- array with elements of this type (6.7.6.3p7)
pub data ParameterKind : Type 0 where
  ByValue : Base → ParameterKind
  ByArray : CType → ParameterKind

pub record Signature : Type 0 where
  pub result : Base
  pub parameters : List ParameterKind

abbrev pub same_parameter : ParameterKind → ParameterKind → Bool
same_parameter (ByValue a) (ByValue b) = same_base a b
same_parameter (ByArray t) (ByArray u) = same_type t u
same_parameter _ _ = false

abbrev pub same_parameters : List ParameterKind → List ParameterKind → Bool
same_parameters [] [] = true
same_parameters (p ∷ ps) (q ∷ qs) = same_parameter p q && same_parameters ps qs
same_parameters _ _ = false

-- declarations of one function have one type (C17 6.7p4, 6.7.6.3p15)
abbrev pub same_signature : Signature → Signature → Bool
same_signature f g = same_base f.result g.result && same_parameters f.parameters g.parameters

-- ---- words (C17 6.7.1 to 6.7.3)

abbrev pub order_of_word : SpecifierWord → ℕ
order_of_word word.Typedef = 0
order_of_word word.Static = 1
order_of_word word.Extern = 2
order_of_word word.Const = 3
order_of_word word.Void = 4
order_of_word word.Bool = 5
order_of_word word.Char = 6
order_of_word word.Short = 7
order_of_word word.Int = 8
order_of_word word.Long = 9
order_of_word word.Signed = 10
order_of_word word.Unsigned = 11

abbrev pub is_word : SpecifierWord → Specifier → Bool
is_word w (tree.Word v span) = order_of_word w == order_of_word v
is_word w _ = false

abbrev pub count : SpecifierWord → Specifiers → ℕ
count w tree.no_specifiers = 0
count w (tree.specifiers s rest) = if is_word w s then count w rest + 1 else count w rest

abbrev pub has : SpecifierWord → Specifiers → Bool
has w s = nat_lt 0 (count w s)

abbrev pub signed_or : IntType → IntType → Specifiers → IntType
signed_or a b s = if has word.Unsigned s then b else a

-- `char` alone differs from both of its kin (C17 6.2.5p15)
abbrev pub char_of_words : Specifiers → IntType
char_of_words s = if has word.Signed s then the.SChar else signed_or the.Char the.UChar s

-- the integer type of a set of words (C17 6.7.2p2)
abbrev pub integer_of_words : Specifiers → Option IntType
integer_of_words s =
    if has word.Bool s then Some the.Bool
    else if has word.Char s then Some (char_of_words s)
    else if has word.Short s then Some (signed_or the.Short the.UShort s)
    else if nat_le 2 (count word.Long s) then Some (signed_or the.LLong the.ULLong s)
    else if has word.Long s then Some (signed_or the.Long the.ULong s)
    else if has word.Unsigned s then Some the.UInt
    else if has word.Int s || has word.Signed s then Some the.Int
    else None

abbrev pub base_of_words : Specifiers → Option Base
base_of_words s = if has word.Void s then Some Void else option_map Integer (integer_of_words s)

-- a type with `const` or without, beside its own qualifiers
abbrev pub qualified : Bool → CType → CType
qualified b t = record t { is_const = t.is_const || b }

-- whether they have a type (C17 6.7.2p2)
abbrev pub is_no_word : Specifier → Bool
is_no_word (tree.Word w span) = false
is_no_word s = true

abbrev pub any_is_no_word : Specifiers → Bool
any_is_no_word tree.no_specifiers = false
any_is_no_word (tree.specifiers s rest) = is_no_word s || any_is_no_word rest

abbrev pub has_type : Specifiers → Bool
has_type s = is_some (base_of_words s) || any_is_no_word s

abbrev pub type_of_words_or : Option CType → Option Base → Option CType
type_of_words_or other None = other
type_of_words_or other (Some b) = Some (plain b)

-- the type of specifiers: of their words, or of the one that is no word; with `const` where it
-- stands among them
abbrev pub type_of_specifiers : Specifiers → Option CType → Option CType
type_of_specifiers s other =
    option_map (qualified (has word.Const s)) (type_of_words_or other (base_of_words s))
