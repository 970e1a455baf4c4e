-- Which words stand among specifiers: the storage words, and those of the type.
use Rattle.std.specs.Prelude.{◌≡◌, ◌⊎◌, ℕ, ◌+◌, ◌≤◌, Bool, true, false, ◌||◌, List, [], ◌∷◌, if◌then◌else◌}
use Rattle.mc_span.specs.declared.span.Span.{Span}
use Rattle.mc_tree.specs.declared.declarations.specifier_word.SpecifierWord.{SpecifierWord}
use Rattle.mc_tree.specs.declared.declarations.specifier_word.SpecifierWord.TheVariants.{Typedef, Static, Extern, Void, Bool as Boolean, Char, Short, Int, Long, Signed, Unsigned}
use Rattle.mc_tree.specs.Tree.{TypeName, Specifiers, StructMember, Parameter, Declaration, ForStart, BlockItems, Item}
use Rattle.mc_tree.specs.Tree as tree
use Rattle.mc_grammar.specs.Counts.{Counts}

abbrev pub is_typedef_word : SpecifierWord → Bool
is_typedef_word Typedef = true
is_typedef_word _ = false

abbrev pub is_extern_word : SpecifierWord → Bool
is_extern_word Extern = true
is_extern_word _ = false

-- C17 6.7.1
abbrev pub is_storage_word : SpecifierWord → Bool
is_storage_word Typedef = true
is_storage_word Static = true
is_storage_word Extern = true
is_storage_word _ = false

-- a word that meets this test stands among the specifiers
abbrev pub some_word : (SpecifierWord → Bool) → Specifiers → Bool
some_word test tree.no_specifiers = false
some_word test (tree.specifiers (tree.Word w span) rest) = test w || some_word test rest
some_word test (tree.specifiers _ rest) = some_word test rest

-- how often one does
abbrev pub how_many : (SpecifierWord → Bool) → Specifiers → ℕ
how_many test tree.no_specifiers = 0
how_many test (tree.specifiers (tree.Word w span) rest) = how_many test rest +
    (if test w then 1 else 0)
how_many test (tree.specifiers _ rest) = how_many test rest

-- the lists of words of C17 6.7.2, each in one order, without those of floating types
abbrev pub type_lists : List (List SpecifierWord)
type_lists =
    (Void ∷ []) ∷ (Boolean ∷ []) ∷ (Char ∷ []) ∷ (Signed ∷ Char ∷ []) ∷ (Unsigned ∷ Char ∷ [])
    ∷ (Short ∷ []) ∷ (Signed ∷ Short ∷ []) ∷ (Short ∷ Int ∷ []) ∷ (Signed ∷ Short ∷ Int ∷ [])
    ∷ (Unsigned ∷ Short ∷ []) ∷ (Unsigned ∷ Short ∷ Int ∷ [])
    ∷ (Int ∷ []) ∷ (Signed ∷ []) ∷ (Signed ∷ Int ∷ []) ∷ (Unsigned ∷ []) ∷ (Unsigned ∷ Int ∷ [])
    ∷ (Long ∷ []) ∷ (Signed ∷ Long ∷ []) ∷ (Long ∷ Int ∷ []) ∷ (Signed ∷ Long ∷ Int ∷ [])
    ∷ (Unsigned ∷ Long ∷ []) ∷ (Unsigned ∷ Long ∷ Int ∷ [])
    ∷ (Long ∷ Long ∷ []) ∷ (Signed ∷ Long ∷ Long ∷ []) ∷ (Long ∷ Long ∷ Int ∷ [])
    ∷ (Signed ∷ Long ∷ Long ∷ Int ∷ [])
    ∷ (Unsigned ∷ Long ∷ Long ∷ []) ∷ (Unsigned ∷ Long ∷ Long ∷ Int ∷ []) ∷ []

abbrev pub specifiers_of : List SpecifierWord → Span → Specifiers
specifiers_of [] span = tree.no_specifiers
specifiers_of (w ∷ ws) span = tree.specifiers (tree.Word w span) (specifiers_of ws span)

-- these counts are those of one type (C17 6.7.2): a typedef name, a structure or an enumeration,
-- `void` or `_Bool` alone; or words of an integer type, at most two of them `long` and no other one
-- twice, of which `char` excludes `short`, `int` and `long`, and `short` excludes `long`
abbrev pub IsOneType : Counts → Type 0
IsOneType c =
    ((c.others + c.void + c.bool ≡ 1) × (c.char + c.short + c.int + c.long + c.signs ≡ 0))
    ⊎ ((c.others + c.void + c.bool ≡ 0) × (1 ≤ c.char + c.short + c.int + c.long + c.signs)
    × (c.signs ≤ 1) × (c.long ≤ 2)
    × (((c.char ≡ 1) × (c.short + c.int + c.long ≡ 0))
    ⊎ ((c.char ≡ 0) × (c.int ≤ 1) × (c.short ≤ 1) × ((c.short ≡ 0) ⊎ (c.long ≡ 0)))))

-- the specifiers of a part, where it has some
abbrev pub words_of_type_name : TypeName → Specifiers
words_of_type_name (tree.type_name s stars span) = s

abbrev pub words_of_member : StructMember → Specifiers
words_of_member (tree.member s all span) = s

abbrev pub words_of_parameter : Parameter → Specifiers
words_of_parameter (tree.parameter s stars name all span) = s

abbrev pub words_of_declaration : Declaration → Specifiers
words_of_declaration (tree.declaration s all span) = s

abbrev pub words_of_start : ForStart → Specifiers
words_of_start (tree.StartsLocal d) = words_of_declaration d
words_of_start (tree.StartsExpression a) = tree.no_specifiers

abbrev pub words_of_first : BlockItems → Specifiers
words_of_first tree.no_block_items = tree.no_specifiers
words_of_first (tree.local d rest) = words_of_declaration d
words_of_first (tree.statement s rest) = tree.no_specifiers

abbrev pub words_of_item : Item → Specifiers
words_of_item (tree.Declared d) = words_of_declaration d
words_of_item (tree.Defined s d body span) = s

abbrev pub words_of_function : Item → Specifiers
words_of_function (tree.Declared d) = tree.no_specifiers
words_of_function (tree.Defined s d body span) = s
