-- What the laws speak of: the names that items declare, lists of items, and `T * x;` as tokens and
-- as trees.
use Rattle.std.specs.Prelude.{◌≡◌, ℕ, Bool, true, false, ◌&&◌, All, List, [], ◌∷◌, map, flat_map, codes, if◌then◌else◌}
use Rattle.std.specs.Str.{bytes_eq}
use Rattle.std.specs.List.{list_any}
use Rattle.mc_lex.specs.declared.token.TokenKind.TheVariants as kind
use Rattle.mc_tree.specs.declared.expressions.binary_operator.BinaryOperator.TheVariants as binary
use Rattle.mc_lex.specs.declared.token.Dialect.{Dialect}
use Rattle.mc_tree.specs.Tree.{Expression, BlockItems, InitDeclarator, Item, name_of}
use Rattle.mc_tree.specs.Tree as tree
use Rattle.mc_grammar.specs.Words.{Lexeme, lexeme_of, is_name}
use Rattle.mc_grammar.specs.Places.{at, name_at, to}
use Rattle.mc_grammar.specs.Counts.{is_typedef}
use Rattle.mc_grammar.specs.Items.{ReadsItem}

abbrev pub is_cast : Expression → Bool
is_cast (tree.Cast type operand span) = true
is_cast _ = false

-- an identifier of this text that is not a typedef name
abbrev pub is_name_of : List ℕ → Lexeme → Bool
is_name_of name x = is_name x && bytes_eq x.token.text name

-- no token is one
abbrev pub IsGone : List ℕ → List Lexeme → Type 0
IsGone name ts = list_any (is_name_of name) ts ≡ false

-- of none of these texts
abbrev pub AreGone : List (List ℕ) → List Lexeme → Type 0
AreGone names ts = All (λ name. IsGone name ts) names

-- the text of the name that a declarator declares, with or without a value
abbrev pub declared_name : InitDeclarator → List ℕ
declared_name (tree.bare d) = (name_of d).text
declared_name (tree.initialized d value) = (name_of d).text

-- the texts of the names that the declarators of a declaration declare
abbrev pub names_of : List InitDeclarator → List (List ℕ)
names_of all = map declared_name all

-- the texts of the names that an item declares: its declarators', or its function's
abbrev pub declared_names : Item → List (List ℕ)
declared_names (tree.Declared (tree.declaration s all span)) = names_of all
declared_names (tree.Defined s d body span) = (name_of d).text ∷ []

-- those of them that are typedef names from there on (C17 6.7.8)
abbrev pub typedef_names : Item → List (List ℕ)
typedef_names (tree.Declared (tree.declaration s all span)) = if is_typedef s then names_of all
    else []
typedef_names (tree.Defined s d body span) = []

-- the typedef names of several items, joined
abbrev pub typedef_names_of : List Item → List (List ℕ)
typedef_names_of all = flat_map typedef_names all

-- these items are read from the front, and leave the rest
pub data ReadsItems (dialect : Dialect) : List Lexeme → List Item → List Lexeme → Type 0 where
  no_items : {ts : List Lexeme} → ReadsItems dialect ts [] ts
  item : {ts mid rest : List Lexeme} {i : Item} {all : List Item}
      → ReadsItem dialect ts i mid → ReadsItems dialect mid all rest
      → ReadsItems dialect ts (i ∷ all) rest

-- tokens of these texts, at these places
abbrev pub identifier : List ℕ → ℕ → Lexeme
identifier text start = lexeme_of (record { kind = kind.Identifier; text = text; start = start })

abbrev pub type_name : List ℕ → ℕ → Lexeme
type_name text start = record { token = (identifier text start).token; names_type = true }

abbrev pub punctuator : List ℕ → ℕ → Lexeme
punctuator text start = lexeme_of (record { kind = kind.Punctuator; text = text; start = start })

-- the tree of `T * x;` in a block where `T` is a typedef name
abbrev pub declares : List ℕ → List ℕ → ℕ → ℕ → ℕ → ℕ → BlockItems
declares name other type_place star_place name_place semicolon_place =
    let x = identifier other name_place in
    tree.local
    (tree.declaration (tree.specifiers (tree.TypedefName (name_at (type_name name type_place)))
    tree.no_specifiers)
    (tree.bare (tree.object 1 (name_at x) tree.no_lengths
    (to (at (punctuator (codes "*") star_place)) (at x))) ∷ [])
    (to (at (type_name name type_place)) (at (punctuator (codes ";") semicolon_place))))
    tree.no_block_items

-- the tree of `a * x;` in a block where `a` is not a typedef name
abbrev pub multiplies : List ℕ → List ℕ → ℕ → ℕ → ℕ → ℕ → BlockItems
multiplies name other type_place star_place name_place semicolon_place =
    let x = identifier name type_place in
    let y = identifier other name_place in
    tree.statement
    (tree.ExpressionStatement (tree.Binary binary.Multiply (tree.Named (name_at x))
    (tree.Named (name_at y))
    (to (at x) (at y))) (to (at x) (at (punctuator (codes ";") semicolon_place))))
    tree.no_block_items
