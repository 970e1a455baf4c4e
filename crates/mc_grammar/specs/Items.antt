-- The grammar of external declarations, and of a whole source: one case for each alternative of a
-- production.
use Rattle.std.specs.Prelude.{◌≡◌, ◌≤◌, ℕ, Bool, true, false, not, ◌&&◌, List, [], ◌∷◌}
use Rattle.mc_limits.specs.Limits.{most_height, most_instrumented_height}
use Rattle.mc_lex.specs.declared.token.Dialect.{Dialect}
use Rattle.mc_lex.specs.declared.token.Dialect.TheVariants.{Plain, Instrumented}
use Rattle.mc_lex.specs.Tokens.{Tok}
use Rattle.mc_tree.specs.Tree.{Name, Specifiers, Parameters, Declaration, BlockItems, Item, span_of_parameters}
use Rattle.mc_tree.specs.Tree as tree
use Rattle.mc_tree.specs.Height.{height_unit}
use Rattle.mc_grammar.specs.Words.{Lexeme, is_name, lexemes_of}
use Rattle.mc_span.specs.declared.span.Span.{Span}
use Rattle.mc_grammar.specs.Places.{at, name_at, to}
use Rattle.mc_grammar.specs.Counts.{for_item, for_function, is_typedef}
use Rattle.mc_grammar.specs.Expressions.{ReadsSpecifiers, ReadsStars, ReadsParameters}
use Rattle.mc_grammar.specs.Statements.{ReadsDeclaration, ReadsCompound}

-- the words of an item that is a typedef, or of one that is not
abbrev pub is_item_of : Bool → Specifiers → Bool
is_item_of true s = for_item s && is_typedef s
is_item_of false s = for_item s && not (is_typedef s)

pub data ReadsItem (dialect : Dialect) : List Lexeme → Item → List Lexeme → Type 0 where
  -- item = specifiers [ initdecl { "," initdecl } ] ";"                                C17 6.9, 6.7
  declared : {typedef : Bool} {ts rest : List Lexeme} {d : Declaration}
      → ReadsDeclaration dialect typedef (is_item_of typedef) ts d rest
      → ReadsItem dialect ts (tree.Declared d) rest
  -- specifiers { "*" } identifier "(" params ")" compound                               C17 6.9.1
  -- The `{` after the `)` makes it a definition: no declaration goes on with one.
  defined : {x y z : Lexeme} {before span : Span} {ts words mid body rest : List Lexeme}
      {s : Specifiers} {stars : ℕ} {ps : Parameters} {b : BlockItems}
      → ReadsSpecifiers dialect false (x ∷ ts) s (y ∷ words) → for_function s ≡ true
      → ReadsStars (at y) (y ∷ words) stars before (z ∷ mid) → is_name z ≡ true
      → ReadsParameters dialect mid ps body → ReadsCompound dialect body b span rest
      → ReadsItem dialect (x ∷ ts)
      (tree.Defined s (tree.function stars (name_at z) ps (to (at y) (span_of_parameters ps))) b
      (to (at x) span)) rest

-- unit = { item }                                                                       C17 6.9
pub data ReadsUnit (dialect : Dialect) : List Lexeme → List Item → Type 0 where
  no_items : ReadsUnit dialect [] []
  item : {ts rest : List Lexeme} {i : Item} {all : List Item}
      → ReadsItem dialect ts i rest → ReadsUnit dialect rest all
      → ReadsUnit dialect ts (i ∷ all)

-- The tree of a list of tokens is a unit that leaves nothing.
abbrev pub IsTree : Dialect → List Tok → List Item → Type 0
IsTree dialect tokens unit = ReadsUnit dialect (lexemes_of tokens) unit

abbrev pub IsTreeWithin : ℕ → Dialect → List Tok → List Item → Type 0
IsTreeWithin limit dialect tokens unit = IsTree dialect tokens unit × (height_unit unit ≤ limit)

-- the greatest height of a tree that is read
abbrev pub greatest_height : Dialect → ℕ
greatest_height Plain = most_height
greatest_height Instrumented = most_instrumented_height

-- The syntax of a text: its tree, where that is not too high.
abbrev pub IsSyntaxOf : Dialect → List Tok → List Item → Type 0
IsSyntaxOf dialect tokens unit = IsTreeWithin (greatest_height dialect) dialect tokens unit
