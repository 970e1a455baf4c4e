-- The readers of external declarations and of a whole unit, of fewer than so many levels.
use Rattle.std.specs.Prelude.{ℕ, zero, suc, Bool, true, false, ◌&&◌, nat_le, if◌then◌else◌, List, [], codes}
use Rattle.mc_span.specs.declared.span.Span.{Span}
use Rattle.mc_tree.specs.Tree.{Declarator, Item, Specifiers}
use Rattle.mc_tree.specs.Tree as tree
use Rattle.mc_tree.specs.Units.{block_from}
use Rattle.mc_grammar.specs.Places.{to}
use Rattle.mc_grammar.specs.Counts.{for_item, for_function, is_typedef}
use Rattle.mc_grammar.specs.steps.Parsers.{Parser, ◌>>=◌, pure, refuse, see, first, only}
use Rattle.mc_grammar.specs.steps.Next.{ended}
use Rattle.laws_grammar.specs.Lists.{listed, until_list}
use Rattle.laws_grammar.specs.Specifiers.{declarator_of}
use Rattle.laws_grammar.specs.Rooms.{reading}
use Rattle.laws_grammar.specs.Declarations.{declared_of, undeclared_of}
use Rattle.laws_grammar.specs.Statements.{compound_of, statement_of}

abbrev pub is_function : Declarator → Bool
is_function (tree.object stars name all span) = false
is_function (tree.function stars name all span) = true

-- the body of a function is one level
abbrev pub body_of : ℕ → Span → Specifiers → Declarator → Parser Item
body_of zero start s d = refuse
body_of (suc room) start s d = only (nat_le 1 room) (do
  b ← compound_of room (statement_of room)
  pure (tree.Defined s d (block_from b.items) (to start b.span)))

unfoldable pub defined_of : ℕ → Span → Specifiers → Declarator → Parser Item
defined_of rooms start s d = only (is_function d && for_function s) (body_of rooms start s d)

abbrev pub declaration_item_of : ℕ → Span → Specifiers → Declarator → Parser Item
declaration_item_of rooms start s d = do
  declaration ← declared_of (is_typedef s) rooms start s d
  pure (tree.Declared declaration)

abbrev pub undeclared_item_of : Span → Specifiers → Parser Item
undeclared_item_of start s = do
  declaration ← undeclared_of start s
  pure (tree.Declared declaration)

-- A `{` after the first declarator begins a body: no declaration goes on with one.
unfoldable pub item_of : ℕ → Parser Item
item_of rooms = do
  start ← first
  s ← (reading rooms).specifiers for_item
  ends ← see (codes ";")
  if ends then undeclared_item_of start s else (do
    d ← declarator_of (reading rooms)
    opens ← see (codes "{")
    if opens then defined_of rooms start s d else declaration_item_of rooms start s d)

unfoldable pub unit_of : ℕ → Parser (List Item)
unit_of rooms = listed (λ turns. until_list turns ended (item_of rooms) [])
