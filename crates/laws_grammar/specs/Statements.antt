-- The readers of statements of fewer than so many levels.
use Rattle.std.specs.Prelude.{ℕ, zero, suc, if◌then◌else◌, List, [], Option, Some, None, codes}
use Rattle.mc_span.specs.declared.span.Span.{Span}
use Rattle.mc_tree.specs.Tree.{BlockItems, Expression, ForStart, Statement, span_of, span_of_statement}
use Rattle.mc_tree.specs.Tree as tree
use Rattle.mc_tree.specs.Units.{block_from}
use Rattle.mc_grammar.specs.Words.{Lexeme, is_name, sees, sees_keyword, sees_label, sees_specifiers}
use Rattle.mc_grammar.specs.Places.{at, name_at, to}
use Rattle.mc_grammar.specs.Counts.{for_local, for_type}
use Rattle.mc_grammar.specs.Nonterminal as nonterminal
use Rattle.mc_grammar.specs.steps.Parsers.{Parser, ◌>>=◌, pure, refuse, ask, see, take, accept, expect, expect_keyword}
use Rattle.laws_grammar.specs.Lists.{listed, until_list}
use Rattle.laws_grammar.specs.Expressions.{Parts}
use Rattle.laws_grammar.specs.Rooms.{reading}
use Rattle.laws_grammar.specs.Declarations.{local_of}

-- an expression that may be left out before this punctuator
unfoldable pub optional_of : List ℕ → Parts → Parser (Option Expression)
optional_of stop parts = do
  absent ← see stop
  if absent then pure None else (do
    a ← parts.expression nonterminal.comma
    pure (Some a))

unfoldable pub test_of : Parts → Parser Expression
test_of parts = do
  x ← expect (codes "(")
  a ← parts.expression nonterminal.comma
  y ← expect (codes ")")
  pure a

-- one item of a block
unfoldable pub block_item_of : ℕ → Parser Statement → Parser (BlockItems → BlockItems)
block_item_of rooms statement = do
  declares ← ask sees_specifiers
  if declares then (do
    d ← local_of for_local rooms
    pure (tree.local d)) else (do
      s ← statement
      pure (tree.statement s))

-- a block, and where it stands
pub record Block : Type 0 where
  pub items : List (BlockItems → BlockItems)
  pub span : Span

-- a block whose items have fewer than so many levels
unfoldable pub compound_of : ℕ → Parser Statement → Parser Block
compound_of rooms statement = do
  x ← expect (codes "{")
  all ← listed (λ turns. until_list turns (sees (codes "}")) (block_item_of rooms statement) [])
  y ← expect (codes "}")
  pure (record { items = all; span = to (at x) (at y) })

-- ---- each kind of statement

abbrev pub block_statement_of : ℕ → Parser Statement → Parser Statement
block_statement_of rooms statement = do
  b ← compound_of rooms statement
  pure (tree.Compound (block_from b.items) b.span)

abbrev pub null_of : Parser Statement
null_of = do
  y ← take
  pure (tree.Null (at y))

abbrev pub expression_statement_of : Parts → Parser Statement
expression_statement_of parts = do
  a ← parts.expression nonterminal.comma
  y ← expect (codes ";")
  pure (tree.ExpressionStatement a (to (span_of a) (at y)))

abbrev pub if_of : Parts → Parser Statement → Parser Statement
if_of parts statement = do
  x ← take
  a ← test_of parts
  s ← statement
  other ← ask (sees_keyword (codes "else"))
  if other then (do
    y ← take
    u ← statement
    pure (tree.IfElse a s u (to (at x) (span_of_statement u)))) else
      pure (tree.If a s (to (at x) (span_of_statement s)))

abbrev pub switch_of : Parts → Parser Statement → Parser Statement
switch_of parts statement = do
  x ← take
  a ← test_of parts
  s ← statement
  pure (tree.Switch a s (to (at x) (span_of_statement s)))

abbrev pub while_of : Parts → Parser Statement → Parser Statement
while_of parts statement = do
  x ← take
  a ← test_of parts
  s ← statement
  pure (tree.While a s (to (at x) (span_of_statement s)))

abbrev pub do_while_of : Parts → Parser Statement → Parser Statement
do_while_of parts statement = do
  x ← take
  s ← statement
  y ← expect_keyword (codes "while")
  a ← test_of parts
  z ← expect (codes ";")
  pure (tree.DoWhile s a (to (at x) (at z)))

unfoldable pub for_start_of : ℕ → Parser ForStart
for_start_of rooms = do
  declares ← ask sees_specifiers
  if declares then (do
    d ← local_of for_type rooms
    pure (tree.StartsLocal d)) else (do
      a ← optional_of (codes ";") (reading rooms)
      y ← expect (codes ";")
      pure (tree.StartsExpression a))

abbrev pub for_of : ℕ → Parts → Parser Statement → Parser Statement
for_of rooms parts statement = do
  x ← take
  y ← expect (codes "(")
  start ← for_start_of rooms
  a ← optional_of (codes ";") parts
  z ← expect (codes ";")
  b ← optional_of (codes ")") parts
  v ← expect (codes ")")
  s ← statement
  pure (tree.For start a b s (to (at x) (span_of_statement s)))

abbrev pub case_of : Parts → Parser Statement → Parser Statement
case_of parts statement = do
  x ← take
  a ← parts.expression nonterminal.cond
  y ← expect (codes ":")
  s ← statement
  pure (tree.Case a (to (at x) (at y)) s (to (at x) (span_of_statement s)))

abbrev pub default_of : Parser Statement → Parser Statement
default_of statement = do
  x ← take
  y ← expect (codes ":")
  s ← statement
  pure (tree.Default (to (at x) (at y)) s (to (at x) (span_of_statement s)))

abbrev pub label_of : Parser Statement → Parser Statement
label_of statement = do
  x ← take
  y ← take
  s ← statement
  pure (tree.Label (name_at x) s (to (at x) (span_of_statement s)))

abbrev pub goto_of : Parser Statement
goto_of = do
  x ← take
  y ← accept is_name
  z ← expect (codes ";")
  pure (tree.Goto (name_at y) (to (at x) (at z)))

abbrev pub continue_of : Parser Statement
continue_of = do
  x ← take
  y ← expect (codes ";")
  pure (tree.Continue (to (at x) (at y)))

abbrev pub break_of : Parser Statement
break_of = do
  x ← take
  y ← expect (codes ";")
  pure (tree.Break (to (at x) (at y)))

abbrev pub return_of : Parts → Parser Statement
return_of parts = do
  x ← take
  a ← optional_of (codes ";") parts
  y ← expect (codes ";")
  pure (tree.Return a (to (at x) (at y)))

-- ---- which statement begins

-- what the next tokens begin
pub data Beginning : Type 0 where
  block null if_ switch while do_ for_ case_ default_ label goto_ continue_ break_ return_
      expression
      : Beginning

abbrev pub keyword_begins : List Lexeme → Beginning
keyword_begins ts = if sees_keyword (codes "if") ts then if_
    else (if sees_keyword (codes "switch") ts then switch
    else (if sees_keyword (codes "while") ts then while
    else (if sees_keyword (codes "do") ts then do_
    else (if sees_keyword (codes "for") ts then for_
    else (if sees_keyword (codes "case") ts then case_
    else (if sees_keyword (codes "default") ts then default_
    else (if sees_keyword (codes "goto") ts then goto_
    else (if sees_keyword (codes "continue") ts then continue_
    else (if sees_keyword (codes "break") ts then break_
    else (if sees_keyword (codes "return") ts then return_ else expression))))))))))

abbrev pub begins : List Lexeme → Beginning
begins ts = if sees (codes "{") ts then block
    else (if sees (codes ";") ts then null
    else (if sees_label ts then label else keyword_begins ts))

abbrev pub statement_by : ℕ → Parser Statement → Beginning → Parser Statement
statement_by room statement block = block_statement_of room statement
statement_by room statement null = null_of
statement_by room statement if_ = if_of (reading room) statement
statement_by room statement switch = switch_of (reading room) statement
statement_by room statement while = while_of (reading room) statement
statement_by room statement do_ = do_while_of (reading room) statement
statement_by room statement for_ = for_of room (reading room) statement
statement_by room statement case_ = case_of (reading room) statement
statement_by room statement default_ = default_of statement
statement_by room statement label = label_of statement
statement_by room statement goto_ = goto_of
statement_by room statement continue_ = continue_of
statement_by room statement break_ = break_of
statement_by room statement return_ = return_of (reading room)
statement_by room statement expression = expression_statement_of (reading room)

-- no statement has no level
abbrev pub statement_in : ℕ → Parser Statement → Parser Statement
statement_in zero statement = refuse
statement_in (suc room) statement = do
  beginning ← ask begins
  statement_by (suc room) statement beginning

unfoldable pub statement_of : ℕ → Parser Statement
statement_of zero = refuse
statement_of (suc room) = statement_in room (statement_of room)
