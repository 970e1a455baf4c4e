-- A statement in two steps: what stands before the statement that is a part of it, and the rest.
use Rattle.std.specs.Prelude.{ℕ, if◌then◌else◌, List, Option, codes}
use Rattle.mc_span.specs.declared.span.Span.{Span}
use Rattle.mc_tree.specs.Tree.{span_of_statement}
use Rattle.mc_tree.specs.Tree as tree
use Rattle.mc_grammar.specs.Words.{sees, sees_keyword}
use Rattle.mc_grammar.specs.Places.{at, name_at, to}
use Rattle.mc_grammar.specs.Nonterminal as nonterminal
use Rattle.mc_grammar.specs.steps.Parsers.{Parser, ◌>>=◌, pure, ask, take, expect, expect_keyword}
use Rattle.laws_grammar.specs.Rooms.{reading}
use Rattle.laws_grammar.specs.Statements as spec
use Rattle.laws_grammar.specs.Statements.{optional_of, test_of}
use Rattle.mc_parse.specs.declared.statements.beginnings.Beginning.{Beginning}
use Rattle.mc_parse.specs.declared.statements.beginnings.Beginning.TheVariants as beginning
use Rattle.mc_parse.specs.declared.statements.beginnings.Opener.{Opener}
use Rattle.mc_parse.specs.declared.statements.beginnings.Opener.TheVariants as opener
use Rattle.mc_parse.specs.declared.statements.beginnings.Whole.{Whole}
use Rattle.mc_parse.specs.declared.statements.beginnings.Whole.TheVariants as whole
use Rattle.mc_parse.specs.steps.Beginnings.{begins}

-- what stands before the one statement that is a part of another
pub data Opening : Type 0 where
  Label : tree.Name → Opening
  Case : Span → tree.Expression → Opening
  Default : Span → Opening
  Switch : Span → tree.Expression → Opening
  While : Span → tree.Expression → Opening
  For : Span → tree.ForStart → Option tree.Expression → Option tree.Expression → Opening

-- a statement that has no statement as a part
abbrev pub whole_by : ℕ → Whole → Parser tree.Statement
whole_by room whole.Null = spec.null_of
whole_by room whole.Goto = spec.goto_of
whole_by room whole.Continue = spec.continue_of
whole_by room whole.Break = spec.break_of
whole_by room whole.Return = spec.return_of (reading room)
whole_by room whole.Expression = spec.expression_statement_of (reading room)

-- a keyword and the expression between parentheses after it
abbrev pub tested : ℕ → Parser (Span × tree.Expression)
tested room = do
  x ← take
  a ← test_of (reading room)
  pure (at x, a)

abbrev pub label_opening : Parser Opening
label_opening = do
  x ← take
  y ← take
  pure (Label (name_at x))

abbrev pub case_opening : ℕ → Parser Opening
case_opening room = do
  x ← take
  a ← (reading room).expression nonterminal.cond
  y ← expect (codes ":")
  pure (Case (to (at x) (at y)) a)

abbrev pub default_opening : Parser Opening
default_opening = do
  x ← take
  y ← expect (codes ":")
  pure (Default (to (at x) (at y)))

abbrev pub switch_opening : ℕ → Parser Opening
switch_opening room = do
  p ← tested room
  pure (Switch p.0 p.1)

abbrev pub while_opening : ℕ → Parser Opening
while_opening room = do
  p ← tested room
  pure (While p.0 p.1)

-- an expression that may be left out, and the punctuator after it
abbrev pub ended_optional : List ℕ → ℕ → Parser (Option tree.Expression)
ended_optional stop room = do
  a ← optional_of stop (reading room)
  y ← expect stop
  pure a

abbrev pub for_opening : ℕ → Parser Opening
for_opening room = do
  x ← take
  y ← expect (codes "(")
  start ← spec.for_start_of room
  a ← ended_optional (codes ";") room
  b ← ended_optional (codes ")") room
  pure (For (at x) start a b)

abbrev pub opening_by : ℕ → Opener → Parser Opening
opening_by room opener.Label = label_opening
opening_by room opener.Case = case_opening room
opening_by room opener.Default = default_opening
opening_by room opener.Switch = switch_opening room
opening_by room opener.While = while_opening room
opening_by room opener.For = for_opening room

-- the test of a `do`, and where it ends
abbrev pub do_test : ℕ → Parser (tree.Expression × Span)
do_test room = do
  y ← expect_keyword (codes "while")
  a ← test_of (reading room)
  z ← expect (codes ";")
  pure (a, at z)

-- what ends a `do` after its statement
abbrev pub do_rest : ℕ → Span → tree.Statement → Parser tree.Statement
do_rest room first s = do
  p ← do_test room
  pure (tree.DoWhile s p.0 (to first p.1))

-- a statement of its opening and the statement that is its part
abbrev pub closed : Opening → tree.Statement → tree.Statement
closed (Label name) s = tree.Label name s (to name.span (span_of_statement s))
closed (Case label a) s = tree.Case a label s (to label (span_of_statement s))
closed (Default label) s = tree.Default label s (to label (span_of_statement s))
closed (Switch first a) s = tree.Switch a s (to first (span_of_statement s))
closed (While first a) s = tree.While a s (to first (span_of_statement s))
closed (For first start a b) s = tree.For start a b s (to first (span_of_statement s))

-- a statement after its opening
abbrev pub part_by : Parser tree.Statement → Opening → Parser tree.Statement
part_by statement opening = do
  s ← statement
  pure (closed opening s)

-- what an `if` chooses between
unfoldable pub choice_of : Parser tree.Statement → Span → tree.Expression → Parser tree.Statement
choice_of statement first a = do
  s ← statement
  other ← ask (sees_keyword (codes "else"))
  if other then (do
    y ← take
    u ← statement
    pure (tree.IfElse a s u (to first (span_of_statement u)))) else
      pure (tree.If a s (to first (span_of_statement s)))

abbrev pub do_by : ℕ → Parser tree.Statement → Parser tree.Statement
do_by room statement = do
  x ← take
  s ← statement
  do_rest room (at x) s

-- a statement that is not a block, by what begins it
abbrev pub other_by : ℕ → Parser tree.Statement → Beginning → Parser tree.Statement
other_by room statement (beginning.Whole kind) = whole_by room kind
other_by room statement beginning.If = do
  p ← tested room
  choice_of statement p.0 p.1
other_by room statement beginning.Do = do_by room statement
other_by room statement (beginning.Part opener) = do
  opening ← opening_by room opener
  part_by statement opening

abbrev pub other_of : ℕ → Parser tree.Statement → Parser tree.Statement
other_of room statement = λ ts. other_by room statement (begins ts) ts

-- a statement, by its front
abbrev pub statement_turn : ℕ → Parser tree.Statement → Parser tree.Statement
statement_turn room statement = λ ts. if sees (codes "{") ts
    then spec.block_statement_of room statement ts
    else other_of room statement ts
