-- The places in a text.
use Rattle.std.specs.Prelude.{List}
use Rattle.mc_lex.specs.declared.token.Dialect.{Dialect}
use Rattle.mc_lex.specs.Tokens.{Tok}
use Rattle.mc_tree.specs.Tree.{Item}
use Rattle.mc_grammar.specs.Items.{IsTree}
use Rattle.reread_law_texts.specs.alike.Moves.{FollowFrom}
use Rattle.reread_law_texts.specs.apart.Places.{spans_in_unit, statement_spans_in_unit}
use Rattle.reread_law_texts.specs.apart.Distinct.{Each, IsDistinct, HasBytes}
use Rattle.reread_law_texts.specs.apart.Enclosed.{EnclosesInUnit}

-- No two expressions of a text stand at one place.
abbrev pub ExpressionsAreApart : Type 0
ExpressionsAreApart =
    (d : Dialect) (tokens : List Tok) (unit : List Item)
    → FollowFrom 0 tokens → IsTree d tokens unit → IsDistinct (spans_in_unit unit)

-- No two statements do that are neither compound statements nor labelled.
abbrev pub StatementsAreApart : Type 0
StatementsAreApart =
    (d : Dialect) (tokens : List Tok) (unit : List Item)
    → FollowFrom 0 tokens → IsTree d tokens unit → IsDistinct (statement_spans_in_unit unit)

-- Parentheses round an expression and round the type of a cast, and the braces of a compound
-- statement, start before what they enclose; a function's definition starts before the first item
-- of its body.
abbrev pub BracketsStartBefore : Type 0
BracketsStartBefore =
    (d : Dialect) (tokens : List Tok) (unit : List Item)
    → FollowFrom 0 tokens → IsTree d tokens unit → EnclosesInUnit unit

-- Expressions and statements have at least one byte.
abbrev pub PlacesHaveBytes : Type 0
PlacesHaveBytes =
    (d : Dialect) (tokens : List Tok) (unit : List Item)
    → FollowFrom 0 tokens → IsTree d tokens unit
    → Each HasBytes (spans_in_unit unit) × Each HasBytes (statement_spans_in_unit unit)
