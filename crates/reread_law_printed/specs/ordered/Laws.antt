-- The rows of a body stand in the order of the text.
use Rattle.std.specs.Prelude.{ℕ, List, [], map}
use Rattle.mc_lex.specs.declared.token.Dialect.{Dialect}
use Rattle.mc_grammar.specs.Words.{Lexeme}
use Rattle.mc_grammar.specs.Statements.{ReadsBlockItems}
use Rattle.reread_law_texts.specs.alike.Moves.{FollowFrom}
use Rattle.mc_tree.specs.Tree.{BlockItems}
use Rattle.mc_typed.specs.Tree.{Statements}
use Rattle.mc_probe.specs.Maps.{Map}
use Rattle.mc_probe.specs.Table.{At, put_statements}
use Rattle.reread_law_rows.specs.inserted.Rows.{rows_in_statements}
use Rattle.reread_law_printed.specs.parts.Stands.{AreInOrder}
use Rattle.laws_types.specs.SourceUnits.{AreItemsOf}
use Rattle.reread_law_printed.specs.ordered.Nested.{InBlock}

-- Where the parts of a body stand one after the other between two bytes, its rows do.
abbrev pub RowsAreInOrder : Type 0
RowsAreInOrder =
    (m : Map) (first register : ℕ) (at : At m first) (b : BlockItems) (all : Statements)
    (from to : ℕ) → AreItemsOf b all → InBlock from b to
    → AreInOrder from (rows_in_statements (put_statements m first register at all) []) to

-- The items of a block are read from tokens that follow each other: its parts stand one after the
-- other, up to a byte from which on the rest of these tokens follows.
abbrev pub BlocksAreNested : Type 0
BlocksAreNested =
    (d : Dialect) (ts rest : List Lexeme) (b : BlockItems) (from : ℕ)
    → ReadsBlockItems d ts b rest → FollowFrom from (map (λ x. x.token) ts)
    → (to : ℕ) × InBlock from b to × FollowFrom to (map (λ x. x.token) rest)
