-- Which rows of the table stand side by side in a text.
use Rattle.std.specs.Prelude.{◌≡◌, List, Some, None}
use Rattle.mc_lex.specs.declared.token.Dialect.{Dialect}
use Rattle.mc_lex.specs.Tokens.{Tok}
use Rattle.mc_tree.specs.Tree.{Item}
use Rattle.mc_grammar.specs.Items.{IsTree}
use Rattle.mc_subset.specs.Nodes.{nodes_of_unit}
use Rattle.mc_subset.specs.Forms.{first_outside}
use Rattle.mc_typed.specs.Tree.{Program}
use Rattle.types_rules.specs.Typing.{typing_of}
use Rattle.mc_probe.specs.Maps.{Map}
use Rattle.mc_probe.specs.Table.{instrumented}
use Rattle.reread_law_texts.specs.alike.Moves.{FollowFrom}
use Rattle.reread_law_rows.specs.inserted.Rows.{rows_of}
use Rattle.reread_law_printed.specs.placed.Separate.{AreSeparate}

-- Of the rows of a text of the profile, at any places where its tokens follow each other, each may
-- stand directly after the one before it.
abbrev pub RowsAreSeparate : Type 0
RowsAreSeparate =
    (d : Dialect) (tokens : List Tok) (unit : List Item) (p : Program) (m : Map)
    → FollowFrom 0 tokens → IsTree d tokens unit → first_outside (nodes_of_unit unit) ≡ None
    → typing_of unit ≡ Some p → AreSeparate tokens (rows_of (instrumented m p))
