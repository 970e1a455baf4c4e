-- Brackets that were put into a tree, and are taken out again as those of probes are.
use Rattle.std.specs.Prelude.{◌≡◌, List}
use Rattle.mc_lex.specs.declared.token.Dialect.{Dialect}
use Rattle.mc_lex.specs.Tokens.{Tok}
use Rattle.mc_tree.specs.Tree.{Item}
use Rattle.mc_grammar.specs.Items.{IsTree}
use Rattle.reread_law_texts.specs.alike.Moves.{FollowFrom}
use Rattle.reread_law_texts.specs.weave.Brackets.{Brackets}
use Rattle.reread_law_texts.specs.weave.Trees.{bracketed_unit}
use Rattle.reread_plain_tree.specs.Unprobed.{unprobed_unit}

-- Without the brackets of probes a tree is the same, whether or not brackets were put into it.
abbrev pub BracketsGo : Type 0
BracketsGo =
    (w : Brackets) (unit : List Item) → unprobed_unit (bracketed_unit w unit) ≡ unprobed_unit unit

-- The tree of a text has none: each bracket of a text starts before what it encloses.
abbrev pub TextsHaveNone : Type 0
TextsHaveNone =
    (d : Dialect) (tokens : List Tok) (unit : List Item)
    → FollowFrom 0 tokens → IsTree d tokens unit → unprobed_unit unit ≡ unit

-- So the tree of a text comes back where brackets were put into it.
abbrev pub TreesComeBack : Type 0
TreesComeBack =
    (d : Dialect) (w : Brackets) (tokens : List Tok) (unit : List Item)
    → FollowFrom 0 tokens → IsTree d tokens unit
    → unprobed_unit (bracketed_unit w unit) ≡ unit
