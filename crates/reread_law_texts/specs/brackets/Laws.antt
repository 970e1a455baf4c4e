-- Brackets that are put into a text by their places.
use Rattle.std.specs.Prelude.{List}
use Rattle.mc_lex.specs.declared.token.Dialect.{Dialect}
use Rattle.mc_lex.specs.Tokens.{Tok}
use Rattle.mc_tree.specs.Tree.{Item}
use Rattle.mc_grammar.specs.Items.{IsTree}
use Rattle.reread_law_texts.specs.alike.Moves.{FollowFrom}
use Rattle.reread_law_texts.specs.weave.Brackets.{Brackets, AreAfterTokens}
use Rattle.reread_law_texts.specs.weave.Trees.{bracketed_unit}
use Rattle.reread_law_texts.specs.brackets.Signs.{poured, signs_in_unit}

-- The brackets of a tree, put by their places into the tokens of its text, make a text with that
-- tree and these brackets, in every dialect.
abbrev pub PouredTextsHaveBracketedTrees : Type 0
PouredTextsHaveBracketedTrees =
    (d to : Dialect) (w : Brackets) (tokens : List Tok) (unit : List Item)
    → AreAfterTokens w → FollowFrom 0 tokens → IsTree d tokens unit
    → IsTree to (poured (signs_in_unit w unit) tokens) (bracketed_unit w unit)
