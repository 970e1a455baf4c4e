-- What is read of tokens with brackets.
use Rattle.std.specs.Prelude.{◌<◌, ◌≤◌, ◌+◌, ◌*◌, ℕ, List}
use Rattle.mc_lex.specs.declared.token.Dialect.{Dialect}
use Rattle.mc_lex.specs.Tokens.{Tok}
use Rattle.mc_tree.specs.Tree.{Item}
use Rattle.mc_tree.specs.Height.{height_unit}
use Rattle.mc_grammar.specs.Items.{ReadsUnit, IsTree}
use Rattle.reread_law_texts.specs.weave.Brackets.{Brackets, AreAfterTokens, AreAtMost}
use Rattle.reread_law_texts.specs.weave.Trees.{bracketed_unit}
use Rattle.reread_law_texts.specs.weave.Weaving.{woven}

-- The tree of a text with brackets is the tree of the text, with these brackets, in every dialect.
abbrev pub WovenTextsHaveBracketedTrees : Type 0
WovenTextsHaveBracketedTrees =
    (d to : Dialect) (w : Brackets) (tokens : List Tok) (unit : List Item)
    (p : IsTree d tokens unit)
    → AreAfterTokens w → ReadsUnit to (woven w tokens p) (bracketed_unit w unit)

-- With at most so many parentheses round an expression, and braces at most once round a statement,
-- the tree is at most so many times as high, and once more.
abbrev pub HeightIsWithin : Type 0
HeightIsWithin =
    (m : ℕ) (w : Brackets) (unit : List Item) → 0 < m → AreAtMost m w
    → height_unit (bracketed_unit w unit) ≤ (m + 1) * height_unit unit
