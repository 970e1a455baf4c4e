-- What is read of a list of tokens is read of the same tokens at other places, and gives the same
-- tree at those places.
use Rattle.std.specs.Prelude.{◌≡◌, ◌<◌, ◌↔◌, ℕ, Bool, List, map, length, Option, is_some, Contains}
use Rattle.mc_span.specs.declared.span.Span.{Span}
use Rattle.mc_lex.specs.declared.token.Dialect.{Dialect}
use Rattle.mc_lex.specs.declared.fault.LexFault.{LexFault}
use Rattle.mc_lex.specs.Tokens.{Tok}
use Rattle.mc_lex.specs.Scans.{Scans}
use Rattle.mc_tree.specs.Tree.{Expression, ArrayLengths, BlockItems, Item}
use Rattle.mc_tree.specs.Height.{height_unit}
use Rattle.mc_grammar.specs.Words.{Lexeme}
use Rattle.mc_grammar.specs.Counts.{Counts, counts}
use Rattle.mc_grammar.specs.Nonterminal.{Nonterminal}
use Rattle.mc_grammar.specs.Expressions.{Reads, ReadsStars, ReadsArrayLengths}
use Rattle.mc_grammar.specs.Statements.{ReadsDeclaration, ReadsCompound}
use Rattle.mc_grammar.specs.Items.{IsTree}
use Rattle.mc_subset.specs.Nodes.{nodes_of_unit}
use Rattle.mc_subset.specs.Forms.{form_of, first_outside}
use Rattle.reread_law_texts.specs.alike.Moves.{Move, AllFit, AreAlike, FollowFrom, between, end_of, moved_span, moved_tokens, moved_lexemes, tokens_of}
use Rattle.reread_law_texts.specs.alike.Trees.{moved, moved_lengths, moved_declaration, moved_block, moved_unit, moved_nonterminal}

-- ---- parts of a text

-- What one dialect reads of some tokens, every dialect reads of the moved tokens: the moved tree.
-- It leaves the moved rest.
abbrev pub MovesAlong : {T : Type 0} → (Move → T → T)
    → (Dialect → List Lexeme → T → List Lexeme → Type 0) → Type 0
MovesAlong {T = T} moved_one reads =
    (d to : Dialect) (m : Move) (ts rest : List Lexeme) (one : T) → AllFit m (tokens_of ts)
    → reads d ts one rest → reads to (moved_lexemes m ts) (moved_one m one) (moved_lexemes m rest)

-- an expression of each nonterminal
abbrev pub ExpressionMoves : Type 0
ExpressionMoves =
    (d to : Dialect) (m : Move) (k : Nonterminal) (ts rest : List Lexeme) (a : Expression)
    → AllFit m (tokens_of ts) → Reads d k ts a rest
    → Reads to (moved_nonterminal m k) (moved_lexemes m ts) (moved m a) (moved_lexemes m rest)

-- `*`, between two places
abbrev pub StarsMove : Type 0
StarsMove =
    (m : Move) (before end : Span) (ts rest : List Lexeme) (stars : ℕ)
    → AllFit m (tokens_of ts) → ReadsStars before ts stars end rest
    → ReadsStars (moved_span m before) (moved_lexemes m ts) stars (moved_span m end)
    (moved_lexemes m rest)

-- the lengths of an array, between two places
abbrev pub LengthsMove : Type 0
LengthsMove =
    (d to : Dialect) (m : Move) (before end : Span) (ts rest : List Lexeme) (all : ArrayLengths)
    → AllFit m (tokens_of ts) → ReadsArrayLengths d before ts all end rest
    → ReadsArrayLengths to (moved_span m before) (moved_lexemes m ts) (moved_lengths m all)
    (moved_span m end) (moved_lexemes m rest)

-- a declaration, whatever test the counts of its words meet
abbrev pub DeclarationMoves : Type 0
DeclarationMoves =
    (typedef : Bool) (test : Counts → Bool) → MovesAlong moved_declaration
    (λ d. ReadsDeclaration d typedef (λ words. test (counts words)))

-- a compound statement, and where it stands
abbrev pub CompoundMoves : Type 0
CompoundMoves =
    (d to : Dialect) (m : Move) (ts rest : List Lexeme) (all : BlockItems) (span : Span)
    → AllFit m (tokens_of ts) → ReadsCompound d ts all span rest
    → ReadsCompound to (moved_lexemes m ts) (moved_block m all) (moved_span m span)
    (moved_lexemes m rest)

-- ---- whole texts

abbrev pub TreeMoves : Type 0
TreeMoves =
    (d to : Dialect) (m : Move) (tokens : List Tok) (unit : List Item)
    → AllFit m tokens → IsTree d tokens unit
    → IsTree to (moved_tokens m tokens) (moved_unit m unit)

-- two lists with the same kinds and texts, where the tokens of the first follow each other
abbrev pub AlikeTokensAreMoved : Type 0
AlikeTokensAreMoved =
    (tokens others : List Tok) → AreAlike tokens others → FollowFrom 0 tokens
    → (moved_tokens (between tokens others) tokens ≡ others)
    × AllFit (between tokens others) tokens

-- the tree of the one is that of the other, but for its places
abbrev pub AlikeTextsHaveMovedTrees : Type 0
AlikeTextsHaveMovedTrees =
    (d to : Dialect) (tokens others : List Tok) (unit : List Item)
    → AreAlike tokens others → FollowFrom 0 tokens → IsTree d tokens unit
    → IsTree to others (moved_unit (between tokens others) unit)

-- the tokens of bytes follow each other (C17 5.1.1.2)
abbrev pub TokensFollow : Type 0
TokensFollow =
    (d : Dialect) (before bytes : List ℕ) (tokens : List Tok) (stop : Option LexFault)
    → Scans d before bytes tokens stop → FollowFrom (length before) tokens

-- Where the moved tokens follow each other too, starts and ends of tokens have the same order.
abbrev pub OrderIsKept : Type 0
OrderIsKept =
    (m : Move) (tokens : List Tok) (x y : Tok)
    → AllFit m tokens → FollowFrom 0 tokens → FollowFrom 0 (moved_tokens m tokens)
    → Contains tokens x → Contains tokens y
    → (x.start < y.start ↔ m.start x.start < m.start y.start)
    × (x.start < end_of y ↔ m.start x.start < m.end (end_of y))

-- ---- what is kept

abbrev pub HeightIsKept : Type 0
HeightIsKept = (m : Move) (unit : List Item) → height_unit (moved_unit m unit) ≡ height_unit unit

-- the form of each node, or that it has none
abbrev pub FormsAreKept : Type 0
FormsAreKept =
    (m : Move) (unit : List Item)
    → map form_of (nodes_of_unit (moved_unit m unit)) ≡ map form_of (nodes_of_unit unit)

-- whether a node has an outside form
abbrev pub RefusalIsKept : Type 0
RefusalIsKept =
    (m : Move) (unit : List Item)
    → is_some (first_outside (nodes_of_unit (moved_unit m unit)))
    ≡ is_some (first_outside (nodes_of_unit unit))
