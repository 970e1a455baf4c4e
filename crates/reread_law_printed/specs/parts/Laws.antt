-- What the parts of the text of a program with probes are.
use Rattle.std.specs.Prelude.{◌≡◌, ◌≤◌, ℕ, List, [], All, map, None, decimal}
use Rattle.mc_lex.specs.declared.token.Dialect.TheVariants.{Plain}
use Rattle.mc_lex.specs.Tokens.{Tok}
use Rattle.mc_lex.specs.Scans.{Scans}
use Rattle.reread_pieces.specs.Pieces.{ArePieces, start}
use Rattle.reread_pieces.specs.Plain.{plain_of}
use Rattle.reread_probes.specs.Probes.{probes}
use Rattle.mc_probe.specs.Tree as p
use Rattle.reread_law_texts.specs.alike.Moves.{Move, FollowFrom, AreAlike, end_of, moved_tokens}
use Rattle.reread_law_texts.specs.alike.Moves as alike
use Rattle.reread_law_texts.specs.brackets.Signs.{poured}
use Rattle.mc_print.specs.Pens.{texts_of}
use Rattle.mc_print.specs.Texts.{text_of}
use Rattle.reread_law_printed.specs.spelled.Words.{kind_in, number}
use Rattle.reread_law_rows.specs.inserted.Rows.{rows_of}
use Rattle.reread_law_rows.specs.inserted.Signs.{signs_of}
use Rattle.reread_law_rows.specs.inserted.Seats.{probe_rows, AreThere}
use Rattle.reread_law_rows.specs.inserted.Fits.{AllFit}
use Rattle.reread_law_printed.specs.parts.Parts.{Part, parts_of, words_of, rows_among, own_texts}
use Rattle.reread_law_printed.specs.parts.Stands.{AreAmong}
use Rattle.reread_law_printed.specs.parts.Marks.{marks, own_tokens}
use Rattle.reread_law_printed.specs.parts.Moved.{AreMoved}
use Rattle.reread_law_printed.specs.parts.Closed.{AllClose, AreBalanced}
use Rattle.reread_law_printed.specs.parts.Shaped.{IsShaped, tokens_at}
use Rattle.reread_law_printed.specs.parts.Placed.{IsPlaced}

-- The functions and rows of a program stand among the tokens of its source.
pub record Stands (tokens : List Tok) (tree : p.Tree) : Type 0 where
  pub follow : FollowFrom 0 tokens
  pub fit : AllFit tokens (rows_of tree)
  pub functions : AreAmong tree.program.functions tokens

-- The parts, one after the other, are the text.
abbrev pub WordsOfParts : Type 0
WordsOfParts =
    (tokens : List Tok) (tree : p.Tree) → Stands tokens tree
    → words_of (parts_of tokens tree) ≡ text_of tokens tree

-- Those that are rows are the rows of the program, in the order of the text.
abbrev pub RowsOfParts : Type 0
RowsOfParts =
    (tokens : List Tok) (tree : p.Tree)
    → rows_among (parts_of tokens tree) ≡ map (λ r. r.what) (rows_of tree)

-- The others, with those in place of which rows are put, are the tokens of the source.
abbrev pub OwnTokensStay : Type 0
OwnTokensStay =
    (tokens : List Tok) (tree : p.Tree) → Stands tokens tree
    → own_texts (parts_of tokens tree) ≡ texts_of tokens

-- What they open is closed, the innermost first.
abbrev pub PartsClose : Type 0
PartsClose =
    (tokens : List Tok) (tree : p.Tree) → (h : Stands tokens tree)
    → AreBalanced tree.program.functions tokens h.functions → AllClose [] (parts_of tokens tree)

-- At other places of the tokens the parts are the same.
abbrev pub PartsMove : Type 0
PartsMove =
    (m : Move) (tokens : List Tok) (tree other : p.Tree) → Stands tokens tree
    → alike.AllFit m tokens → FollowFrom 0 (moved_tokens m tokens)
    → AreMoved m tree.program.functions other.program.functions
    → parts_of (moved_tokens m tokens) other ≡ parts_of tokens tree

-- ---- in the printed text

-- The tokens of the source among the pieces have the kinds and texts of the tokens of the source,
-- in their order.
abbrev pub OwnTokensAreAlike : Type 0
OwnTokensAreAlike =
    (text : List ℕ) (tokens : List Tok) (tree : p.Tree) → Scans Plain [] text tokens None
    → Stands tokens tree → AreAlike tokens (own_tokens (marks tokens (parts_of tokens tree)))

-- No token ends after byte 4294967295.
abbrev pub EndInTime : List Tok → Type 0
EndInTime tokens = All (λ t. end_of t ≤ 4294967295) tokens

-- Where the tokens have the places at which they are printed, the probes of the printed text stand
-- at the rows of the program. `source` gives the words their kinds.
abbrev pub ProbesAreThere : Type 0
ProbesAreThere =
    (source tokens : List Tok) (tree : p.Tree) → Stands tokens tree → EndInTime tokens
    → own_tokens (marks source (parts_of tokens tree)) ≡ tokens
    → AreThere (probe_rows (rows_of tree)) (probes (marks source (parts_of tokens tree)))

-- There the text without its probes is the source with brackets at its rows.
abbrev pub PlainIsPoured : Type 0
PlainIsPoured =
    (source tokens : List Tok) (tree : p.Tree) → Stands tokens tree → EndInTime tokens
    → own_tokens (marks source (parts_of tokens tree)) ≡ tokens
    → plain_of (marks source (parts_of tokens tree)) ≡ poured (signs_of (rows_of tree)) tokens

-- A number that is printed is read as a decimal constant, or as `0`, also where the source has it
-- too.
abbrev pub HasNumerals : List Tok → Type 0
HasNumerals source = (n : ℕ) → n ≤ 4294967295 → kind_in source (decimal n) ≡ number n

-- Where what is opened is closed, it is enough to look at what stands directly before a part, and
-- at what follows it.
abbrev pub PlacedPartsAreShaped : Type 0
PlacedPartsAreShaped =
    (source : List Tok) (parts : List Part) → AllClose [] parts
    → IsPlaced source (start (tokens_at source 0 (words_of parts))) 0 parts
    → IsShaped source (start (tokens_at source 0 (words_of parts))) 0 parts

-- Parts of which each may stand where it does are read as the pieces that they are.
abbrev pub ShapedPartsArePieces : Type 0
ShapedPartsArePieces =
    (source : List Tok) (parts : List Part) → HasNumerals source
    → IsShaped source (start (tokens_at source 0 (words_of parts))) 0 parts
    → ArePieces (tokens_at source 0 (words_of parts)) (marks source parts)

-- Where each part may stand where it is printed, the printed text is read as the parts of the
-- program.
abbrev pub PiecesOfParts : Type 0
PiecesOfParts =
    (source tokens : List Tok) (tree : p.Tree) → (h : Stands tokens tree)
    → AreBalanced tree.program.functions tokens h.functions → HasNumerals source
    → IsPlaced source (start (tokens_at source 0 (text_of tokens tree))) 0 (parts_of tokens tree)
    → ArePieces (tokens_at source 0 (text_of tokens tree)) (marks source (parts_of tokens tree))
