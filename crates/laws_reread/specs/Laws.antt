-- A printed text, read again, is the tree that was printed.
use Rattle.std.specs.Prelude.{◌≡◌, ◌<◌, ◌≤◌, ◌^◌, ℕ, List, [], length, All, Some, None, Result, Ok}
use Rattle.std.specs.Prelude.{MatchResult}
use Rattle.mc_lex.specs.declared.token.Dialect.{Dialect}
use Rattle.mc_lex.specs.declared.token.Dialect.TheVariants.{Plain}
use Rattle.mc_lex.specs.Tokens.{Tok}
use Rattle.mc_lex.specs.Scans.{Scans}
use Rattle.mc_tree.specs.Tree.{Item}
use Rattle.mc_tree.specs.Height.{height_unit}
use Rattle.mc_grammar.specs.Items.{IsTree, IsSyntaxOf}
use Rattle.mc_subset.specs.Nodes.{nodes_of_unit}
use Rattle.mc_subset.specs.Forms.{first_outside}
use Rattle.mc_typed.specs.Tree.{Program}
use Rattle.types_rules.specs.Typing.{typing_of, IsTypingOf}
use Rattle.reread_pieces.specs.Pieces.{Mark, ArePieces}
use Rattle.reread_pieces.specs.Plain.{plain_of}
use Rattle.reread_probes.specs.Probes.{probes}
use Rattle.mc_probe.specs.declared.tree.Instrumented.{Instrumented}
use Rattle.mc_probe.specs.Tree.{Tree}
use Rattle.mc_probe.specs.Trees.{tree_of}
use Rattle.mc_probe.specs.Erase.{erase}
use Rattle.mc_probe.specs.Maps.{Map, IsMapOf}
use Rattle.mc_probe.specs.Table.{instrumented}
use Rattle.reread_law_texts.specs.alike.Moves.{FollowFrom, end_of}
use Rattle.reread_law_texts.specs.brackets.Signs.{poured}
use Rattle.reread_law_places.specs.still.Unplaced.{unplaced}
use Rattle.reread_law_places.specs.still.Laws.{IsMoved}
use Rattle.mc_print.specs.Pens.{spaced}
use Rattle.mc_print.specs.Texts.{text_of}
use Rattle.reread_law_rows.specs.inserted.Rows.{rows_of}
use Rattle.reread_law_rows.specs.inserted.Signs.{signs_of}
use Rattle.reread_law_rows.specs.inserted.Seats.{probe_rows, AreThere}
use Rattle.reread_law_printed.specs.parts.Parts.{parts_of}
use Rattle.reread_law_printed.specs.parts.Marks.{marks, own_tokens}
use Rattle.reread_law_printed.specs.parts.Shaped.{tokens_at}
use Rattle.reread_law_printed.specs.parts.Laws.{Stands}
use Rattle.reread_program.specs.declared.fault.RereadFault.{RereadFault}
use Rattle.reread_program.specs.declared.fault.RereadFault.TheVariants as fault
use Rattle.reread_program.specs.Reading.{Reads, ReadsPieces}
use Rattle.reread_program.specs.Returned.{Gives}

-- The tokens of the source among the pieces of a printed text follow each other.
abbrev pub OwnTokensFollow : Type 0
OwnTokensFollow =
    (source tokens : List Tok) (tree : Tree) → Stands tokens tree
    → FollowFrom 0 (own_tokens (marks source (parts_of tokens tree)))

-- They end in the text.
abbrev pub OwnTokensEnd : Type 0
OwnTokensEnd =
    (source tokens : List Tok) (tree : Tree) → Stands tokens tree
    → All (λ t. end_of t ≤ length (spaced (text_of tokens tree)))
    (own_tokens (marks source (parts_of tokens tree)))

-- The printed text of an accepted source's program with its probes has its parts as its pieces.
abbrev pub PrintedPartsArePieces : Type 0
PrintedPartsArePieces =
    (source : List ℕ) (ts : List Tok) (unit : List Item) (p : Program) (m : Map)
    → Scans Plain [] source ts None → IsTree Plain ts unit
    → first_outside (nodes_of_unit unit) ≡ None → typing_of unit ≡ Some p → IsMapOf p m
    → ArePieces (tokens_at ts 0 (text_of ts (instrumented m p)))
    (marks ts (parts_of ts (instrumented m p)))

-- Where the probes of some pieces stand at the rows of a program, and the text without them is its
-- text with brackets at its rows, the program with its probes is read.
abbrev pub PiecesAreRead : Type 0
PiecesAreRead =
    (d : Dialect) (tokens : List Tok) (unit : List Item) (p : Program) (m : Map)
    (pieces : List Mark)
    → FollowFrom 0 tokens → length tokens < 2 ^ 31 → IsTree d tokens unit
    → height_unit unit ≤ 200 → first_outside (nodes_of_unit unit) ≡ None → IsTypingOf unit p
    → IsMapOf p m → AreThere (probe_rows (rows_of (instrumented m p))) (probes pieces)
    → plain_of pieces ≡ poured (signs_of (rows_of (instrumented m p))) tokens
    → ReadsPieces pieces (Ok (instrumented m p))

-- ---- printed texts

-- of the text of an accepted source's program with its probes
abbrev pub OfPrintedTexts : (List ℕ → Program → Map → Type 0) → Type 0
OfPrintedTexts Holds =
    (source : List ℕ) (ts : List Tok) (unit : List Item) (p : Program) (m : Map)
    → Scans Plain [] source ts None → IsSyntaxOf Plain ts unit
    → first_outside (nodes_of_unit unit) ≡ None → IsTypingOf unit p → IsMapOf p m
    → length (spaced (text_of ts (instrumented m p))) < 2 ^ 31
    → Holds (spaced (text_of ts (instrumented m p))) p m

-- the tree that was printed, places left out; without its probes it is the program of the source,
-- at other places
pub record IsAsPrinted (p : Program) (m : Map) (tree : Tree) : Type 0 where
  pub same : unplaced tree ≡ unplaced (instrumented m p)
  pub erased : IsMoved p (erase tree.program)

-- It is read as the tree that was printed.
abbrev pub PrintedTextsAreReadAgain : Type 0
PrintedTextsAreReadAgain =
    OfPrintedTexts (λ text p m. (tree : Tree) × Reads text (Ok tree) × IsAsPrinted p m tree)

-- It is read as no other tree, and not refused.
abbrev pub IsReadOnlySo : List ℕ → Program → Map → Type 0
IsReadOnlySo text p m =
    (answer : Result Tree RereadFault)
    → Reads text answer → MatchResult answer (IsAsPrinted p m) (λ f. ⊥)

abbrev pub PrintedTextsAreReadOnlySo : Type 0
PrintedTextsAreReadOnlySo = OfPrintedTexts IsReadOnlySo

-- ---- calls that read

-- what a call answers to a printed text: the tree that was printed, or that memory is wanting
abbrev pub GivesWhatWasPrinted : List ℕ → Result Instrumented RereadFault → Type 0
GivesWhatWasPrinted text result =
    (source : List ℕ) (ts : List Tok) (unit : List Item) (p : Program) (m : Map)
    → Scans Plain [] source ts None → IsSyntaxOf Plain ts unit
    → first_outside (nodes_of_unit unit) ≡ None → IsTypingOf unit p → IsMapOf p m
    → text ≡ spaced (text_of ts (instrumented m p))
    → MatchResult result (λ i. IsAsPrinted p m (tree_of i)) (λ f. f ≡ fault.OutOfMemory)

-- Each call that gives what a text is read as gives what was printed.
abbrev pub CallsGiveWhatWasPrinted : Type 0
CallsGiveWhatWasPrinted =
    (text : List ℕ) (result : Result Instrumented RereadFault)
    → length text < 2 ^ 31 → Gives tree_of (Reads text) result → GivesWhatWasPrinted text result
