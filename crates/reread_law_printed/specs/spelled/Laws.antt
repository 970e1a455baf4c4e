-- What the bytes of a printed text mean: the tokens that were printed.
use Rattle.std.specs.Prelude.{◌≡◌, ◌↔◌, ℕ, false, List, [], All, Option, None, Result, Ok}
use Rattle.mc_lex.specs.declared.token.Dialect.{Dialect}
use Rattle.mc_lex.specs.declared.token.Dialect.TheVariants.{Plain, Instrumented}
use Rattle.mc_lex.specs.declared.token.TokenKind.{TokenKind}
use Rattle.mc_lex.specs.declared.fault_kind.FaultKind.{FaultKind}
use Rattle.mc_lex.specs.declared.fault.LexFault.{LexFault}
use Rattle.mc_lex.specs.Tokens.{Tok}
use Rattle.mc_lex.specs.Words.{one_of, probe_names}
use Rattle.mc_lex.specs.Scans.{Means, Scans}
use Rattle.mc_probe.specs.Tree as p
use Rattle.mc_print.specs.Pens.{spaced, texts_of}
use Rattle.mc_print.specs.Texts.{text_of}
use Rattle.reread_law_printed.specs.spelled.Words.{IsToken, IsInserted, kind_in, laid, tokens_in}
use Rattle.reread_law_printed.specs.spelled.Numbers.{HasShortNumbers}

-- ---- words by themselves

-- a text means one thing
abbrev pub OneMeaning : Type 0
OneMeaning =
    (d : Dialect) (text : List ℕ) (what other : Result TokenKind FaultKind)
    → Means d text what → Means d text other → what ≡ other

-- each token of bytes is one by itself
abbrev pub TokensMean : Type 0
TokensMean =
    (d : Dialect) (before bytes : List ℕ) (ts : List Tok) (stop : Option LexFault)
    → Scans d before bytes ts stop → All (IsToken d) ts

-- The tokens of the plain dialect are those of the other one, the names of the probes left out.
abbrev pub PlainTokensAreKept : Type 0
PlainTokensAreKept =
    (text : List ℕ) (kind : TokenKind)
    → Means Plain text (Ok kind)
    ↔ (Means Instrumented text (Ok kind) × (one_of probe_names text ≡ false))

abbrev pub InsertionsMean : Type 0
InsertionsMean =
    (text : List ℕ) (kind : TokenKind) → IsInserted text kind → Means Instrumented text (Ok kind)

-- A printed word has the kind of each token of the source with its text, and an insertion its own.
abbrev pub KindsAreKept : Type 0
KindsAreKept =
    (source : List ℕ) (ts : List Tok) → Scans Plain [] source ts None
    → All (λ (t : Tok). kind_in ts t.text ≡ t.kind) ts
    × ((text : List ℕ) (kind : TokenKind) → IsInserted text kind → kind_in ts text ≡ kind)

-- ---- texts

-- Tokens that are written with a blank or a line feed after each are read again (C17 6.4).
abbrev pub SpacedTokensScan : Type 0
SpacedTokensScan =
    (d : Dialect) (ts : List Tok) → All (IsToken d) ts
    → Scans d [] (spaced (texts_of ts)) (laid 0 ts) None

-- The text of a tree over the tokens of a source is read as the words that were printed, each with
-- its kind.
abbrev pub PrintedTextScans : Type 0
PrintedTextScans =
    (source : List ℕ) (ts : List Tok) (tree : p.Tree) → Scans Plain [] source ts None
    → HasShortNumbers tree
    → Scans Instrumented [] (spaced (text_of ts tree)) (laid 0 (tokens_in ts (text_of ts tree)))
    None
