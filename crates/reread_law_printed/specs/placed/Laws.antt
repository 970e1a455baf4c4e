-- Each part of the text of a program with probes may stand where it does.
use Rattle.std.specs.Prelude.{◌≡◌, ℕ, false, List, [], Some, None}
use Rattle.std.specs.List.{AllByRecursion as Each}
use Rattle.mc_lex.specs.declared.token.Dialect.TheVariants.{Plain}
use Rattle.mc_lex.specs.Tokens.{Tok}
use Rattle.mc_lex.specs.Scans.{Scans}
use Rattle.reread_pieces.specs.Rows.{is_front}
use Rattle.reread_pieces.specs.Pieces.{Here, start}
use Rattle.mc_typed.specs.Tree as typed
use Rattle.mc_probe.specs.Tree as p
use Rattle.mc_probe.specs.Maps.{Map}
use Rattle.mc_probe.specs.Table.{instrumented}
use Rattle.mc_print.specs.Texts.{text_of}
use Rattle.reread_law_printed.specs.spelled.Numbers.{HasShortNumbers}
use Rattle.reread_law_printed.specs.spelled.Words.{kind_in}
use Rattle.reread_law_rows.specs.inserted.Rows.{rows_of}
use Rattle.reread_law_printed.specs.parts.Parts.{Part, parts_of}
use Rattle.reread_law_printed.specs.parts.Laws.{Stands}
use Rattle.reread_law_printed.specs.parts.Closed.{AreBalanced}
use Rattle.reread_law_printed.specs.parts.Shaped.{tokens_at}
use Rattle.reread_law_printed.specs.parts.Placed.{IsPlaced}
use Rattle.reread_law_printed.specs.placed.Needs.{IsOwnWord, AreSaid, IsSpelled, Front, After, Followed, Inside}
use Rattle.reread_law_printed.specs.placed.Needs.{Typed, Along}
use Rattle.reread_law_printed.specs.placed.Separate.{AreSeparate}
use Rattle.reread_law_printed.specs.placed.Heads.{HaveHeads}

-- Where each part has what it needs, it may stand where it does.
abbrev pub NeedsAreEnough : Type 0
NeedsAreEnough =
    (source : List Tok) (h : Here) (at : ℕ) (parts : List Part) → Each IsSpelled parts
    → Along source Front h at parts → Along source After h at parts
    → Along source Followed h at parts → Along source Inside h at parts
    → Along source Typed h at parts → IsPlaced source h at parts

-- The words of the parts are those of the source and of the table.
abbrev pub PartsAreSpelled : Type 0
PartsAreSpelled =
    (tokens : List Tok) (tree : p.Tree) → Each IsOwnWord tokens → AreSaid (rows_of tree)
    → Each IsSpelled (parts_of tokens tree)

-- Each function has an entry.
abbrev pub HaveEntries : List p.Function → Type 0
HaveEntries fs = Each (λ (f : p.Function). (b : ℕ) × (f.entry ≡ Some b)) fs

-- The registers and the entry stand at the front of each body, and nothing else does.
abbrev pub FrontsAreKept : Type 0
FrontsAreKept =
    (source tokens : List Tok) (tree : p.Tree) (h : Here) (at : ℕ) → Stands tokens tree
    → HaveEntries tree.program.functions → is_front h.before ≡ false
    → Along source Front h at (parts_of tokens tree)

-- The numbers of the rows are those of the program.
abbrev pub RowsAreSaid : Type 0
RowsAreSaid = (tree : p.Tree) → HasShortNumbers tree → AreSaid (rows_of tree)

-- The words of a source are no names of probes.
abbrev pub SourcesHaveOwnWords : Type 0
SourcesHaveOwnWords =
    (text : List ℕ) (tokens : List Tok) → Scans Plain [] text tokens None
    → Each IsOwnWord tokens

-- The table puts an entry into each function.
abbrev pub FunctionsHaveEntries : Type 0
FunctionsHaveEntries =
    (m : Map) (program : typed.Program) → HaveEntries (instrumented m program).program.functions

-- The state at the start of a printed text.
abbrev pub begun : List Tok → List Tok → p.Tree → Here
begun source tokens tree = start (tokens_at source 0 (text_of tokens tree))

-- What is left to show of the parts of a text.
pub record AreInPlace (source tokens : List Tok) (tree : p.Tree) : Type 0 where
  pub after : Along source After (begun source tokens tree) 0 (parts_of tokens tree)
  pub followed : Along source Followed (begun source tokens tree) 0 (parts_of tokens tree)
  pub inside : Along source Inside (begun source tokens tree) 0 (parts_of tokens tree)
  pub typed : Along source Typed (begun source tokens tree) 0 (parts_of tokens tree)

-- So the parts of the text of a program with probes may stand where they do.
abbrev pub PartsArePlaced : Type 0
PartsArePlaced =
    (source tokens : List Tok) (tree : p.Tree) → Each IsOwnWord tokens → Stands tokens tree
    → HasShortNumbers tree
    → HaveEntries tree.program.functions → AreInPlace source tokens tree
    → IsPlaced source (begun source tokens tree) 0 (parts_of tokens tree)

-- ---- what each part has

-- The tokens have the kinds that the source gives their texts.
abbrev pub KindsStay : List Tok → List Tok → Type 0
KindsStay source tokens = Each (λ (t : Tok). kind_in source t.text ≡ t.kind) tokens

-- what stands directly before each part
abbrev pub PartsComeAfter : Type 0
PartsComeAfter =
    (source tokens : List Tok) (tree : p.Tree) → Stands tokens tree → KindsStay source tokens
    → AreSeparate tokens (rows_of tree)
    → Along source After (begun source tokens tree) 0 (parts_of tokens tree)

-- what follows each part
abbrev pub PartsAreFollowed : Type 0
PartsAreFollowed =
    (text : List ℕ) (source tokens : List Tok) (tree : p.Tree) → Scans Plain [] text source None
    → Each IsOwnWord tokens → (h : Stands tokens tree)
    → AreBalanced tree.program.functions tokens h.functions → KindsStay source tokens
    → AreSeparate tokens (rows_of tree)
    → Along source Followed (begun source tokens tree) 0 (parts_of tokens tree)

-- the brackets that each part is in
abbrev pub PartsAreInside : Type 0
PartsAreInside =
    (source tokens : List Tok) (tree : p.Tree) → (h : Stands tokens tree)
    → AreBalanced tree.program.functions tokens h.functions
    → HaveHeads tree.program.functions tokens h.functions → AreSeparate tokens (rows_of tree)
    → Along source Inside (begun source tokens tree) 0 (parts_of tokens tree)

-- the type of each value
abbrev pub ValuesAreTyped : Type 0
ValuesAreTyped =
    (source tokens : List Tok) (tree : p.Tree) → (h : Stands tokens tree)
    → AreBalanced tree.program.functions tokens h.functions
    → HaveHeads tree.program.functions tokens h.functions
    → Along source Typed (begun source tokens tree) 0 (parts_of tokens tree)
