-- The table's rows may stand at the parts of a text.
use Rattle.std.specs.Prelude.{◌≡◌, ℕ, List, [], ◌∷◌, Option, None, Ok}
use Rattle.mc_lex.specs.declared.token.Dialect.{Dialect}
use Rattle.mc_lex.specs.declared.fault.LexFault.{LexFault}
use Rattle.mc_lex.specs.Tokens.{Tok}
use Rattle.mc_lex.specs.Scans.{Means, Scans}
use Rattle.mc_tree.specs.Tree.{Item}
use Rattle.mc_grammar.specs.Items.{IsTree}
use Rattle.mc_subset.specs.Nodes.{nodes_of_unit}
use Rattle.mc_subset.specs.Forms.{first_outside}
use Rattle.reread_law_rows.specs.fitting.Fitting.{FitInUnit}

-- Each of these tokens is what its text means, wherever it stands.
abbrev pub MeanTheirKinds : Dialect → List Tok → Type 0
MeanTheirKinds d [] = Unit {0}
MeanTheirKinds d (t ∷ ts) = Means d t.text (Ok t.kind) × MeanTheirKinds d ts

-- So the tokens of a source are.
abbrev pub ScannedTokensMeanTheirKinds : Type 0
ScannedTokensMeanTheirKinds =
    (d : Dialect) (source : List ℕ) (ts : List Tok) (stop : Option LexFault)
    → Scans d [] source ts stop → MeanTheirKinds d ts

-- In a text of the profile each part stands as a row of the table asks it.
abbrev pub TextsFit : Type 0
TextsFit =
    (d : Dialect) (ts : List Tok) (unit : List Item)
    → MeanTheirKinds d ts → IsTree d ts unit → first_outside (nodes_of_unit unit) ≡ None
    → FitInUnit ts unit
