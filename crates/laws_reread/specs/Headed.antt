-- The words of a source, and what stands round the bodies of the functions of a text.
use Rattle.std.specs.Prelude.{◌≡◌, ℕ, List, [], Some, None}
use Rattle.mc_lex.specs.declared.token.Dialect.{Dialect}
use Rattle.mc_lex.specs.declared.token.Dialect.TheVariants.{Plain}
use Rattle.mc_lex.specs.Tokens.{Tok}
use Rattle.mc_lex.specs.Scans.{Scans}
use Rattle.mc_tree.specs.Tree.{Item}
use Rattle.mc_grammar.specs.Items.{IsTree}
use Rattle.mc_subset.specs.Nodes.{nodes_of_unit}
use Rattle.mc_subset.specs.Forms.{first_outside}
use Rattle.mc_typed.specs.Tree.{Program}
use Rattle.types_rules.specs.Typing.{typing_of}
use Rattle.mc_probe.specs.Maps.{Map}
use Rattle.mc_probe.specs.Table.{instrumented}
use Rattle.reread_law_texts.specs.alike.Moves.{AreAlike}
use Rattle.reread_law_rows.specs.fitting.Laws.{MeanTheirKinds}
use Rattle.reread_law_printed.specs.parts.Closed.{AreBalanced}
use Rattle.reread_law_printed.specs.parts.Laws.{HasNumerals, Stands}
use Rattle.reread_law_printed.specs.placed.Heads.{HaveHeads}
use Rattle.reread_law_printed.specs.placed.Laws.{KindsStay}

-- ---- words

-- The numbers that the table puts among the words of a source are numerals.
abbrev pub SourcesHaveNumerals : Type 0
SourcesHaveNumerals =
    (text : List ℕ) (source : List Tok) → Scans Plain [] text source None → HasNumerals source

-- The tokens of a source have the kinds that it gives their texts, at any places.
abbrev pub SourcesKeepKinds : Type 0
SourcesKeepKinds =
    (text : List ℕ) (source tokens : List Tok) → Scans Plain [] text source None
    → AreAlike source tokens → KindsStay source tokens

-- ---- functions

-- The brackets of a text of the profile belong together round its functions and in them.
abbrev pub TextsAreBalanced : Type 0
TextsAreBalanced =
    (d : Dialect) (tokens : List Tok) (unit : List Item) (p : Program) (m : Map)
    → MeanTheirKinds d tokens → IsTree d tokens unit
    → first_outside (nodes_of_unit unit) ≡ None → typing_of unit ≡ Some p
    → (h : Stands tokens (instrumented m p))
    → AreBalanced (instrumented m p).program.functions tokens h.functions

-- Each function of a text of the profile has a head.
abbrev pub TextsHaveHeads : Type 0
TextsHaveHeads =
    (d : Dialect) (tokens : List Tok) (unit : List Item) (p : Program) (m : Map)
    → MeanTheirKinds d tokens → IsTree d tokens unit
    → first_outside (nodes_of_unit unit) ≡ None → typing_of unit ≡ Some p
    → (h : Stands tokens (instrumented m p))
    → HaveHeads (instrumented m p).program.functions tokens h.functions
