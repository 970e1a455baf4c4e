-- The functions and rows of a program stand among the tokens of its source.
use Rattle.std.specs.Prelude.{◌≡◌, ℕ, List, [], Some, None}
use Rattle.mc_lex.specs.declared.token.Dialect.{Dialect}
use Rattle.mc_lex.specs.declared.token.Dialect.TheVariants.{Plain}
use Rattle.mc_lex.specs.Tokens.{Tok}
use Rattle.mc_lex.specs.Scans.{Scans}
use Rattle.mc_tree.specs.Tree.{Item}
use Rattle.mc_grammar.specs.Items.{IsTree}
use Rattle.mc_subset.specs.Nodes.{nodes_of_unit}
use Rattle.mc_subset.specs.Forms.{first_outside}
use Rattle.mc_typed.specs.Tree.{Program}
use Rattle.types_rules.specs.Typing.{typing_of}
use Rattle.mc_probe.specs.Maps.{Map}
use Rattle.mc_probe.specs.Table.{instrumented}
use Rattle.reread_law_texts.specs.alike.Moves.{FollowFrom}
use Rattle.reread_law_rows.specs.fitting.Laws.{MeanTheirKinds}
use Rattle.reread_law_printed.specs.parts.Laws.{Stands}

-- of the tokens of a text of the profile, at any places where they follow each other
abbrev pub TextsStand : Type 0
TextsStand =
    (d : Dialect) (tokens : List Tok) (unit : List Item) (p : Program) (m : Map)
    → FollowFrom 0 tokens → MeanTheirKinds d tokens → IsTree d tokens unit
    → first_outside (nodes_of_unit unit) ≡ None → typing_of unit ≡ Some p
    → Stands tokens (instrumented m p)

-- of the tokens of a source of the profile
abbrev pub SourcesStand : Type 0
SourcesStand =
    (source : List ℕ) (tokens : List Tok) (unit : List Item) (p : Program) (m : Map)
    → Scans Plain [] source tokens None → IsTree Plain tokens unit
    → first_outside (nodes_of_unit unit) ≡ None → typing_of unit ≡ Some p
    → Stands tokens (instrumented m p)
