-- Where the program of an accepted source stands: as in the text of the source.
use Rattle.std.specs.Prelude.{◌≡◌, ℕ, List, [], length, Some, None}
use Rattle.mc_lex.specs.declared.token.Dialect.{Dialect}
use Rattle.mc_lex.specs.Tokens.{Tok}
use Rattle.mc_lex.specs.Scans.{Scans}
use Rattle.mc_tree.specs.Tree.{Item}
use Rattle.mc_grammar.specs.Items.{IsTree}
use Rattle.mc_typed.specs.Tree.{Program}
use Rattle.types_rules.specs.Typing.{typing_of}
use Rattle.decide_rules.specs.Nodes.{program}
use Rattle.decide_rules.specs.Decisions.{Decision, AreDecisions}
use Rattle.decide_rules.specs.Laws.{StandsIn, AreInOrder}

-- this is the typed program of a source
pub record IsProgramOf (dialect : Dialect) (source : List ℕ) (p : Program) : Type 0 where
  pub tokens : List Tok
  pub items : List Item
  pub scanned : Scans dialect [] source tokens None
  pub read : IsTree dialect tokens items
  pub typed : typing_of items ≡ Some p

-- its nodes stand as in a text, between the first byte and the last
abbrev pub ProgramsStandInTheirText : Type 0
ProgramsStandInTheirText =
    (dialect : Dialect) (source : List ℕ) (p : Program)
    → IsProgramOf dialect source p → StandsIn 0 (length source) (program p.functions)

-- so its decisions are in the order of their starts
abbrev pub DecisionsAreInOrder : Type 0
DecisionsAreInOrder =
    (dialect : Dialect) (source : List ℕ) (p : Program) (ds : List Decision)
    → IsProgramOf dialect source p → AreDecisions p.functions ds → AreInOrder ds
