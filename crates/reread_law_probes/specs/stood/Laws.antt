-- The places of the expressions of a text, and of its program with probes.
use Rattle.std.specs.Prelude.{◌≡◌, List, Some}
use Rattle.mc_lex.specs.declared.token.Dialect.{Dialect}
use Rattle.mc_lex.specs.Tokens.{Tok}
use Rattle.mc_tree.specs.Tree.{Item}
use Rattle.mc_grammar.specs.Items.{IsTree}
use Rattle.mc_typed.specs.Tree.{Program}
use Rattle.types_rules.specs.Typing.{typing_of}
use Rattle.mc_probe.specs.Maps.{Map}
use Rattle.mc_probe.specs.Table.{instrumented}
use Rattle.reread_law_texts.specs.alike.Moves.{FollowFrom}
use Rattle.reread_law_probes.specs.put.Places.{places_of}
use Rattle.reread_law_texts.specs.apart.Distinct.{IsDistinct}
use Rattle.reread_law_probes.specs.stood.Stands.{stands_in_unit}

-- No two expressions stand at one place, and none where a `++` or `--` stands.
abbrev pub StandsAreApart : Type 0
StandsAreApart =
    (d : Dialect) (tokens : List Tok) (unit : List Item)
    → FollowFrom 0 tokens → IsTree d tokens unit → IsDistinct (stands_in_unit unit)

-- Then no two expressions of the program with probes do.
abbrev pub ProgramsStandApart : Type 0
ProgramsStandApart =
    (unit : List Item) (p : Program) (m : Map)
    → typing_of unit ≡ Some p → IsDistinct (stands_in_unit unit)
    → IsDistinct (places_of (instrumented m p))

-- The places of the statements and those of the probes: both laws at once.
abbrev pub PlacesAreApart : Type 0
PlacesAreApart =
    (d : Dialect) (tokens : List Tok) (unit : List Item) (p : Program) (m : Map)
    → FollowFrom 0 tokens → IsTree d tokens unit → typing_of unit ≡ Some p
    → IsDistinct (places_of (instrumented m p))
