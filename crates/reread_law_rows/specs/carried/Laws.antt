-- The rows of a body stand at parts of its text as `Fits` asks it.
use Rattle.std.specs.Prelude.{◌≡◌, List, Some}
use Rattle.mc_lex.specs.Tokens.{Tok}
use Rattle.mc_tree.specs.Tree.{Item}
use Rattle.mc_typed.specs.Tree.{Program}
use Rattle.types_rules.specs.Typing.{typing_of}
use Rattle.mc_probe.specs.Maps.{Map}
use Rattle.mc_probe.specs.Table.{instrumented}
use Rattle.reread_law_rows.specs.inserted.Rows.{rows_of}
use Rattle.reread_law_rows.specs.inserted.Fits.{AllFit}
use Rattle.reread_law_rows.specs.fitting.Fitting.{FitInUnit}

-- Where the parts of a unit stand as `FitInUnit` asks it, the rows of its program stand as `Fits`
-- asks it. Of rows of a whole function, and of ends, it asks nothing.
abbrev pub RowsFit : Type 0
RowsFit =
    (tokens : List Tok) (unit : List Item) (p : Program) (m : Map)
    → typing_of unit ≡ Some p → FitInUnit tokens unit
    → AllFit tokens (rows_of (instrumented m p))
