-- The brackets that the table inserts are brackets of the tree of the source.
use Rattle.std.specs.Prelude.{◌≡◌, List, Some}
use Rattle.mc_tree.specs.Tree.{Item}
use Rattle.mc_typed.specs.Tree.{Program}
use Rattle.types_rules.specs.Typing.{typing_of}
use Rattle.mc_probe.specs.Maps.{Map}
use Rattle.mc_probe.specs.Table.{instrumented}
use Rattle.reread_law_texts.specs.weave.Brackets.{AreAfterTokens, AreAtMost}
use Rattle.reread_law_texts.specs.brackets.Signs.{signs_in_unit}
use Rattle.reread_law_rows.specs.inserted.Rows.{rows_of}
use Rattle.reread_law_rows.specs.inserted.Signs.{brackets_of, signs_of}
use Rattle.reread_law_texts.specs.apart.Distinct.{Each, HasBytes, IsDistinct}
use Rattle.reread_law_texts.specs.apart.Places.{spans_in_unit, statement_spans_in_unit}

-- Where no two expressions of a unit stand at one place, the brackets of the rows of its program
-- are, one after the other, those of its tree: as many round each expression and each statement as
-- rows stand there.
abbrev pub SignsAreThoseOfTheTree : Type 0
SignsAreThoseOfTheTree =
    (unit : List Item) (p : Program) (m : Map)
    → typing_of unit ≡ Some p → IsDistinct (spans_in_unit unit)
    → signs_of (rows_of (instrumented m p))
    ≡ signs_in_unit (brackets_of (rows_of (instrumented m p))) unit

-- At most three pairs of parentheses are put round one expression.
abbrev pub BracketsAreFew : Type 0
BracketsAreFew =
    (unit : List Item) (p : Program) (m : Map)
    → typing_of unit ≡ Some p → IsDistinct (spans_in_unit unit)
    → AreAtMost 3 (brackets_of (rows_of (instrumented m p)))

-- What has brackets ends after byte 0, where each expression and each statement has a byte.
abbrev pub BracketsAreAfterTokens : Type 0
BracketsAreAfterTokens =
    (unit : List Item) (p : Program) (m : Map)
    → typing_of unit ≡ Some p
    → Each HasBytes (spans_in_unit unit) → Each HasBytes (statement_spans_in_unit unit)
    → AreAfterTokens (brackets_of (rows_of (instrumented m p)))
