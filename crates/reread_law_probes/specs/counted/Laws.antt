-- The number of bits of an instrumented program.
use Rattle.std.specs.Prelude.{◌≡◌, List, Some}
use Rattle.mc_tree.specs.Tree.{Item}
use Rattle.mc_typed.specs.Tree.{Program}
use Rattle.types_rules.specs.Typing.{typing_of}
use Rattle.laws_soundness.specs.Plain.{IsPlainProgram}
use Rattle.mc_probe.specs.Maps.{Map, IsMapOf}
use Rattle.mc_probe.specs.Table.{instrumented}
use Rattle.reread_law_probes.specs.put.Laws.{IsCounted}

-- It is the least that is above all bits that the probes of the table name or reach. The table puts
-- no probe into a list that sets an object to 0: a plain program has a constant there, and a
-- constant has no decision.
abbrev pub InstrumentedProgramsAreCounted : Type 0
InstrumentedProgramsAreCounted =
    (program : Program) (m : Map)
    → IsPlainProgram program → IsMapOf program m → IsCounted (instrumented m program)

-- So it is for the typed program of each unit.
abbrev pub InstrumentedUnitsAreCounted : Type 0
InstrumentedUnitsAreCounted =
    (items : List Item) (program : Program) (m : Map)
    → typing_of items ≡ Some program → IsMapOf program m → IsCounted (instrumented m program)
