-- The numbers of the probes of an instrumented program.
use Rattle.mc_typed.specs.Tree.{Program}
use Rattle.mc_probe.specs.Maps.{Map, IsMapOf}
use Rattle.mc_probe.specs.Table.{instrumented}
use Rattle.reread_law_printed.specs.spelled.Numbers.{HasShortNumbers}

-- They are those of an `unsigned` of 32 bits, since a program's map has few bits.
abbrev pub InstrumentedNumbersAreShort : Type 0
InstrumentedNumbersAreShort =
    (program : Program) (m : Map) → IsMapOf program m → HasShortNumbers (instrumented m program)
