-- What the writing of a text leaves of a sink.
use Rattle.std.specs.Prelude.{ℕ, List, Option, Result, Ok, Err}
use Rattle.std.specs.Io.KnownBytes.{Appends, Keeps}
use Rattle.mc_port.specs.Causes.{Rose}
use Rattle.mc_port.specs.Sink.{AppendsPart}
use Rattle.mc_report.specs.declared.fault.ReportFault.{ReportFault}
use Rattle.mc_report.specs.declared.fault.ReportFault.TheVariants.{Put, OutOfMemory}

-- At Ok the whole text was put. `Put` comes only where the sink's count of faults rose in the call,
-- and then a first part of the text was put; with `OutOfMemory` nothing was.
abbrev pub Writes : Option (List ℕ) → Option (List ℕ) → ℕ → ℕ → List ℕ → Result Unit ReportFault
    → Type 0
Writes old new before now text (Ok u) = Appends old new text
Writes old new before now text (Err Put) = Rose before now × AppendsPart old new text
Writes old new before now text (Err OutOfMemory) = Keeps old new
