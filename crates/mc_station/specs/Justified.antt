-- The line on the first fault of a file of justifications.
use Rattle.std.specs.Prelude.{ℕ, List, codes}
use Rattle.mc_justify.specs.Faults as fault
use Rattle.mc_justify.specs.Faults.{Fault}
use Rattle.station_replies.specs.Texts.{entry_line, justifications_line, quote_line}

abbrev pub reasons_line : Fault → List ℕ
reasons_line fault.Json = justifications_line (codes "json")
reasons_line fault.Limit = justifications_line (codes "limit")
reasons_line (fault.Shape entry) = entry_line entry (codes "shape")
reasons_line (fault.Unknown entry) = entry_line entry (codes "unknown")
reasons_line (fault.Quote entry kept given) = quote_line entry kept given
reasons_line (fault.Repeated entry) = entry_line entry (codes "repeated")
