-- The command `results`: what each call of the tests did, by their plain runs.
use Rattle.std.specs.Prelude.{◌≡◌, List}
use Rattle.mc_typed.specs.Plans.{Plan}
use Rattle.results_lines.specs.Lines.{results_of}
use Rattle.station_replies.specs.Reply.{Reply, written}
use Rattle.mc_station.specs.Source.{Accepted}
use Rattle.mc_station.specs.Tests.{states, status_where}

abbrev pub Traces : Accepted → List Plan → Reply → Type 0
Traces accepted plans reply =
    reply ≡ written (status_where (states accepted.program plans))
    (results_of accepted.source accepted.map accepted.program plans)
