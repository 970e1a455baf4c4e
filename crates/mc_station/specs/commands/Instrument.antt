-- The command `instrument`: the tokens of the source with what the probes of its program insert.
use Rattle.std.specs.Prelude.{◌≡◌, List, Ok}
use Rattle.mc_lex.specs.Tokens.{Tok}
use Rattle.mc_probe.specs.Table.{instrumented}
use Rattle.station_replies.specs.Reply.{Reply, written}
use Rattle.mc_station.specs.Output.{program_pieces}
use Rattle.mc_station.specs.Source.{Accepted, Lexes}

abbrev pub Instruments : Accepted → Reply → Type 0
Instruments accepted reply =
    (tokens : List Tok) × Lexes accepted.source (Ok tokens)
    × (reply ≡ written 0 (program_pieces tokens (instrumented accepted.map accepted.program)))
