-- The command `analyse`: the verdicts of the events that a record has, each under its test.
use Rattle.std.specs.Prelude.{List, None}
use Rattle.mc_command.specs.Command.{Judging}
use Rattle.mc_oblige.specs.Shown.{HasEvent}
use Rattle.mc_oblige.specs.declared.justification.Justification.{Justification}
use Rattle.mc_record.specs.Kept.{Kept}
use Rattle.station_replies.specs.Reply.{Reply}
use Rattle.mc_station.specs.Source.{Accepted}
use Rattle.mc_station.specs.Tests.{Tested}
use Rattle.mc_station.specs.commands.Report.{JudgesOn}

-- what a record tells of its tests
abbrev pub tested_in : Kept → Tested
tested_in kept = record { names = kept.names; states = kept.states; results = None }

abbrev pub Analyses : Judging → Accepted → Kept → List Justification → Reply → Type 0
Analyses asked accepted kept js =
    JudgesOn (HasEvent accepted.map kept.matrix) asked accepted (tested_in kept) js
