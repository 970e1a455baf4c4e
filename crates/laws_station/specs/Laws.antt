-- Laws over all commands: when a file of justifications is asked for, and what accepted files
-- lead to.
use Rattle.std.specs.Prelude.{◌≡◌, ◌≢◌, ◌⊎◌, ◌++◌, ℕ, List, Some, Option}
use Rattle.mc_command.specs.Command as command
use Rattle.mc_command.specs.Command.{Action, command_of}
use Rattle.mc_port.specs.Store.{Request}
use Rattle.station_replies.specs.Reply.{Reply}
use Rattle.station_replies.specs.Status.{IsAnswer}
use Rattle.station_replies.specs.declared.status.Status.TheVariants.{TooLarge}
use Rattle.mc_station.specs.Calls.{Call, IsKnown, LeadsTo, Requests}
use Rattle.mc_station.specs.Causes.{IsOfText, SourceIs}
use Rattle.mc_station.specs.Laws.{and_all}
use Rattle.mc_station.specs.Outcome.{Told}
use Rattle.mc_station.specs.Source.{Accepted}
use Rattle.mc_station.specs.Stages.{first_stage, requests_left}
use Rattle.laws_station.specs.Whole.{FilesAreAccepted, MatrixIsInLimit, before_reasons, reasons_in}

-- Where the store tells what it is asked for, and was asked in a call for all files of its command,
-- the last of which is one of justifications: the source is accepted, and its matrix fits. So
-- status 9 does not come.
abbrev pub ReasonsAfterMatrix : Type 0
ReasonsAfterMatrix =
    (call : Call) (before : List Request) (r : Reply) (name reasons : List ℕ) (action : Action)
    → command_of call.words ≡ Some (command.on_source name action)
    → reasons_in action ≡ Some reasons
    → LeadsTo call (Some before) r
    (Some (before ++ requests_left (first_stage (command_of call.words))))
    → ((accepted : Accepted) × SourceIs call.files name action accepted
    × MatrixIsInLimit call.files action accepted)
    × (r.status ≢ TooLarge)

-- with status 9 all files were asked for that stand before one of justifications, and no others
abbrev pub TooLargeBeforeReasons : Type 0
TooLargeBeforeReasons =
    (call : Call) (asked after : Requests) (r : Reply) → LeadsTo call asked r after
    → r.status ≡ TooLarge → after ≡ and_all asked (before_reasons (command_of call.words))

-- where all files are accepted and the matrix fits, or there are few enough mutants, a reply that
-- neither the outside nor memory decides has status 0 or 1
abbrev pub AcceptedFilesGiveTexts : Type 0
AcceptedFilesGiveTexts =
    (call : Call) (asked after : Requests) (r : Reply) → LeadsTo call asked r after
    → IsKnown call → FilesAreAccepted call.files (command_of call.words)
    → IsAnswer r.status → IsOfText r.status

-- so the status of a call is 0 or 1, where it is none of 6, 7 and 8
abbrev pub AcceptedFilesEndWell : Type 0
AcceptedFilesEndWell =
    (call : Call) (status : ℕ) (asked after : Requests)
    (out out_after diag diag_after : Option (List ℕ))
    → Told call status asked after out out_after diag diag_after
    → IsKnown call → FilesAreAccepted call.files (command_of call.words)
    → status ≢ 6 → status ≢ 8 → (status ≡ 0) ⊎ (status ≡ 1)
