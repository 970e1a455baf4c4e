-- Laws on what each status says.
use Rattle.std.specs.Prelude.{◌≡◌, ◌≢◌, ◌⊎◌, ℕ, All, List, [], Option, map}
use Rattle.std.specs.Io.KnownBytes.{Appends}
use Rattle.mc_command.specs.Command.{command_of}
use Rattle.station_replies.specs.Files.{File, request_of}
use Rattle.station_replies.specs.Reply.{Reply}
use Rattle.station_replies.specs.declared.status.Status.{Status}
use Rattle.mc_station.specs.Calls.{Call, CallsFor, LeadsTo, Requests}
use Rattle.mc_station.specs.Causes.{Cause, IsAsked, IsOfRefusal, IsOfText}
use Rattle.mc_station.specs.Laws.{and_all}
use Rattle.mc_station.specs.Outcome.{Told, ToldPart}
use Rattle.mc_port.specs.Store.{State}
use Rattle.station_replies.specs.declared.status.Status.TheVariants.{Done, Incomplete}

-- a status that is not told with a text comes only where it has its cause
abbrev pub StatusesHaveCauses : Type 0
StatusesHaveCauses =
    (call : Call) (asked after : Requests) (r : Reply) → LeadsTo call asked r after
    → IsOfText r.status ⊎ Cause call.files (command_of call.words) r r.status

-- and where a refusal has its cause, it is called for
abbrev pub CausesCall : Type 0
CausesCall =
    (call : Call) (r : Reply) (status : Status) → IsOfRefusal status
    → Cause call.files (command_of call.words) r status
    → CallsFor call r × (r.status ≡ status)

-- each file that was asked for was asked for after what goes before it was accepted
abbrev pub AskedInTurn : Type 0
AskedInTurn =
    (call : Call) (asked after : Requests) (r : Reply) → LeadsTo call asked r after
    → (files : List File) × All (IsAsked call.files (command_of call.words)) files
    × (after ≡ and_all asked (map request_of files))

-- with 0 and 1 nothing is put on the errors' sink
abbrev pub TextsAreAlone : Type 0
TextsAreAlone =
    (call : Call) (asked after : Requests) (r : Reply) → LeadsTo call asked r after
    → IsOfText r.status → r.diag ≡ []

-- nothing is written on the output but with 0 and 1, and with 7
abbrev pub RefusalsWriteNothing : Type 0
RefusalsWriteNothing =
    (call : Call) (status : ℕ) (asked after : Requests)
    (out out_after diag diag_after : Option (List ℕ))
    → Told call status asked after out out_after diag diag_after
    → status ≢ 0 → status ≢ 1 → Appends out out_after []

-- nor with 7, where the reply that is put in part is not one of 0 or 1
abbrev pub PartsWriteNothing : Type 0
PartsWriteNothing =
    (call : Call) (store after : State) (out out_after diag diag_after : Option (List ℕ))
    (told : ToldPart call store after out out_after diag diag_after)
    → told.reply.status ≢ Done → told.reply.status ≢ Incomplete → Appends out out_after []

-- with 8 nothing on the errors' sink
abbrev pub MemoryWritesNothing : Type 0
MemoryWritesNothing =
    (call : Call) (status : ℕ) (asked after : Requests)
    (out out_after diag diag_after : Option (List ℕ))
    → Told call status asked after out out_after diag diag_after
    → status ≡ 8 → Appends diag diag_after []
