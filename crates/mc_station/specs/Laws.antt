-- Laws of what calls lead to.
use Rattle.std.specs.Prelude.{◌≡◌, ◌⊎◌, ◌↔◌, ◌++◌, ℕ, List, [], None, Some, Option, option_map, take, ⊤}
use Rattle.mc_command.specs.Command as command
use Rattle.mc_command.specs.Command.{Command, Task, command_of}
use Rattle.mc_port.specs.Store.{Request, and_asked}
use Rattle.mc_typed.specs.Plans.{Plan}
use Rattle.mc_record.specs.Kept.{Kept}
use Rattle.station_replies.specs.Files.{File, request_of}
use Rattle.station_replies.specs.Phases.{AreOne, IsSilent}
use Rattle.station_replies.specs.Reply.{Reply, cannot_read}
use Rattle.station_replies.specs.Status.{IsAfterSource, IsAnswer}
use Rattle.station_replies.specs.declared.file.FileKind.TheVariants.{Source}
use Rattle.station_replies.specs.declared.status.Status.TheVariants.{CannotRead, NoCommand, SourceRefused}
use Rattle.mc_station.specs.Calls.{Call, CallsFor, IsKnown, LeadsTo, Requests}
use Rattle.mc_station.specs.Source.{Accepted}
use Rattle.mc_station.specs.commands.Merge.{IsJoined}
use Rattle.mc_station.specs.commands.Record.{IsRecordOf}
use Rattle.mc_station.specs.commands.Watch.{AreOnLooks}
use Rattle.mc_station.specs.Stages.{file_of, first_stage, requests_left}

-- the tests are watched while they run
abbrev pub IsToWatch : Task → Type 0
IsToWatch (command.watched looks) = ⊤
IsToWatch task = ⊥

-- the words are the command `watch`
abbrev pub IsWatch : Option Command → Type 0
IsWatch (Some (command.on_source name (command.run run))) = IsToWatch run.task
IsWatch given = ⊥

-- where all that the words ask for is told, they call for at most one reply, but for the place of
-- a fault of the syntax, and for what the looks of `watch` count
abbrev pub OneReply : Type 0
OneReply =
    (call : Call) (r s : Reply) → IsKnown call → CallsFor call r → CallsFor call s
    → AreOne r s ⊎ (IsWatch (command_of call.words) × AreOnLooks r s)

-- a reply that neither the outside nor memory decides has status 2 exactly where the words are not
-- a command
abbrev pub NoCommandAlone : Type 0
NoCommandAlone =
    (call : Call) (asked after : Requests) (r : Reply) → LeadsTo call asked r after
    → IsAnswer r.status
    → (r.status ≡ NoCommand) ↔ (command_of call.words ≡ None)

-- where a file is asked for and the source is refused, the source was asked for, and nothing else
abbrev pub SourceAlone : Type 0
SourceAlone =
    (call : Call) (asked after : Requests) (r : Reply) (file : File)
    → file_of (first_stage (command_of call.words)) ≡ Some file
    → LeadsTo call asked r after → r.status ≡ SourceRefused
    → (file.kind ≡ Source) × (after ≡ and_asked asked (request_of file))

-- a reply to a command whose source is accepted, if nothing fails
abbrev pub IsLater : Reply → Type 0
IsLater r = IsAfterSource r.status × IsSilent r

-- nothing goes to the output but with a text that is written whole
abbrev pub RefusalsAreSilent : Type 0
RefusalsAreSilent =
    (call : Call) (asked after : Requests) (r : Reply) → LeadsTo call asked r after → IsSilent r

-- what was asked for before, where it is told, and then these
abbrev pub and_all : Requests → List Request → Requests
and_all asked requests = option_map (λ rs. rs ++ requests) asked

-- what was asked for in a call is a first part of what its command asks for, in order
abbrev pub AskedInOrder : Type 0
AskedInOrder =
    (call : Call) (asked after : Requests) (r : Reply) → LeadsTo call asked r after
    → (n : ℕ)
    × (after ≡ and_all asked (take n (requests_left (first_stage (command_of call.words)))))

-- a reply on a file that cannot be read names the one that was asked for last
abbrev pub LastIsNamed : Type 0
LastIsNamed =
    (call : Call) (asked after : Requests) (r : Reply) → LeadsTo call asked r after
    → r.status ≡ CannotRead
    → (file : File) × (before : Requests)
    × (r ≡ cannot_read file) × (after ≡ and_asked before (request_of file))

-- the record of two records of a source is that of the tests of both, if no test is skipped
abbrev pub MergedIsOfBoth : Type 0
MergedIsOfBoth =
    (accepted : Accepted) (ps qs : List Plan) (left right both : Kept)
    → IsRecordOf [] accepted ps left → IsRecordOf [] accepted qs right
    → IsJoined left right both → IsRecordOf [] accepted (ps ++ qs) both
