-- What a call leads to.
use Rattle.std.specs.Prelude.{◌≡◌, ◌⊎◌, ℕ, List, Option, Some, None, Ok, Err}
use Rattle.mc_command.specs.Command.{command_of}
use Rattle.mc_port.specs.Store.{Files, IsLonger, Request, State, and_asked}
use Rattle.station_replies.specs.Files.{File, Holds, limit_of, request_of}
use Rattle.station_replies.specs.Reply.{Reply, cannot_read, longer, out_of_memory}
use Rattle.mc_station.specs.Stages.{Ends, Judges, Stage, file_of, first_stage}
use Rattle.station_replies.specs.Status.{IsAnswer}

-- what was asked of the store, where it is told
abbrev pub Requests : Type 0
Requests = Option (List Request)

-- A stage answers: after the last file, or where it does not accept its file.
pub data Answers (skipped : List ℕ) (files : Option Files) (s : Stage) (asked : Requests)
    : Reply → Requests → Type 0 where
  finished : (reply : Reply) → Ends skipped s reply → Answers skipped files s asked reply asked
  too_long : (file : File) → file_of s ≡ Some file
      → IsLonger files file.name (limit_of file.kind)
      → Answers skipped files s asked (longer file) (and_asked asked (request_of file))
  refused : (file : File) (bytes : List ℕ) (reply : Reply) → file_of s ≡ Some file
      → Holds files file bytes → Judges s bytes (Err reply)
      → Answers skipped files s asked reply (and_asked asked (request_of file))

-- At a stage the file cannot be read, or memory does not suffice.
pub data Fails (s : Stage) (asked : Requests) : Reply → Requests → Type 0 where
  unreadable : (file : File) → file_of s ≡ Some file
      → Fails s asked (cannot_read file) (and_asked asked (request_of file))
  no_memory : Fails s asked out_of_memory asked
  no_memory_after : (file : File) → file_of s ≡ Some file
      → Fails s asked out_of_memory (and_asked asked (request_of file))

-- From a stage, with what was asked before, a command leads to a reply, with what was asked after.
-- A file is asked for with its limit, and only after the files before it were accepted.
pub data Leads (skipped : List ℕ) (files : Option Files)
    : Stage → Requests → Reply → Requests → Type 0 where
  answers : (s : Stage) (asked after : Requests) (reply : Reply)
      → Answers skipped files s asked reply after → Leads skipped files s asked reply after
  fails : (s : Stage) (asked after : Requests) (reply : Reply)
      → Fails s asked reply after → Leads skipped files s asked reply after
  accepted : (s later : Stage) (file : File) (bytes : List ℕ) (asked after : Requests)
      (reply : Reply)
      → file_of s ≡ Some file → Holds files file bytes → Judges s bytes (Ok later)
      → Leads skipped files later (and_asked asked (request_of file)) reply after
      → Leads skipped files s asked reply after

-- what a call stands on: the words, the tests that its closer skips, and the files where the store
-- tells them
pub record Call : Type 0 where
  pub words : List (List ℕ)
  pub skipped : List ℕ
  pub files : Option Files

abbrev pub call_of : List (List ℕ) → (skipped : List ℕ) → State → Call
call_of words skipped store =
    record { words = words; skipped = skipped; files = store.contents }

abbrev pub LeadsTo : Call → Requests → Reply → Requests → Type 0
LeadsTo call asked reply after =
    Leads call.skipped call.files (first_stage (command_of call.words)) asked reply after

-- the reply that words and files call for, if nothing fails
abbrev pub CallsFor : Call → Reply → Type 0
CallsFor call reply =
    IsAnswer reply.status
    × ((asked : Requests) × (after : Requests) × LeadsTo call asked reply after)

-- all that the words ask for is told: they ask for no file, or the store tells its files
abbrev pub IsKnown : Call → Type 0
IsKnown call =
    (file_of (first_stage (command_of call.words)) ≡ None)
    ⊎ ((files : Files) × (call.files ≡ Some files))
