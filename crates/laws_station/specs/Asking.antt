-- Calls on the tests of one source: what they ask for, and what they write.
use Rattle.std.specs.Prelude.{◌≡◌, ℕ, List, Some}
use Rattle.std.specs.List.{concat}
use Rattle.mc_command.specs.Command as command
use Rattle.mc_command.specs.Command.{Command, MatrixTask, command_of}
use Rattle.mc_port.specs.Store.{Files}
use Rattle.station_replies.specs.Files.{Holds}
use Rattle.station_replies.specs.Reply.{Reply}
use Rattle.mc_station.specs.Calls.{Call, CallsFor}
use Rattle.mc_station.specs.Causes.{IsOfText}
use Rattle.mc_station.specs.Stages.{record_named}

-- the call is on these files, skips these tests, and its words are this command
pub record Asks (files : Files) (skipped : List ℕ) (given : Command) (call : Call) : Type 0 where
  pub command_is : command_of call.words ≡ Some given
  pub files_are : call.files ≡ Some files
  pub skips : call.skipped ≡ skipped

-- a command that runs the tests of a source, for what is made of their matrix
abbrev pub runs : (source tests : List ℕ) → (workers fuel : ℕ) → MatrixTask → Command
runs source tests workers fuel task =
    command.on_source source
    (command.run (record {
      tests = tests;
      workers = workers;
      fuel = fuel;
      task = command.on_matrix task;
    }))

-- the call is to be replied to with this text, and with status 0 or 1
abbrev pub Writes : Call → Reply → Type 0
Writes call reply = CallsFor call reply × IsOfText reply.status

-- the record of this name is what was written
abbrev pub IsKept : Files → (name : List ℕ) → Reply → Type 0
IsKept files name reply = Holds (Some files) (record_named name) (concat reply.out)
