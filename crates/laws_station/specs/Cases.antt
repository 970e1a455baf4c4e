-- What definitions of statuses, of files and of `watch` do not hold of.
use Rattle.std.specs.Prelude.{ℕ, List, Option, Some, None}
use Rattle.mc_command.specs.Command as command
use Rattle.mc_command.specs.Command.{Judging, MatrixTask, SourceText}
use Rattle.mc_port.specs.Store.{Files}
use Rattle.station_replies.specs.Files.{File}
use Rattle.station_replies.specs.declared.status.Status.TheVariants.{Done, Incomplete, NoCommand, SourceRefused, TestsRefused, JustificationsRefused, CannotRead, CannotWrite, OutOfMemory, TooLarge, TooManyMutants}
use Rattle.mc_station.specs.Causes.{IsAsked, IsOfRefusal}
use Rattle.mc_station.specs.Laws.{IsToWatch, IsWatch}

-- no task is watched but that of `watch`
pub record OtherTasksAreNotWatched : Type 0 where
  pub matrix : (task : MatrixTask) → ¬ IsToWatch (command.on_matrix task)
  pub mutants : ¬ IsToWatch command.mutated
  pub calls : ¬ IsToWatch command.traced
  pub looks : (looks : ℕ) → IsToWatch (command.watched looks)

-- nor are words that are no command, and commands that run no tests of a source
pub record OtherCommandsAreNotWatch : Type 0 where
  pub words : ¬ IsWatch None
  pub load : (count workers : ℕ) → ¬ IsWatch (Some (command.selfload count workers))
  pub text : (name : List ℕ) (t : SourceText)
      → ¬ IsWatch (Some (command.on_source name (command.write t)))
  pub records : (name left right : List ℕ)
      → ¬ IsWatch (Some (command.on_source name (command.merge left right)))
  pub record_of : (name kept : List ℕ) (judging : Judging)
      → ¬ IsWatch (Some (command.on_source name (command.analyse kept judging)))

-- each refusal is one, and no other status is
pub record RefusalsAreSix : Type 0 where
  pub words : IsOfRefusal NoCommand
  pub source : IsOfRefusal SourceRefused
  pub tests : IsOfRefusal TestsRefused
  pub reasons : IsOfRefusal JustificationsRefused
  pub matrix : IsOfRefusal TooLarge
  pub mutants : IsOfRefusal TooManyMutants
  pub done : ¬ IsOfRefusal Done
  pub incomplete : ¬ IsOfRefusal Incomplete
  pub read : ¬ IsOfRefusal CannotRead
  pub write : ¬ IsOfRefusal CannotWrite
  pub memory : ¬ IsOfRefusal OutOfMemory

-- a command that makes its source itself, and words that are no command, ask for no file
abbrev pub SomeAskForNone : Type 0
SomeAskForNone =
    (files : Option Files) (file : File)
    → ((count workers : ℕ) → ¬ IsAsked files (Some (command.selfload count workers)) file)
    × ¬ IsAsked files None file
