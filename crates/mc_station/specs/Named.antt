-- What a command takes as its source, and what it asks of it beside that it is accepted: something
-- of the file that it names.
use Rattle.std.specs.Prelude.{◌≡◌, ⊤, Bool, true, false, List, ℕ, Option, Some, None, Result, Ok, Err}
use Rattle.mc_command.specs.Command as command
use Rattle.mc_command.specs.Command.{Action, Task, file_told}
use Rattle.mc_places.specs.Origins.{is_named}
use Rattle.station_replies.specs.Phases.{Then}
use Rattle.station_replies.specs.Reply.{Reply, refusal}
use Rattle.station_replies.specs.Texts.{nothing_line}
use Rattle.station_replies.specs.declared.status.Status.TheVariants.{SourceRefused}
use Rattle.mc_station.specs.Source.{Accepted, JudgesSource}
use Rattle.mc_station.specs.commands.Adapt.{MakesSource}

-- the source of `adapt` is made of the bytes of its file, that of other commands is these bytes
abbrev pub makes_source : Action → Bool
makes_source (command.write command.adapted) = true
makes_source action = false

abbrev pub TakesIf : (made : Bool) → List ℕ → Result (List ℕ) Reply → Type 0
TakesIf true bytes = MakesSource bytes
TakesIf false bytes = λ v. v ≡ Ok bytes

-- what is taken as the source, or why there is none
abbrev pub Takes : Action → List ℕ → Result (List ℕ) Reply → Type 0
Takes action bytes = TakesIf (makes_source action) bytes

-- the file of the source of whose obligations alone a command tells, where one is named
abbrev pub file_of_task : Task → Option (List ℕ)
file_of_task (command.on_matrix (command.judged judging)) = file_told judging.telling
file_of_task task = None

abbrev pub file_of_action : Action → Option (List ℕ)
file_of_action (command.run run) = file_of_task run.task
file_of_action (command.analyse kept judging) = file_told judging.telling
file_of_action action = None

-- some line marker of an accepted source names the file, where one is asked for
abbrev pub HasFile : Option (List ℕ) → Accepted → Result (Unit {0}) Reply → Type 0
HasFile None accepted (Ok u) = ⊤
HasFile None accepted (Err reply) = ⊥
HasFile (Some name) accepted (Ok u) = is_named accepted.source name ≡ true
HasFile (Some name) accepted (Err reply) =
    (is_named accepted.source name ≡ false) × (reply ≡ refusal SourceRefused (nothing_line name))

-- what is taken as the source of a command is accepted, or refused
abbrev pub JudgesTaken : Action → (source : List ℕ) → Result Accepted Reply → Type 0
JudgesTaken action source =
    Then (JudgesSource source) (λ accepted.
    Then (HasFile (file_of_action action) accepted) (λ u v. v ≡ Ok accepted))

-- the source of a command, by the bytes of its file, is accepted, or refused
abbrev pub JudgesSourceOf : Action → List ℕ → Result Accepted Reply → Type 0
JudgesSourceOf action bytes = Then (Takes action bytes) (JudgesTaken action)
