-- Whole commands: what they ask for before a file of justifications, that their matrix fits, and
-- that all their files are accepted.
use Rattle.std.specs.Prelude.{◌≡◌, ◌≤◌, ⊤, ℕ, List, [], ◌∷◌, Option, Some, None, Ok}
use Rattle.mc_limits.specs.Limits.{most_words, usual_fuel}
use Rattle.mc_command.specs.Command as command
use Rattle.mc_command.specs.Command.{Action, Command, Run}
use Rattle.mc_core.specs.Shape.{word_count}
use Rattle.mc_gen.specs.Source.{source_text}
use Rattle.mc_gen.specs.Tests.{tests_text}
use Rattle.mc_port.specs.Store.{Files, Request}
use Rattle.mc_record.specs.Kept.{Kept}
use Rattle.mc_record.specs.Merged.{pair_fault}
use Rattle.mc_typed.specs.Plans.{Plan}
use Rattle.mc_oblige.specs.declared.justification.Justification.{Justification}
use Rattle.station_replies.specs.Files.{Holds, request_of}
use Rattle.mc_station.specs.Causes.{RecordIs, RecordsAre, SourceIs, TestsAre}
use Rattle.mc_station.specs.Source.{Accepted, JudgesSource}
use Rattle.mc_station.specs.Stages.{Allows, JudgesReasons, justified_by, reasons_named, record_and, source_named, tests_named}
use Rattle.mc_station.specs.Tests.{JudgesTests, words_needed}

-- ---- files of justifications

-- the name of the file of justifications that is asked for after the others, if one is
abbrev pub reasons_in : Action → Option (List ℕ)
reasons_in (command.run run) = justified_by run.task
reasons_in (command.write text) = None
reasons_in (command.merge left right) = None
reasons_in (command.analyse kept judging) = judging.justify

-- what is asked for after the source and before justifications, in order
abbrev pub requests_before : Action → List Request
requests_before (command.run run) = request_of (tests_named run.tests) ∷ []
requests_before (command.write text) = []
requests_before (command.merge left right) = record_and left (record_and right [])
requests_before (command.analyse kept judging) = record_and kept []

-- what the words ask for before justifications, in order
abbrev pub before_reasons : Option Command → List Request
before_reasons None = []
before_reasons (Some (command.on_source name action)) =
    request_of (source_named name) ∷ requests_before action
before_reasons (Some (command.selfload count workers)) = []

-- ---- the matrix that justifications are on

-- after an accepted source, its tests or a record of it are accepted, and the matrix of the source
-- under these tests, or that of the record, has no more words than it may
abbrev pub MatrixIsInLimit : Option Files → Action → Accepted → Type 0
MatrixIsInLimit files (command.run run) accepted =
    (plans : List Plan) × TestsAre files run accepted plans
    × (words_needed accepted plans ≤ most_words)
MatrixIsInLimit files (command.write text) accepted = ⊥
MatrixIsInLimit files (command.merge left right) accepted = ⊥
MatrixIsInLimit files (command.analyse kept judging) accepted =
    (found : Kept) × RecordIs files kept accepted found
    × (word_count found.matrix.shape ≤ most_words)

-- ---- all files

-- the file of justifications of this name, for an accepted source
abbrev pub ReasonsAre : Option Files → (name : List ℕ) → Accepted → List Justification → Type 0
ReasonsAre files name accepted js =
    (bytes : List ℕ) × Holds files (reasons_named name) bytes × JudgesReasons accepted bytes (Ok js)

-- the file of justifications, where one is asked for
abbrev pub ReasonsAreAccepted : Option Files → Option (List ℕ) → Accepted → Type 0
ReasonsAreAccepted files None accepted = ⊤
ReasonsAreAccepted files (Some name) accepted =
    (js : List Justification) × ReasonsAre files name accepted js

-- the tests, and their matrix fits, or for `mutate` there are few enough mutants
abbrev pub TestsAreAllowed : Option Files → Run → Accepted → Type 0
TestsAreAllowed files run accepted =
    (plans : List Plan) × TestsAre files run accepted plans
    × Allows run.task accepted plans (Ok tt)

-- after an accepted source, the other files; two records have a common one
abbrev pub OthersAreAccepted : Option Files → Action → Accepted → Type 0
OthersAreAccepted files (command.run run) accepted =
    TestsAreAllowed files run accepted
    × ReasonsAreAccepted files (justified_by run.task) accepted
OthersAreAccepted files (command.write text) accepted = ⊤
OthersAreAccepted files (command.merge left right) accepted =
    (first : Kept) × (second : Kept) × RecordsAre files left right accepted first second
    × (pair_fault first second ≡ None)
OthersAreAccepted files (command.analyse kept judging) accepted =
    ((found : Kept) × RecordIs files kept accepted found)
    × ReasonsAreAccepted files judging.justify accepted

-- The words are a command, all files that it asks for are accepted, and the matrix fits. The source
-- and the tests that `selfload` makes itself count as its files.
abbrev pub FilesAreAccepted : Option Files → Option Command → Type 0
FilesAreAccepted files None = ⊥
FilesAreAccepted files (Some (command.on_source name action)) =
    (accepted : Accepted) × SourceIs files name action accepted × OthersAreAccepted files action accepted
FilesAreAccepted files (Some (command.selfload count workers)) =
    (accepted : Accepted) × JudgesSource (source_text count) (Ok accepted)
    × ((plans : List Plan) × JudgesTests accepted.program usual_fuel (tests_text count) (Ok plans)
    × (words_needed accepted plans ≤ most_words))
