-- The stages of the commands. A stage asks for a file and accepts it, which leads to the next
-- stage, or refuses it; the last stage of a command asks for none and makes the texts.
use Rattle.std.specs.Prelude.{◌≡◌, ◌≤◌, ℕ, List, [], ◌∷◌, Option, Some, None, Result, Ok}
use Rattle.mc_command.specs.Command as command
use Rattle.mc_command.specs.Command.{Action, Command, Judging, MatrixTask, Run, SourceText, Task}
use Rattle.mc_port.specs.Store.{Request}
use Rattle.mc_typed.specs.Plans.{Plan}
use Rattle.mc_oblige.specs.Obligations.{obligations_of}
use Rattle.mc_oblige.specs.declared.justification.Justification.{Justification}
use Rattle.mc_justify.specs.Justifications.{justifications_of}
use Rattle.mc_record.specs.Kept.{Kept}
use Rattle.station_replies.specs.Files.{File, limit_of, request_of}
use Rattle.station_replies.specs.Phases.{Reads, Then}
use Rattle.station_replies.specs.Reply.{Reply, refusal}
use Rattle.station_replies.specs.Texts.{usage_text}
use Rattle.station_replies.specs.declared.file.FileKind.TheVariants as kind
use Rattle.station_replies.specs.declared.status.Status.TheVariants.{NoCommand, JustificationsRefused}
use Rattle.mc_station.specs.Justified.{reasons_line}
use Rattle.mc_station.specs.Records.{JudgesRecord}
use Rattle.mc_station.specs.Named.{JudgesSourceOf}
use Rattle.mc_station.specs.Source.{Accepted}
use Rattle.mc_station.specs.Tests.{MatrixFits, JudgesTests}
use Rattle.mc_station.specs.commands.Adapt.{WritesSource}
use Rattle.mc_station.specs.commands.Analyse.{Analyses}
use Rattle.mc_station.specs.commands.Instrument.{Instruments}
use Rattle.mc_station.specs.commands.Merge.{Joins, Merges}
use Rattle.mc_station.specs.commands.Mutate.{FewMutants, Mutates}
use Rattle.mc_station.specs.commands.Record.{Records}
use Rattle.mc_station.specs.commands.Reduce.{Reduces}
use Rattle.mc_station.specs.commands.Report.{JudgesRun}
use Rattle.mc_station.specs.commands.Results.{Traces}
use Rattle.mc_station.specs.commands.Selfload.{LoadsItself}
use Rattle.mc_station.specs.commands.Vectors.{Lists}
use Rattle.mc_station.specs.commands.Watch.{Watches}

-- what the last stage of a command stands on, beside its source
pub data Basis : Type 0 where
  -- the tests, and what they are run for
  tested : Task → List Plan → Basis
  -- a record, and how the obligations are judged by it
  recorded : Judging → Kept → Basis

pub data Stage : Type 0 where
  -- the words are not a command
  usage : Stage
  -- the source is asked for
  source : (name : List ℕ) → Action → Stage
  -- the source is accepted, and a text is made of it alone
  writes : SourceText → Accepted → Stage
  -- the source is accepted, and the tests file is asked for
  tests : Run → Accepted → Stage
  -- the source is accepted, and the first of two records is asked for
  left : (left right : List ℕ) → Accepted → Stage
  -- the first one is accepted, and the second one is asked for
  right : (name : List ℕ) → Accepted → Kept → Stage
  -- the source is accepted, and the record by which it is judged is asked for
  kept : (name : List ℕ) → Judging → Accepted → Stage
  -- what goes before is accepted, and the file of justifications is asked for
  reasons : (name : List ℕ) → Accepted → Basis → Stage
  -- all files are accepted
  last : Accepted → Basis → List Justification → Stage
  -- both records are accepted, and this is the record of both
  merged : Kept → Stage
  -- no file is asked for: the program makes a source of this number of functions and its tests
  load : (count workers : ℕ) → Stage

-- ---- files

abbrev pub source_named : List ℕ → File
source_named name = record { kind = kind.Source; name = name }

abbrev pub tests_named : List ℕ → File
tests_named name = record { kind = kind.Tests; name = name }

abbrev pub record_named : List ℕ → File
record_named name = record { kind = kind.Record; name = name }

abbrev pub reasons_named : List ℕ → File
reasons_named name = record { kind = kind.Justifications; name = name }

-- the name of the file of justifications that a task asks for, if it does
abbrev pub justified_by : Task → Option (List ℕ)
justified_by (command.on_matrix (command.judged judging)) = judging.justify
justified_by task = None

-- the file that a stage asks for
abbrev pub file_of : Stage → Option File
file_of usage = None
file_of (source name action) = Some (source_named name)
file_of (writes text accepted) = None
file_of (tests run accepted) = Some (tests_named run.tests)
file_of (left name other accepted) = Some (record_named name)
file_of (right name accepted first) = Some (record_named name)
file_of (kept name judging accepted) = Some (record_named name)
file_of (reasons name accepted basis) = Some (reasons_named name)
file_of (last accepted basis js) = None
file_of (merged both) = None
file_of (load count workers) = None

-- what is asked for of justifications
abbrev pub reasons_of : Option (List ℕ) → List Request
reasons_of None = []
reasons_of (Some name) = request_of (reasons_named name) ∷ []

-- what is asked for from the tests on
abbrev pub tests_and_reasons : Run → List Request
tests_and_reasons run = request_of (tests_named run.tests) ∷ reasons_of (justified_by run.task)

-- a record, and what is asked for after it
abbrev pub record_and : (name : List ℕ) → List Request → List Request
record_and name later = request_of (record_named name) ∷ later

-- what is asked for after the source
abbrev pub requests_of : Action → List Request
requests_of (command.run run) = tests_and_reasons run
requests_of (command.write text) = []
requests_of (command.merge name other) = record_and name (record_and other [])
requests_of (command.analyse name judging) = record_and name (reasons_of judging.justify)

-- what a stage and those after it ask for, in order
abbrev pub requests_left : Stage → List Request
requests_left usage = []
requests_left (source name action) = request_of (source_named name) ∷ requests_of action
requests_left (writes text accepted) = []
requests_left (tests run accepted) = tests_and_reasons run
requests_left (left name other accepted) = record_and name (record_and other [])
requests_left (right name accepted first) = record_and name []
requests_left (kept name judging accepted) = record_and name (reasons_of judging.justify)
requests_left (reasons name accepted basis) = request_of (reasons_named name) ∷ []
requests_left (last accepted basis js) = []
requests_left (merged both) = []
requests_left (load count workers) = []

-- the stage asks for a file that may have this number of bytes
abbrev pub AsksUpTo : Stage → ℕ → Type 0
AsksUpTo stage n = (file : File) × (file_of stage ≡ Some file) × (n ≤ limit_of file.kind)

-- ---- from stage to stage

-- the first stage
abbrev pub first_stage : Option Command → Stage
first_stage None = usage
first_stage (Some (command.on_source name action)) = source name action
first_stage (Some (command.selfload count workers)) = load count workers

-- the stage after the source
abbrev pub after_source : Action → Accepted → Stage
after_source (command.run run) accepted = tests run accepted
after_source (command.write text) accepted = writes text accepted
after_source (command.merge name other) accepted = left name other accepted
after_source (command.analyse name judging) accepted = kept name judging accepted

-- the stage after the tests, or after the record that stands in their place
abbrev pub after_tests : Option (List ℕ) → Accepted → Basis → Stage
after_tests None accepted basis = last accepted basis []
after_tests (Some name) accepted basis = reasons name accepted basis

-- what a task asks for beside its tests: for `mutate` that there are few enough mutants, for others
-- that the matrix of all bits under the tests fits
abbrev pub Allows : Task → Accepted → List Plan → Result (Unit {0}) Reply → Type 0
Allows command.mutated accepted plans = FewMutants accepted
Allows task accepted plans = MatrixFits accepted plans

-- the justifications of a file that is accepted, or its first fault
abbrev pub JudgesReasons : Accepted → List ℕ → Result (List Justification) Reply → Type 0
JudgesReasons accepted bytes =
    Reads (justifications_of bytes (obligations_of accepted.map) accepted.source)
    (λ fault. refusal JustificationsRefused (reasons_line fault))

-- tests that are accepted lead to another stage, or to a refusal
abbrev pub AfterPlans : Task → Accepted → List Plan → Result Stage Reply → Type 0
AfterPlans task accepted plans =
    Then (Allows task accepted plans)
    (λ u v. v ≡ Ok (after_tests (justified_by task) accepted (tested task plans)))

-- the bytes of the file that a stage asks for lead to another stage, or to a refusal
abbrev pub Judges : Stage → List ℕ → Result Stage Reply → Type 0
Judges usage bytes = λ verdict. ⊥
Judges (source name action) bytes =
    Then (JudgesSourceOf action bytes) (λ accepted v. v ≡ Ok (after_source action accepted))
Judges (writes text accepted) bytes = λ verdict. ⊥
Judges (tests run accepted) bytes =
    Then (JudgesTests accepted.program run.fuel bytes)
    (AfterPlans run.task accepted)
Judges (left name other accepted) bytes =
    Then (JudgesRecord accepted name bytes) (λ first v. v ≡ Ok (right other accepted first))
Judges (right name accepted first) bytes =
    Then (JudgesRecord accepted name bytes) (λ second.
    Then (Joins first second) (λ both v. v ≡ Ok (merged both)))
Judges (kept name judging accepted) bytes =
    Then (JudgesRecord accepted name bytes)
    (λ found v. v ≡ Ok (after_tests judging.justify accepted (recorded judging found)))
Judges (reasons name accepted basis) bytes =
    Then (JudgesReasons accepted bytes) (λ js v. v ≡ Ok (last accepted basis js))
Judges (last accepted basis js) bytes = λ verdict. ⊥
Judges (merged both) bytes = λ verdict. ⊥
Judges (load count workers) bytes = λ verdict. ⊥

-- ---- the end

-- what is told of the matrix of the tests, which leaves out those that are skipped
abbrev pub TellsOnMatrix : (skipped : List ℕ) → MatrixTask → Accepted → List Plan
    → List Justification → Reply → Type 0
TellsOnMatrix skipped (command.judged judging) accepted plans js =
    JudgesRun skipped judging accepted plans js
TellsOnMatrix skipped command.vectors accepted plans js = Lists skipped accepted plans
TellsOnMatrix skipped command.recorded accepted plans js = Records skipped accepted plans
TellsOnMatrix skipped (command.reduced mode) accepted plans js = Reduces skipped mode accepted plans

-- what a task tells of the tests
abbrev pub Tells : (skipped : List ℕ) → Task → Accepted → List Plan → List Justification → Reply
    → Type 0
Tells skipped (command.on_matrix task) accepted plans js =
    TellsOnMatrix skipped task accepted plans js
Tells skipped (command.watched looks) accepted plans js = Watches looks accepted plans
Tells skipped command.mutated accepted plans js = Mutates accepted plans
Tells skipped command.traced accepted plans js = Traces accepted plans

-- the text that is made of a source alone
abbrev pub Writes : SourceText → Accepted → Reply → Type 0
Writes command.instrumented accepted = Instruments accepted
Writes command.adapted accepted = WritesSource accepted

-- the reply of a stage that asks for no file
abbrev pub Ends : (skipped : List ℕ) → Stage → Reply → Type 0
Ends skipped usage reply = reply ≡ refusal NoCommand usage_text
Ends skipped (source name action) reply = ⊥
Ends skipped (writes text accepted) reply = Writes text accepted reply
Ends skipped (tests run accepted) reply = ⊥
Ends skipped (left name other accepted) reply = ⊥
Ends skipped (right name accepted first) reply = ⊥
Ends skipped (kept name judging accepted) reply = ⊥
Ends skipped (reasons name accepted basis) reply = ⊥
Ends skipped (last accepted (tested task plans) js) reply =
    Tells skipped task accepted plans js reply
Ends skipped (last accepted (recorded judging found) js) reply =
    Analyses judging accepted found js reply
Ends skipped (merged both) reply = Merges both reply
Ends skipped (load count workers) reply = LoadsItself skipped count reply
