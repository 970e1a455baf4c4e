-- Why a status comes: what is accepted before, and what is refused.
use Rattle.std.specs.Prelude.{◌≡◌, ◌⊎◌, ◌≤◌, ⊤, ℕ, List, Option, Some, None, Result, Ok, Err}
use Rattle.mc_limits.specs.Limits.{most_words, usual_fuel}
use Rattle.mc_command.specs.Command as command
use Rattle.mc_command.specs.Command.{Action, Command, Run, Task}
use Rattle.mc_gen.specs.Source.{source_text}
use Rattle.mc_gen.specs.Tests.{tests_text}
use Rattle.mc_port.specs.Store.{Files, IsLonger}
use Rattle.mc_record.specs.Kept.{Kept}
use Rattle.mc_typed.specs.Plans.{Plan}
use Rattle.station_replies.specs.Files.{File, Holds, limit_of}
use Rattle.station_replies.specs.Reply.{Reply, cannot_read, longer, out_of_memory, refusal}
use Rattle.station_replies.specs.Texts.{usage_text}
use Rattle.station_replies.specs.declared.status.Status.{Status}
use Rattle.station_replies.specs.declared.status.Status.TheVariants.{Done, Incomplete, NoCommand, SourceRefused, TestsRefused, JustificationsRefused, CannotRead, CannotWrite, OutOfMemory, TooLarge, TooManyMutants}
use Rattle.mc_station.specs.Records.{JudgesRecord}
use Rattle.mc_station.specs.Named.{JudgesSourceOf}
use Rattle.mc_station.specs.Source.{Accepted, JudgesSource}
use Rattle.mc_station.specs.Stages.{JudgesReasons, justified_by, reasons_named, record_named, source_named, tests_named}
use Rattle.mc_station.specs.Tests.{MatrixFits, JudgesTests, words_needed}
use Rattle.mc_station.specs.commands.Merge.{Joins}
use Rattle.mc_station.specs.commands.Mutate.{FewMutants}

-- ---- files that are accepted

-- the source of this name, for what is done with it
abbrev pub SourceIs : Option Files → (name : List ℕ) → Action → Accepted → Type 0
SourceIs files name action accepted =
    (bytes : List ℕ) × Holds files (source_named name) bytes
    × JudgesSourceOf action bytes (Ok accepted)

-- the tests of a run of an accepted source
abbrev pub TestsAre : Option Files → Run → Accepted → List Plan → Type 0
TestsAre files run accepted plans =
    (bytes : List ℕ) × Holds files (tests_named run.tests) bytes
    × JudgesTests accepted.program run.fuel bytes (Ok plans)

-- the record of this name, of an accepted source
abbrev pub RecordIs : Option Files → (name : List ℕ) → Accepted → Kept → Type 0
RecordIs files name accepted kept =
    (bytes : List ℕ) × Holds files (record_named name) bytes
    × JudgesRecord accepted name bytes (Ok kept)

-- both records of a source, each by itself
abbrev pub RecordsAre : Option Files → (left right : List ℕ) → Accepted → (first second : Kept)
    → Type 0
RecordsAre files left right accepted first second =
    RecordIs files left accepted first × RecordIs files right accepted second

-- ---- files that are asked for

-- The file of justifications with this name, after an accepted source: the tests are accepted and
-- their matrix fits, or a record is accepted that stands in their place.
abbrev pub AsksReasons : Option Files → Action → Accepted → (name : List ℕ) → Type 0
AsksReasons files (command.run run) accepted name =
    (justified_by run.task ≡ Some name)
    × ((plans : List Plan) × TestsAre files run accepted plans
    × (words_needed accepted plans ≤ most_words))
AsksReasons files (command.write text) accepted name = ⊥
AsksReasons files (command.merge left right) accepted name = ⊥
AsksReasons files (command.analyse kept judging) accepted name =
    (judging.justify ≡ Some name) × ((found : Kept) × RecordIs files kept accepted found)

-- the tests file or a record, after an accepted source; the right record, after the left one
abbrev pub AsksTestsOrRecord : Option Files → Action → Accepted → File → Type 0
AsksTestsOrRecord files (command.run run) accepted file = file ≡ tests_named run.tests
AsksTestsOrRecord files (command.write text) accepted file = ⊥
AsksTestsOrRecord files (command.merge left right) accepted file =
    (file ≡ record_named left)
    ⊎ ((first : Kept) × RecordIs files left accepted first × (file ≡ record_named right))
AsksTestsOrRecord files (command.analyse kept judging) accepted file = file ≡ record_named kept

-- a command asks for a file, with what is accepted before
abbrev pub IsAsked : Option Files → Option Command → File → Type 0
IsAsked files None file = ⊥
IsAsked files (Some (command.on_source name action)) file =
    (file ≡ source_named name)
    ⊎ ((accepted : Accepted) × SourceIs files name action accepted
    × (AsksTestsOrRecord files action accepted file
    ⊎ ((reasons : List ℕ) × AsksReasons files action accepted reasons
    × (file ≡ reasons_named reasons))))
IsAsked files (Some (command.selfload count workers)) file = ⊥

-- ---- what is refused, and with which reply

-- a file: it is too long, or its bytes are refused
abbrev pub FileIsRefused : {A : Type 0} → Option Files → File
    → (Judging : List ℕ → Result A Reply → Type 0) → Reply → Type 0
FileIsRefused files file Judging r =
    (IsLonger files file.name (limit_of file.kind) × (r ≡ longer file))
    ⊎ ((bytes : List ℕ) × Holds files file bytes × Judging bytes (Err r))

-- the source
abbrev pub SourceIsRefused : Option Files → Option Command → Reply → Type 0
SourceIsRefused files None r = ⊥
SourceIsRefused files (Some (command.on_source name action)) r =
    FileIsRefused files (source_named name) (JudgesSourceOf action) r
SourceIsRefused files (Some (command.selfload count workers)) r =
    JudgesSource (source_text count) (Err r)

-- two records that are accepted by themselves, and this status says why they have no common one
abbrev pub PairIsRefused : Option Files → (left right : List ℕ) → Accepted → Status → Reply → Type 0
PairIsRefused files left right accepted status r =
    (first : Kept) × (second : Kept) × RecordsAre files left right accepted first second
    × (Joins first second (Err r) × (r.status ≡ status))

-- after an accepted source, the tests, a record or the pair of records
abbrev pub TestsOrRecordsAreRefusedAfter : Option Files → Action → Accepted → Reply → Type 0
TestsOrRecordsAreRefusedAfter files (command.run run) accepted r =
    FileIsRefused files (tests_named run.tests) (JudgesTests accepted.program run.fuel) r
TestsOrRecordsAreRefusedAfter files (command.write text) accepted r = ⊥
TestsOrRecordsAreRefusedAfter files (command.merge left right) accepted r =
    FileIsRefused files (record_named left) (JudgesRecord accepted left) r
    ⊎ (((first : Kept) × RecordIs files left accepted first
    × FileIsRefused files (record_named right) (JudgesRecord accepted right) r)
    ⊎ PairIsRefused files left right accepted TestsRefused r)
TestsOrRecordsAreRefusedAfter files (command.analyse kept judging) accepted r =
    FileIsRefused files (record_named kept) (JudgesRecord accepted kept) r

abbrev pub TestsOrRecordsAreRefused : Option Files → Option Command → Reply → Type 0
TestsOrRecordsAreRefused files None r = ⊥
TestsOrRecordsAreRefused files (Some (command.on_source name action)) r =
    (accepted : Accepted) × SourceIs files name action accepted
    × TestsOrRecordsAreRefusedAfter files action accepted r
TestsOrRecordsAreRefused files (Some (command.selfload count workers)) r =
    (accepted : Accepted) × JudgesSource (source_text count) (Ok accepted)
    × JudgesTests accepted.program usual_fuel (tests_text count) (Err r)

-- the task is `mutate`, which has a matrix of its own that always fits
abbrev pub IsToMutate : Task → Type 0
IsToMutate command.mutated = ⊤
IsToMutate task = ⊥

-- after an accepted source, the matrix of accepted tests, or of two accepted records together
abbrev pub MatrixIsRefusedAfter : Option Files → Action → Accepted → Reply → Type 0
MatrixIsRefusedAfter files (command.run run) accepted r =
    (plans : List Plan) × TestsAre files run accepted plans × ¬ IsToMutate run.task
    × MatrixFits accepted plans (Err r)
MatrixIsRefusedAfter files (command.write text) accepted r = ⊥
MatrixIsRefusedAfter files (command.merge left right) accepted r =
    PairIsRefused files left right accepted TooLarge r
MatrixIsRefusedAfter files (command.analyse kept judging) accepted r = ⊥

abbrev pub MatrixIsRefused : Option Files → Option Command → Reply → Type 0
MatrixIsRefused files None r = ⊥
MatrixIsRefused files (Some (command.on_source name action)) r =
    (accepted : Accepted) × SourceIs files name action accepted
    × MatrixIsRefusedAfter files action accepted r
MatrixIsRefused files (Some (command.selfload count workers)) r =
    (accepted : Accepted) × JudgesSource (source_text count) (Ok accepted)
    × ((plans : List Plan) × JudgesTests accepted.program usual_fuel (tests_text count) (Ok plans)
    × MatrixFits accepted plans (Err r))

-- after an accepted source and accepted tests, the mutants of the program
abbrev pub MutantsAreRefusedAfter : Option Files → Action → Accepted → Reply → Type 0
MutantsAreRefusedAfter files (command.run run) accepted r =
    (plans : List Plan) × TestsAre files run accepted plans × IsToMutate run.task
    × FewMutants accepted (Err r)
MutantsAreRefusedAfter files (command.write text) accepted r = ⊥
MutantsAreRefusedAfter files (command.merge left right) accepted r = ⊥
MutantsAreRefusedAfter files (command.analyse kept judging) accepted r = ⊥

abbrev pub MutantsAreRefused : Option Files → Option Command → Reply → Type 0
MutantsAreRefused files None r = ⊥
MutantsAreRefused files (Some (command.on_source name action)) r =
    (accepted : Accepted) × SourceIs files name action accepted
    × MutantsAreRefusedAfter files action accepted r
MutantsAreRefused files (Some (command.selfload count workers)) r = ⊥

-- the justifications, after all that goes before them
abbrev pub ReasonsAreRefused : Option Files → Option Command → Reply → Type 0
ReasonsAreRefused files None r = ⊥
ReasonsAreRefused files (Some (command.on_source name action)) r =
    (accepted : Accepted) × SourceIs files name action accepted
    × ((reasons : List ℕ) × AsksReasons files action accepted reasons
    × FileIsRefused files (reasons_named reasons) (JudgesReasons accepted) r)
ReasonsAreRefused files (Some (command.selfload count workers)) r = ⊥

-- ---- each status

-- why a reply has this status, which is that of a refusal or of a failure; of others nothing is
-- said
abbrev pub Cause : Option Files → Option Command → Reply → Status → Type 0
Cause files given r Done = ⊥
Cause files given r Incomplete = ⊥
Cause files given r NoCommand = (given ≡ None) × (r ≡ refusal NoCommand usage_text)
Cause files given r SourceRefused = SourceIsRefused files given r
Cause files given r TestsRefused = TestsOrRecordsAreRefused files given r
Cause files given r JustificationsRefused = ReasonsAreRefused files given r
Cause files given r CannotRead = (file : File) × IsAsked files given file × (r ≡ cannot_read file)
Cause files given r CannotWrite = ⊥
Cause files given r OutOfMemory = r ≡ out_of_memory
Cause files given r TooLarge = MatrixIsRefused files given r
Cause files given r TooManyMutants = MutantsAreRefused files given r

-- the words or a file are refused, or the matrix, or the mutants
abbrev pub IsOfRefusal : Status → Type 0
IsOfRefusal Done = ⊥
IsOfRefusal Incomplete = ⊥
IsOfRefusal NoCommand = ⊤
IsOfRefusal SourceRefused = ⊤
IsOfRefusal TestsRefused = ⊤
IsOfRefusal JustificationsRefused = ⊤
IsOfRefusal CannotRead = ⊥
IsOfRefusal CannotWrite = ⊥
IsOfRefusal OutOfMemory = ⊥
IsOfRefusal TooLarge = ⊤
IsOfRefusal TooManyMutants = ⊤

-- a status that is told with all that a command writes
abbrev pub IsOfText : Status → Type 0
IsOfText Done = ⊤
IsOfText Incomplete = ⊤
IsOfText NoCommand = ⊥
IsOfText SourceRefused = ⊥
IsOfText TestsRefused = ⊥
IsOfText JustificationsRefused = ⊥
IsOfText CannotRead = ⊥
IsOfText CannotWrite = ⊥
IsOfText OutOfMemory = ⊥
IsOfText TooLarge = ⊥
IsOfText TooManyMutants = ⊥
