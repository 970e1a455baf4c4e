-- What a reply with status 0 or 1 stands on: each file of its command, accepted, and what the
-- command tells of them.
use Rattle.std.specs.Prelude.{◌≡◌, ◌≤◌, ◌↔◌, ℕ, List, [], Option, Some, None, Ok}
use Rattle.mc_limits.specs.Limits.{most_words, usual_fuel}
use Rattle.mc_command.specs.Command as command
use Rattle.mc_command.specs.Command.{Action, Command, command_of}
use Rattle.mc_gen.specs.Source.{source_text}
use Rattle.mc_gen.specs.Tests.{tests_text}
use Rattle.mc_oblige.specs.declared.justification.Justification.{Justification}
use Rattle.mc_port.specs.Store.{Files}
use Rattle.mc_record.specs.Kept.{Kept}
use Rattle.mc_typed.specs.Plans.{Plan}
use Rattle.station_replies.specs.Reply.{Reply}
use Rattle.mc_station.specs.Calls.{Call, CallsFor, LeadsTo, Requests}
use Rattle.mc_station.specs.Causes.{IsOfText, RecordIs, RecordsAre, SourceIs, TestsAre}
use Rattle.mc_station.specs.Source.{Accepted, JudgesSource}
use Rattle.mc_station.specs.Stages.{Allows, Tells, Writes, justified_by}
use Rattle.mc_station.specs.Tests.{JudgesTests, words_needed}
use Rattle.mc_station.specs.commands.Analyse.{Analyses}
use Rattle.mc_station.specs.commands.Merge.{IsJoined, Merges}
use Rattle.mc_station.specs.commands.Selfload.{Sums}
use Rattle.laws_station.specs.Whole.{FilesAreAccepted, ReasonsAre}

-- the justifications of the file of this name; none where no file is named
abbrev pub AreReasons : Option Files → Option (List ℕ) → Accepted → List Justification → Type 0
AreReasons files None accepted js = js ≡ []
AreReasons files (Some name) accepted js = ReasonsAre files name accepted js

-- the tests of a run and its justifications, where the source is accepted and the matrix fits, or
-- for `mutate` there are few enough mutants
pub record AreTests (files : Option Files) (run : command.Run) (accepted : Accepted)
    (plans : List Plan) (js : List Justification) : Type 0 where
  pub tests : TestsAre files run accepted plans
  pub allowed : Allows run.task accepted plans (Ok tt)
  pub reasons : AreReasons files (justified_by run.task) accepted js

-- what is told of the other files of an action, once its source is accepted
abbrev pub IsOfOthers : (skipped : List ℕ) → Option Files → Action → Accepted → Reply → Type 0
IsOfOthers skipped files (command.run run) accepted r =
    (plans : List Plan) × (js : List Justification) × AreTests files run accepted plans js
    × Tells skipped run.task accepted plans js r
IsOfOthers skipped files (command.write text) accepted r = Writes text accepted r
IsOfOthers skipped files (command.merge left right) accepted r =
    (first : Kept) × (second : Kept) × (both : Kept)
    × RecordsAre files left right accepted first second
    × IsJoined first second both
    × Merges both r
IsOfOthers skipped files (command.analyse kept judging) accepted r =
    (found : Kept) × (js : List Justification)
    × RecordIs files kept accepted found
    × AreReasons files judging.justify accepted js
    × Analyses judging accepted found js r

-- what is told of all files of a command. The source and the tests that `selfload` makes itself
-- count as its files.
abbrev pub IsOfFiles : (skipped : List ℕ) → Option Files → Option Command → Reply → Type 0
IsOfFiles skipped files None r = ⊥
IsOfFiles skipped files (Some (command.on_source name action)) r =
    (accepted : Accepted) × SourceIs files name action accepted
    × IsOfOthers skipped files action accepted r
IsOfFiles skipped files (Some (command.selfload count workers)) r =
    (accepted : Accepted) × JudgesSource (source_text count) (Ok accepted)
    × ((plans : List Plan) × JudgesTests accepted.program usual_fuel (tests_text count) (Ok plans)
    × (words_needed accepted plans ≤ most_words)
    × Sums skipped count accepted plans r)

-- words and files lead to a reply with 0 or 1 only where each file is accepted, and it is what the
-- command tells of them
abbrev pub TextsAreOfFiles : Type 0
TextsAreOfFiles =
    (call : Call) (asked after : Requests) (r : Reply) → LeadsTo call asked r after
    → IsOfText r.status → IsOfFiles call.skipped call.files (command_of call.words) r

-- they call for such a reply exactly there
abbrev pub TextsAreCalled : Type 0
TextsAreCalled =
    (call : Call) (r : Reply)
    → (CallsFor call r × IsOfText r.status)
    ↔ IsOfFiles call.skipped call.files (command_of call.words) r

-- so where a call leads to 0 or 1, all its files are accepted
abbrev pub TextsHaveFiles : Type 0
TextsHaveFiles =
    (call : Call) (asked after : Requests) (r : Reply) → LeadsTo call asked r after
    → IsOfText r.status → FilesAreAccepted call.files (command_of call.words)
