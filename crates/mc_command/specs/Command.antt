-- The words that are a command.
use Rattle.std.specs.Prelude.{ℕ, List, ◌∷◌, Option, Some, None, if◌then◌else◌, codes, option_and_then, option_map}
use Rattle.std.specs.Str.{bytes_eq}
use Rattle.clap.specs.Walk.{Row, Text, first_of}
use Rattle.mc_limits.specs.Limits.{most_workers}
use Rattle.mc_command.specs.Line.{matches_on}
use Rattle.mc_command.specs.Values.{count_in, form_in, fuel_in, looks_in, mode_in, most_watched_workers, workers_in}
use Rattle.report_options.specs.declared.form.Form.{Form}
use Rattle.report_options.specs.declared.mode.Mode.{Mode}

-- what is told of the obligations of a source once each has its verdict
pub data Telling : Type 0 where
  -- `report`, `analyse`: each verdict with its evidence, in this form
  report : Form → Telling
  -- `list`: the lines of the source, each with the mark of its worst verdict
  listing : Telling
  -- `functions`: how many are met in each function, of one file of the source or of all of it
  functions : (of : Option (List ℕ)) → Telling
  -- `needs`: which vectors would show the missing ones, of one file or of all of it
  needs : (of : Option (List ℕ)) → Telling

-- the file of the source of whose obligations alone it is told, where one is named
abbrev pub file_told : Telling → Option (List ℕ)
file_told (functions of) = of
file_told (needs of) = of
file_told telling = None

-- how obligations are judged: what shows the independence of a condition, and the file of
-- justifications; and what is told of them then
pub record Judging : Type 0 where
  pub mode : Mode
  pub justify : Option (List ℕ)
  pub telling : Telling

-- what is written of the matrix of what the tests evaluated, once all of them have run
pub data MatrixTask : Type 0 where
  -- `report`, `list`, `functions`, `needs`: the verdicts on the obligations
  judged : Judging → MatrixTask
  -- `vectors`: the evaluated vectors of each decision
  vectors : MatrixTask
  -- `record`: the matrix itself, to be kept in a file
  recorded : MatrixTask
  -- `reduce`: tests that show what all of them show, and none of which can go
  reduced : Mode → MatrixTask

-- what the tests are run for
pub data Task : Type 0 where
  on_matrix : MatrixTask → Task
  -- `watch`: how many bits are recorded, looked at so often while the tests run
  watched : (looks : ℕ) → Task
  -- `mutate`: which changes of the decisions the tests notice
  mutated : Task
  -- `results`: what each call of the tests did
  traced : Task

-- a run of the tests: the name of their file, how many workers share them, the fuel of each, and
-- what they are run for
pub record Run : Type 0 where
  pub tests : List ℕ
  pub workers : ℕ
  pub fuel : ℕ
  pub task : Task

-- a text that is made of a source alone
pub data SourceText : Type 0 where
  -- `instrument`: the program with its probes
  instrumented : SourceText
  -- `adapt`: the source itself, which is made of a preprocessed text
  adapted : SourceText

-- what is done with a source
pub data Action : Type 0 where
  -- its tests are run
  run : Run → Action
  -- a text is made of it alone
  write : SourceText → Action
  -- `merge`: two records of its tests are joined, the left one first
  merge : (left right : List ℕ) → Action
  -- `analyse`: its obligations are judged by a record of its tests
  analyse : (kept : List ℕ) → Judging → Action

pub data Command : Type 0 where
  -- a command on a source, which has this name
  on_source : (source : List ℕ) → Action → Command
  -- `selfload`: the program makes a source of `count` functions and its tests, the workers run
  -- them, and it sums up
  selfload : (count workers : ℕ) → Command

-- ---- what the matches of a subcommand ask for

abbrev pub judging_with : Telling → Option Mode → Option Text → Option Judging
judging_with telling (Some mode) justify =
    Some (record { mode = mode; justify = justify; telling = telling })
judging_with telling None justify = None

-- `[--mode M] [--justify NAME]`
abbrev pub judging_in : Telling → List Row → Option Judging
judging_in telling values =
    judging_with telling (mode_in values) (first_of (codes "justify") values)

-- a report in the form that is asked for: `[--format F]`
abbrev pub form_told_in : List Row → Option Telling
form_told_in values = option_map report (form_in values)

-- `[--mode M] [--justify NAME] [--format F]`
abbrev pub report_in : List Row → Option Judging
report_in values =
    option_and_then (λ telling. judging_in telling values) (form_told_in values)

-- the name after `--of`
abbrev pub of_in : List Row → Option Text
of_in values = first_of (codes "of") values

-- what a command tells of judged obligations, once it has run the tests
abbrev pub telling_in : (name : Text) → List Row → Option Telling
telling_in name values =
    if bytes_eq name (codes "report") then form_told_in values
    else if bytes_eq name (codes "list") then Some listing
    else if bytes_eq name (codes "functions") then Some (functions (of_in values))
    else if bytes_eq name (codes "needs") then Some (needs (of_in values))
    else None

-- a command that runs the tests and judges the obligations
abbrev pub judged_in : (name : Text) → List Row → Option Judging
judged_in name values =
    option_and_then (λ telling. judging_in telling values) (telling_in name values)

abbrev pub matrix_task_in : (name : Text) → List Row → Option MatrixTask
matrix_task_in name values =
    if bytes_eq name (codes "vectors") then Some vectors
    else if bytes_eq name (codes "record") then Some recorded
    else if bytes_eq name (codes "reduce") then option_map reduced (mode_in values)
    else option_map judged (judged_in name values)

abbrev pub task_in : (name : Text) → List Row → Option Task
task_in name values =
    if bytes_eq name (codes "watch") then option_map watched (looks_in values)
    else if bytes_eq name (codes "mutate") then Some mutated
    else if bytes_eq name (codes "results") then Some traced
    else option_map on_matrix (matrix_task_in name values)

-- a watcher stands beside the workers of a run that is watched
abbrev pub most_workers_of : Task → ℕ
most_workers_of (watched looks) = most_watched_workers
most_workers_of task = most_workers

abbrev pub run_with : Task → Option Text → Option ℕ → Option ℕ → Option Run
run_with task (Some tests) (Some workers) (Some fuel) =
    Some (record { tests = tests; workers = workers; fuel = fuel; task = task })
run_with task tests workers fuel = None

-- `TESTS [--workers N] [--fuel N]`
abbrev pub run_in : Task → List Row → Option Run
run_in task values =
    run_with task (first_of (codes "tests") values) (workers_in (most_workers_of task) values)
    (fuel_in values)

-- `TESTS [--workers N] [--fuel N]`, with the options of the task that has this name
abbrev pub run_action_in : (name : Text) → List Row → Option Action
run_action_in name values =
    option_map run (option_and_then (λ task. run_in task values) (task_in name values))

abbrev pub merge_with : Option Text → Option Text → Option Action
merge_with (Some left) (Some right) = Some (merge left right)
merge_with left right = None

-- `LEFT RIGHT`
abbrev pub merge_in : List Row → Option Action
merge_in values = merge_with (first_of (codes "left") values) (first_of (codes "right") values)

abbrev pub analyse_with : Option Text → Option Judging → Option Action
analyse_with (Some kept) (Some how) = Some (analyse kept how)
analyse_with kept how = None

-- `RECORD [--mode M] [--justify NAME] [--format F]`
abbrev pub analyse_in : List Row → Option Action
analyse_in values = analyse_with (first_of (codes "record") values) (report_in values)

abbrev pub action_in : (name : Text) → List Row → Option Action
action_in name values =
    if bytes_eq name (codes "merge") then merge_in values
    else if bytes_eq name (codes "analyse") then analyse_in values
    else if bytes_eq name (codes "instrument") then Some (write instrumented)
    else if bytes_eq name (codes "adapt") then Some (write adapted)
    else run_action_in name values

abbrev pub on_source_with : Option Text → Option Action → Option Command
on_source_with (Some source) (Some action) = Some (on_source source action)
on_source_with source action = None

-- `SOURCE`, with the files and options of the action that has this name
abbrev pub on_source_in : (name : Text) → List Row → Option Command
on_source_in name values =
    on_source_with (first_of (codes "source") values) (action_in name values)

abbrev pub selfload_with : Option ℕ → Option ℕ → Option Command
selfload_with (Some count) (Some workers) = Some (selfload count workers)
selfload_with count workers = None

-- `N [--workers N]`
abbrev pub selfload_in : List Row → Option Command
selfload_in values = selfload_with (count_in values) (workers_in most_workers values)

abbrev pub command_in : Text × List Row → Option Command
command_in (name, values) =
    if bytes_eq name (codes "selfload") then selfload_in values else on_source_in name values

-- The command that words are, which stand after the program's own name. They are one exactly where
-- `clap` states matches for them, and each value is in its set.
unfoldable pub command_of : List Text → Option Command
command_of words = option_and_then command_in (matches_on (codes "mcdc" ∷ words))
