-- The command line as `clap` sees it: a command with one level of subcommands, built of positionals
-- that have to be given and of options of one value.
use Rattle.std.specs.Prelude.{List, [], ◌∷◌, Some, true, codes}
use Rattle.clap.specs.Walk.{Rule, Text}
use Rattle.clap.specs.Simple.{App, new_app, new_rule, with_rule, with_subcommand}

-- a positional that has to be given
abbrev pub positional_rule : Text → Rule
positional_rule name = record (new_rule name) { required = true }

-- an option of one value: `--NAME VALUE`
abbrev pub option_rule : Text → Rule
option_rule name = record (new_rule name) { long = Some name }

abbrev pub with_rules : App → List Rule → App
with_rules app [] = app
with_rules app (rule ∷ rules) = with_rules (with_rule app rule) rules

-- `SOURCE` and one more file
abbrev pub file_rules : Text → List Rule
file_rules other = positional_rule (codes "source") ∷ positional_rule other ∷ []

-- `[--workers N] [--fuel N]`
abbrev pub run_rules : List Rule
run_rules = option_rule (codes "workers") ∷ option_rule (codes "fuel") ∷ []

-- `[--mode M] [--justify NAME] [--format F]`
abbrev pub report_rules : List Rule
report_rules =
    option_rule (codes "mode") ∷ option_rule (codes "justify") ∷ option_rule (codes "format") ∷ []

-- ---- the commands

-- `NAME SOURCE OTHER`
abbrev pub files_app : (name other : Text) → App
files_app name other = with_rules (new_app name) (file_rules other)

-- `NAME SOURCE TESTS [--workers N] [--fuel N]`
abbrev pub run_app : Text → App
run_app name = with_rules (files_app name (codes "tests")) run_rules

-- `report SOURCE TESTS [--workers N] [--fuel N] [--mode M] [--justify NAME] [--format F]`
abbrev pub report_app : App
report_app = with_rules (run_app (codes "report")) report_rules

-- `watch SOURCE TESTS [--workers N] [--fuel N] [--looks N]`
abbrev pub watch_app : App
watch_app = with_rule (run_app (codes "watch")) (option_rule (codes "looks"))

-- `reduce SOURCE TESTS [--workers N] [--fuel N] [--mode M]`
abbrev pub reduce_app : App
reduce_app = with_rule (run_app (codes "reduce")) (option_rule (codes "mode"))

-- `mutate SOURCE TESTS [--workers N] [--fuel N]`
abbrev pub mutate_app : App
mutate_app = run_app (codes "mutate")

-- `list SOURCE TESTS [--workers N] [--fuel N] [--mode M] [--justify NAME]`
abbrev pub list_app : App
list_app =
    with_rules (run_app (codes "list"))
    (option_rule (codes "mode") ∷ option_rule (codes "justify") ∷ [])

-- `NAME SOURCE TESTS [--workers N] [--fuel N] [--mode M] [--justify NAME] [--of NAME]`
abbrev pub part_app : Text → App
part_app name =
    with_rules (run_app name)
    (option_rule (codes "mode") ∷ option_rule (codes "justify") ∷ option_rule (codes "of") ∷ [])

-- `NAME SOURCE`
abbrev pub source_app : Text → App
source_app name = with_rule (new_app name) (positional_rule (codes "source"))

-- `merge SOURCE LEFT RIGHT`
abbrev pub merge_app : App
merge_app =
    with_rule (files_app (codes "merge") (codes "left")) (positional_rule (codes "right"))

-- `analyse SOURCE RECORD [--mode M] [--justify NAME] [--format F]`
abbrev pub analyse_app : App
analyse_app = with_rules (files_app (codes "analyse") (codes "record")) report_rules

-- `selfload N [--workers N]`
abbrev pub selfload_app : App
selfload_app =
    with_rules (new_app (codes "selfload"))
    (positional_rule (codes "count") ∷ option_rule (codes "workers") ∷ [])

-- ---- the line

-- the commands that run the tests of a source
abbrev pub with_run_commands : App → App
with_run_commands line =
    with_subcommand
    (with_subcommand (with_subcommand line report_app.top) (run_app (codes "vectors")).top)
    (run_app (codes "record")).top

-- the commands that run the tests of a source to look at them, to choose among them, and to try
-- them on its mutants
abbrev pub with_tester_commands : App → App
with_tester_commands line =
    with_subcommand (with_subcommand (with_subcommand line watch_app.top) reduce_app.top)
    mutate_app.top

-- the commands on records
abbrev pub with_record_commands : App → App
with_record_commands line =
    with_subcommand (with_subcommand line merge_app.top) analyse_app.top

-- the commands that write a source out, and the one on a source that the program makes itself
abbrev pub with_other_commands : App → App
with_other_commands line =
    with_subcommand
    (with_subcommand (with_subcommand line list_app.top) (source_app (codes "instrument")).top)
    selfload_app.top

-- the commands that help to close a report
abbrev pub with_closing_commands : App → App
with_closing_commands line =
    with_subcommand
    (with_subcommand (with_subcommand line (part_app (codes "functions")).top)
    (part_app (codes "needs")).top)
    (run_app (codes "results")).top

-- the command that makes a source of a preprocessed text
abbrev pub with_making_commands : App → App
with_making_commands line = with_subcommand line (source_app (codes "adapt")).top

abbrev pub line_app : App
line_app =
    with_making_commands
    (with_closing_commands
    (with_other_commands
    (with_record_commands (with_tester_commands (with_run_commands (new_app (codes "mcdc")))))))
