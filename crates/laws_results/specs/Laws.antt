-- What is told of the runs of tests, call by call, beside their plain runs, and beside a report.
use Rattle.std.specs.Prelude.{◌≡◌, List, ◌∷◌, map}
use Rattle.interp_trail.specs.Layouts.{layout_of}
use Rattle.interp_trail.specs.Traced.{plainly_traced}
use Rattle.mc_meaning.specs.Seen.{plainly_told}
use Rattle.mc_meaning.specs.Tests.{plain_run, plain_state}
use Rattle.mc_probe.specs.Maps.{Map}
use Rattle.mc_probe.specs.Tree.{Tree}
use Rattle.mc_report.specs.Lines as report
use Rattle.mc_report.specs.Summary as summary
use Rattle.mc_results.specs.Traced.{all_traced}
use Rattle.mc_runner.specs.Laws.{IsReady}
use Rattle.mc_typed.specs.Plans.{Plan}
use Rattle.mc_typed.specs.Tree.{Program}
use Rattle.mc_typed.specs.declared.plans.TestState.{TestState}
use Rattle.results_lines.specs.Lines.{call_lines, test_block}
use Rattle.results_lines.specs.Sources.{Source}
use Rattle.results_lines.specs.Tests.{passed_line}

-- with the layout of the program's map, what is told of the tests is what is to be told of their
-- plain runs
abbrev pub TracesArePlain : Type 0
TracesArePlain =
    (p : Program) (m : Map) (tree : Tree) (plans : List Plan) → IsReady p m tree plans →
    all_traced (layout_of m) tree plans ≡ map (plainly_traced p) plans

-- The lines of a test begin with its line in a report, which is that of its plain run. The lines of
-- its calls follow.
abbrev pub TestLinesAreReports : Type 0
TestLinesAreReports =
    (s : Source) (p : Program) (plan : Plan) →
    test_block s plan (plainly_traced p plan)
    ≡ report.run_line plan.name (plain_state p plan) (plainly_told p plan)
    ∷ call_lines s 1 plan.calls 0 (plain_run p plan).done (plainly_traced p plan)

-- the last line counts the tests as that of a load does
abbrev pub CountsAreLoads : Type 0
CountsAreLoads = (states : List TestState) → passed_line states ≡ summary.passed_line states
