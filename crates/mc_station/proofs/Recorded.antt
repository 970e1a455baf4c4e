-- What the runs of the tests come to.
use Rattle.std.proofs.Common.{◌≡◌, ◌∙◌, ℕ, List, Result, Ok, Err, ap, length, map, subst, sym}
use Rattle.std.specs.Prelude.{◌↔◌, Contains, IfOk, Vec}
use Rattle.std.specs.declared.alloc.AllocError.{AllocError}
use Rattle.std.specs.declared.alloc.Global.{Global}
use Rattle.mc_core.specs.Matrix.{Holds, MatrixView}
use Rattle.mc_cover.specs.Model.{PassView}
use Rattle.cover_recorder.specs.Crew.{HasAll}
use Rattle.mc_meaning.specs.declared.result.TestResult.{TestResult}
use Rattle.mc_typed.specs.declared.plans.TestPlan.{TestPlan}
use Rattle.mc_meaning.specs.Seen.{told_of}
use Rattle.mc_probe.specs.BitMaps.{map_of}
use Rattle.mc_probe.specs.Trees.{tree_of}
use Rattle.mc_typed.specs.Views.{program_of}
use Rattle.mc_tests.specs.Seen.{seen_plans}
use Rattle.mc_runner.specs.Recorded.{AreRecorded, told_by}
use Rattle.mc_runner.specs.Laws.{EventsStand, ResultsArePlain}
use Rattle.mc_runner.specs.Jobs.{does_of}
use Rattle.mc_runner.proofs.Jobs.{closed_is_recorded}
use Rattle.mc_runner.proofs.Standing.{bits_stand, events_stand, results_are_plain}
use Rattle.mc_station.specs.Ran.{IsRun}
use Rattle.mc_station.specs.Tests.{names, results, shape_of}
use Rattle.mc_station.specs.Seen.{ArePlanned, HasItsTree, IsOpened, seen_accepted}
use Rattle.mc_station.specs.declared.accepted.Accepted.{Accepted}
use Rattle.mc_station.specs.declared.opened.Opened.{Opened}
use Rattle.mc_station.specs.declared.ran.Ran.{Ran}
use Rattle.mc_station.proofs.Instrumenting.{bits_are, ready}
use Rattle.mc_station.proofs.Reported.{states_told}

-- what the tests gave is what their plain runs give
pub is_run : EventsStand → ResultsArePlain → (skipped : List ℕ) (a : Accepted) (plans : List TestPlan) (ran : Ran) → HasItsTree a → ArePlanned a plans → AreRecorded (tree_of a.tree) (seen_plans plans) skipped ran.matrix
    → map told_of ran.results.items ≡ map (told_by (tree_of a.tree)) (seen_plans plans) → ran.names.items ≡ names (seen_plans plans)
    → ran.states.items ≡ map (λ r. r.state) ran.results.items → IsRun skipped (seen_accepted a) (seen_plans plans) ran
is_run stand plain_results skipped a plans ran is planned recorded told named state =
    let p = program_of a.tree.program in
    let can = ready a plans is planned in
    let plain : map told_of ran.results.items ≡ results p (seen_plans plans) = told ∙ plain_results p (map_of a.map) (tree_of a.tree) (seen_plans plans) can in
    record {
      shape = λ i. record { bits = (recorded.bits ∙ bits_are a plans is planned) i; tests = recorded.tests i };
      pairs = bits_stand p (map_of a.map) (tree_of a.tree) (seen_plans plans) skipped ran.matrix can recorded;
      events = stand p (map_of a.map) (tree_of a.tree) (seen_plans plans) skipped ran.matrix can recorded;
      names = named;
      states = state ∙ states_told ran.results.items p (seen_plans plans) plain;
      results = plain;
    }

-- memory may not suffice for the names and states
pub run_gathered : (skipped : List ℕ) (a : Accepted) (plans : List TestPlan) (matrix : MatrixView) (results : Vec TestResult Global) (given : Result Ran AllocError) → HasItsTree a → ArePlanned a plans
    → AreRecorded (tree_of a.tree) (seen_plans plans) skipped matrix → map told_of results.items ≡ map (told_by (tree_of a.tree)) (seen_plans plans) → IfOk given (λ ran. ran.matrix ≡ matrix)
    → IfOk given (λ ran. ran.results ≡ results) → IfOk given (λ ran. ran.names.items ≡ names (seen_plans plans)) → IfOk given (λ ran. ran.states.items ≡ map (λ r. r.state) results.items)
    → IfOk given (IsRun skipped (seen_accepted a) (seen_plans plans))
run_gathered skipped a plans matrix results (Ok ran) is planned recorded told same_matrix same_results named state =
    is_run events_stand results_are_plain skipped a plans ran is planned
    (subst (λ (m : MatrixView). AreRecorded (tree_of a.tree) (seen_plans plans) skipped m) (sym same_matrix) recorded)
    (ap (λ (v : Vec TestResult Global). map told_of v.items) same_results ∙ told)
    named
    (state ∙ ap (λ (v : Vec TestResult Global). map (λ (r : TestResult). r.state) v.items) (sym same_results))
run_gathered skipped a plans matrix results (Err e) is planned recorded told same_matrix same_results named state = tt

-- what a closer makes of the pass of all workers
pub closed : (skipped : List ℕ) (a : Accepted) (plans : List TestPlan) (opened : Opened) (pass : PassView) (matrix : MatrixView) → HasItsTree a → ArePlanned a plans → IsOpened a plans opened
    → HasAll (does_of (tree_of a.tree) (seen_plans plans)) opened.cover pass → matrix.shape ≡ opened.cover.shape
    → ((b t : ℕ) → Holds matrix b t ↔ (Contains pass.view.hits (b, t) × ¬ Contains skipped t)) → AreRecorded (tree_of a.tree) (seen_plans plans) skipped matrix
closed skipped a plans opened pass matrix is planned fresh has shape pairs =
    let bits : shape_of (seen_accepted a) (seen_plans plans) ≡ record { bits = a.tree.bits; tests = length (seen_plans plans) } =
    λ i. record { bits = sym (bits_are a plans is planned) i; tests = length (seen_plans plans) } in
    closed_is_recorded (tree_of a.tree) (seen_plans plans) skipped opened.cover pass matrix has (fresh.shape ∙ bits) shape pairs
