-- What the parts of the text of a command are, from what the tests gave.
use Rattle.std.proofs.Common.{◌≡◌, ◌∙◌, ◌<◌, ◌^◌, ℕ, List, [], ◌∷◌, Some, Result, Ok, Err, length, map, refl, sym, ap, subst}
use Rattle.std.specs.Prelude.{All, IfOk, IsUtf8}
use Rattle.std.specs.declared.alloc.AllocError.{AllocError}
use Rattle.std.proofs.lemmas.List.{length-map}
use Rattle.sha2.specs.Sha256.{sha256}
use Rattle.mc_command.specs.Command as command
use Rattle.report_options.specs.declared.mode.Mode.{Mode}
use Rattle.mc_core.specs.Matrix.{MatrixView}
use Rattle.mc_typed.specs.Plans.{Plan}
use Rattle.mc_steps.specs.Events.{Event}
use Rattle.mc_tests.specs.File.{AreNamed}
use Rattle.mc_typed.specs.Tree.{Program}
use Rattle.mc_typed.specs.declared.plans.TestState.{TestState}
use Rattle.mc_meaning.specs.Seen.{Told, told_of}
use Rattle.mc_meaning.specs.Tests.{plain_state}
use Rattle.mc_meaning.specs.declared.result.TestResult.{TestResult}
use Rattle.mc_oblige.specs.Evaluated.{AreEvaluated}
use Rattle.mc_oblige.specs.Obligations.{obligations_of}
use Rattle.mc_oblige.specs.Shown.{HasEvent}
use Rattle.mc_oblige.specs.Verdicts.{AreVerdicts}
use Rattle.mc_oblige.specs.declared.justification.Justification.{Justification}
use Rattle.mc_oblige.specs.declared.evaluated.EvaluatedPath.{EvaluatedPath}
use Rattle.mc_oblige.specs.declared.verdict.Verdict.{Verdict}
use Rattle.mc_report.specs.Report as text
use Rattle.mc_report.specs.Report.{AreJudged, IsReport}
use Rattle.mc_report.specs.VectorsText.{IsPresent, vectors_lines}
use Rattle.mc_report.proofs.Judging.{reported}
use Rattle.mc_report.proofs.Present.{present}
use Rattle.station_replies.specs.Reply.{Reply, written}
use Rattle.mc_station.specs.Replied.{seen_reply}
use Rattle.mc_station.specs.declared.reply.Reply.{Reply as Given}
use Rattle.mc_station.specs.Ran.{AreTold, IsRun, seen_ran}
use Rattle.mc_station.specs.Tests.{Tested, names, results, stands, states, status_where, tested_of}
use Rattle.mc_station.specs.commands.Reduce.{Reduces, ReducesOn}
use Rattle.mc_station.specs.commands.Report.{JudgesOn, JudgesRun, report}
use Rattle.mc_station.specs.commands.Selfload.{Sums, SumsOn}
use Rattle.mc_station.specs.commands.Vectors.{Lists, ListsOn}
use Rattle.mc_station.specs.Source.{Accepted}
use Rattle.mc_station.specs.declared.ran.Ran.{Ran}
use Rattle.mc_station.proofs.Listing.{also_lists}
use Rattle.mc_station.proofs.Reducing.{also_reduces}
use Rattle.mc_station.proofs.Summing.{also_sums}
use Rattle.mc_station.proofs.Named.{names_are_texts}
use Rattle.mc_station.proofs.Reporting.{also_judges}

-- the state stands in what is told of a test
pub states_told : (rs : List TestResult) (p : Program) (plans : List Plan) → map told_of rs ≡ results p plans → map (λ (r : TestResult). r.state) rs ≡ states p plans
states_told rs p plans is = of_results rs ∙ ap (map (λ (t : Told). t.state)) is ∙ of_plans plans
  where
    of_results : (rs : List TestResult) → map (λ (r : TestResult). r.state) rs ≡ map (λ (t : Told). t.state) (map told_of rs)
    of_results [] = refl
    of_results (r ∷ rs) = ap (λ (ss : List TestState). r.state ∷ ss) (of_results rs)

    of_plans : (plans : List Plan) → map (λ (t : Told). t.state) (results p plans) ≡ states p plans
    of_plans [] = refl
    of_plans (plan ∷ plans) = ap (λ (ss : List TestState). plain_state p plan ∷ ss) (of_plans plans)

pub as_many_states : (p : Program) (plans : List Plan) → length (states p plans) ≡ length (names plans)
as_many_states p plans = length-map plans _ ∙ sym (length-map plans _)

pub as_many_results : (p : Program) (plans : List Plan) → length (results p plans) ≡ length (names plans)
as_many_results p plans = length-map plans _ ∙ sym (length-map plans _)

pub names_are_plans : (plans : List Plan) → length (names plans) ≡ length plans
names_are_plans plans = length-map plans _

-- ---- what is told of tests that were run

module _ (skipped : List ℕ) (accepted : Accepted) (plans : List Plan) (ran : Ran) (run : IsRun skipped accepted plans ran) where
  pub told_is : seen_ran ran ≡ tested_of accepted.program plans
  told_is = λ i. record { names = run.names i; states = run.states i; results = Some (run.results i) }

  -- it belongs to the matrix
  pub are_told : AreNamed plans → AreTold accepted ran.matrix (seen_ran ran)
  are_told named =
      let many : length plans ≡ length ran.names.items = sym (names_are_plans plans) ∙ ap length (sym run.names) in record {
        shape = run.shape ∙ (λ i. record { bits = accepted.map.bits; tests = many i });
        states = ap length run.states ∙ as_many_states accepted.program plans ∙ ap length (sym run.names);
        results = ap length run.results ∙ as_many_results accepted.program plans ∙ ap length (sym run.names);
        texts = subst (λ (ns : List (List ℕ)). All IsUtf8 ns) (sym run.names) (names_are_texts plans named);
      }

-- ---- reports

module _ (shown : Event → ℕ → Type 0) (mode : Mode) (accepted : Accepted) (tests : Tested) (js : List Justification) where
  -- the parts of a report are those of its definition
  pub report_is : (made : text.Report) (verdicts : List Verdict) → made.source ≡ accepted.source → made.digest ≡ sha256 accepted.source → made.mode ≡ mode → made.names ≡ tests.names
      → made.states ≡ tests.states → made.results ≡ tests.results → made.decisions ≡ accepted.map.decisions → made.obligations ≡ obligations_of accepted.map
      → made.verdicts ≡ verdicts → made ≡ report mode accepted tests verdicts
  report_is made verdicts source digest mode named state result decisions obligations verdict = λ i. record {
    source = source i;
    digest = digest i;
    mode = mode i;
    names = named i;
    states = state i;
    results = result i;
    decisions = decisions i;
    obligations = obligations i;
    verdicts = verdict i;
  }

-- a report can be written
pub can_be_written : (mode : Mode) (accepted : Accepted) (tests : Tested) (js : List Justification) (made : text.Report) (verdicts : List Verdict) (matrix : MatrixView)
    → made ≡ report mode accepted tests verdicts → length accepted.source < 2 ^ 31 → AreTold accepted matrix tests → All (λ (j : Justification). IsUtf8 j.reason) js
    → AreVerdicts (HasEvent accepted.map matrix) accepted.map mode js verdicts → IsReport made
can_be_written mode accepted tests js made verdicts matrix is short told texts are =
    let judged = reported accepted.map matrix mode js verdicts texts are in
    subst IsReport (sym is) record {
      short = short;
      states = told.states;
      results = told.results;
      judged = subst (λ (n : ℕ). AreJudged n accepted.map.decisions (obligations_of accepted.map) verdicts) (ap (λ s. s.tests) told.shape) judged;
    }

-- ---- the reply of `vectors`

module _ (accepted : Accepted) (names : List (List ℕ)) (states : List TestState) (results : List Told) where
  pub lists : (shown : Event → ℕ → Type 0) (paths : List EvaluatedPath) (number : ℕ) (lines : List (List ℕ)) (reply : Reply) → AreEvaluated shown accepted.map paths
      → number ≡ status_where states → lines ≡ vectors_lines names states results accepted.map.decisions paths → reply ≡ written number lines
      → ListsOn shown accepted names states results reply
  lists shown paths number lines reply are number_is lines_are reply_is = (paths, are, reply_is ∙ (λ i. written (number_is i) (lines_are i)))

  -- each path that is listed is there, and so is its test
  pub are_present : (paths : List EvaluatedPath) (matrix : MatrixView) → matrix.shape.tests ≡ length names → AreEvaluated (HasEvent accepted.map matrix) accepted.map paths
      → All (IsPresent (length names) accepted.map.decisions) paths
  are_present paths matrix many are = subst (λ (n : ℕ). All (IsPresent n accepted.map.decisions) paths) many (present accepted.map matrix paths are)

-- ---- what is told by the plain runs

module _ (skipped : List ℕ) (accepted : Accepted) (plans : List Plan) (ran : Ran) (js : List Justification) (run : IsRun skipped accepted plans ran) where
  -- the obligations judged by the matrix of a run
  pub run_judges : (asked : command.Judging) (given : Result Given AllocError) → IfOk given (λ reply. JudgesOn (HasEvent accepted.map ran.matrix) asked accepted (seen_ran ran) js (seen_reply reply))
      → IfOk given (λ reply. JudgesRun skipped asked accepted plans js (seen_reply reply))
  run_judges asked (Ok reply) reports =
      let stood = also_judges (HasEvent accepted.map ran.matrix) asked accepted (seen_ran ran) js (stands skipped accepted plans) (seen_reply reply) run.events reports in
      subst (λ (tests : Tested). JudgesOn (stands skipped accepted plans) asked accepted tests js (seen_reply reply)) (told_is skipped accepted plans ran run) stood
  run_judges asked (Err e) reports = tt

  -- and the vectors
  pub run_lists : (given : Result Given AllocError) → IfOk given (λ reply. ListsOn (HasEvent accepted.map ran.matrix) accepted ran.names.items ran.states.items (map told_of ran.results.items) (seen_reply reply))
      → IfOk given (λ reply. Lists skipped accepted plans (seen_reply reply))
  run_lists (Ok reply) lists =
      let stood = also_lists (HasEvent accepted.map ran.matrix) accepted ran.names.items ran.states.items (map told_of ran.results.items) (stands skipped accepted plans) (seen_reply reply) run.events lists in
      subst (λ (rs : List Told). ListsOn (stands skipped accepted plans) accepted (names plans) (states accepted.program plans) rs (seen_reply reply)) run.results
      (subst (λ (ss : List TestState). ListsOn (stands skipped accepted plans) accepted (names plans) ss (map told_of ran.results.items) (seen_reply reply)) run.states
      (subst (λ (ns : List (List ℕ)). ListsOn (stands skipped accepted plans) accepted ns ran.states.items (map told_of ran.results.items) (seen_reply reply)) run.names stood))
  run_lists (Err e) lists = tt

-- the tests that are kept of a run
pub run_reduces : (skipped : List ℕ) (accepted : Accepted) (plans : List Plan) (ran : Ran) → IsRun skipped accepted plans ran → (mode : Mode) (given : Result Given AllocError)
    → IfOk given (λ reply. ReducesOn (HasEvent accepted.map ran.matrix) mode accepted ran.names.items ran.states.items (seen_reply reply)) → IfOk given (λ reply. Reduces skipped mode accepted plans (seen_reply reply))
run_reduces skipped accepted plans ran run mode (Ok reply) reduces =
    let stood = also_reduces (HasEvent accepted.map ran.matrix) mode accepted ran.names.items ran.states.items (stands skipped accepted plans) (seen_reply reply) run.events reduces in
    subst (λ (ss : List TestState). ReducesOn (stands skipped accepted plans) mode accepted (names plans) ss (seen_reply reply)) run.states
    (subst (λ (ns : List (List ℕ)). ReducesOn (stands skipped accepted plans) mode accepted ns ran.states.items (seen_reply reply)) run.names stood)
run_reduces skipped accepted plans ran run mode (Err e) reduces = tt

-- the summary of a run
pub run_sums : (skipped : List ℕ) (accepted : Accepted) (plans : List Plan) (ran : Ran) → IsRun skipped accepted plans ran → (count : ℕ) (given : Result Given AllocError)
    → IfOk given (λ reply. SumsOn (HasEvent accepted.map ran.matrix) count accepted (seen_ran ran) (seen_reply reply)) → IfOk given (λ reply. Sums skipped count accepted plans (seen_reply reply))
run_sums skipped accepted plans ran run count (Ok reply) sums =
    let stood = also_sums (HasEvent accepted.map ran.matrix) (stands skipped accepted plans) count accepted (seen_ran ran) (seen_reply reply) run.events sums in
    subst (λ (tests : Tested). SumsOn (stands skipped accepted plans) count accepted tests (seen_reply reply)) (told_is skipped accepted plans ran run) stood
run_sums skipped accepted plans ran run count (Err e) sums = tt
