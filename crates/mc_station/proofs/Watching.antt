-- The command `watch`: what its looks counted, and its replies, of which there is one but for these counts.
use Rattle.std.proofs.Common.{◌≡◌, ◌∙◌, ◌*◌, ◌^◌, ◌<◌, ◌≤◌, ◌⊎◌, ℕ, List, [], length, map, Option, Some, None, Ok, ap, inl, inr, subst, sym, arith}
use Rattle.std.specs.Prelude.{◌↔◌, Contains, Vec}
use Rattle.std.specs.declared.alloc.Global.{Global}
use Rattle.std.proofs.Math.Nat.{mul-le-mul_left}
use Rattle.mc_limits.specs.Limits.{most_words}
use Rattle.mc_command.specs.Command as command
use Rattle.mc_command.specs.Command.{Action, Command, Task}
use Rattle.mc_core.specs.Matrix.{Holds, MatrixView}
use Rattle.mc_core.specs.Shape.{rows, word_count}
use Rattle.mc_core.specs.declared.shape.Shape.{Shape}
use Rattle.mc_cover.specs.Model.{PassView}
use Rattle.cover_recorder.specs.Crew.{HasAll}
use Rattle.mc_meaning.specs.Seen.{told_of}
use Rattle.mc_meaning.specs.declared.result.TestResult.{TestResult}
use Rattle.mc_probe.specs.Trees.{tree_of}
use Rattle.mc_typed.specs.Plans.{Plan}
use Rattle.mc_typed.specs.declared.plans.TestPlan.{TestPlan}
use Rattle.mc_tests.specs.Seen.{seen_plans}
use Rattle.mc_record.specs.Kept.{Kept}
use Rattle.mc_runner.specs.Jobs.{does_of}
use Rattle.mc_runner.specs.Recorded.{told_by}
use Rattle.mc_oblige.specs.declared.justification.Justification.{Justification}
use Rattle.mc_watch.specs.Watched.{AreSoMany, IsWatched}
use Rattle.mc_watch.proofs.SoMany.{only_one, so_many_same}
use Rattle.station_replies.specs.Phases.{AreOne}
use Rattle.station_replies.specs.Reply.{Reply, written}
use Rattle.station_replies.proofs.Phases as phases
use Rattle.mc_station.specs.Laws.{IsLater, IsToWatch, IsWatch}
use Rattle.mc_station.specs.Looked.{IsLooked}
use Rattle.mc_station.specs.Ran.{IsRun}
use Rattle.mc_station.specs.Seen.{ArePlanned, HasItsTree, IsOpened, seen_accepted}
use Rattle.mc_station.specs.Source.{Accepted}
use Rattle.mc_station.specs.Stages as stages
use Rattle.mc_station.specs.Stages.{Basis, Judges, Stage, after_source, after_tests, first_stage, justified_by}
use Rattle.mc_station.specs.Tests.{names, states, status_where}
use Rattle.mc_station.specs.commands.Record.{marked}
use Rattle.mc_station.specs.commands.Watch.{AreOnLooks, Watches, watch_lines}
use Rattle.mc_station.specs.declared.accepted.Accepted.{Accepted as Given}
use Rattle.mc_station.specs.declared.opened.Opened.{Opened}
use Rattle.mc_station.specs.declared.ran.Ran.{Ran}
use Rattle.mc_station.proofs.Recorded.{closed, run_gathered}
use Rattle.mc_station.proofs.Written.{written_later}

-- ---- what a run gives that was looked at

none_skipped : (P Q : Type 0) (t : ℕ) → P ↔ Q → P ↔ (Q × ¬ Contains [] t)
none_skipped P Q t same = (λ p. (same.0 p, λ none. absurd (let less = none.1 in omega arith)), λ q. same.1 q.0)

module _ (a : Given) (plans : List TestPlan) (opened : Opened) (pass : PassView) (matrix : MatrixView) (ran : Ran) (shape : matrix.shape ≡ opened.cover.shape)
    (pairs : (b t : ℕ) → Holds matrix b t ↔ Contains pass.view.hits (b, t)) (same : ran.matrix ≡ matrix) where
  pub watched_run : (results : Vec TestResult Global) → HasItsTree a → ArePlanned a plans → IsOpened a plans opened → HasAll (does_of (tree_of a.tree) (seen_plans plans)) opened.cover pass
      → map told_of results.items ≡ map (told_by (tree_of a.tree)) (seen_plans plans) → ran.results ≡ results → ran.names.items ≡ names (seen_plans plans)
      → ran.states.items ≡ map (λ r. r.state) results.items → IsRun [] (seen_accepted a) (seen_plans plans) ran
  watched_run results is planned fresh has told same_results named state =
      let recorded = closed [] a plans opened pass matrix is planned fresh has shape (λ b t. none_skipped (Holds matrix b t) (Contains pass.view.hits (b, t)) t (pairs b t)) in
      run_gathered [] a plans matrix results (Ok ran) is planned recorded told same same_results named state

  -- the looks stay within what the matrix has
  pub looked : (k : Shape) (looks : ℕ) (counts : List ℕ) → IsWatched k pass.view looks counts → IsLooked looks ran.matrix counts
  looked k looks counts are = record {
    as_many = are.as_many;
    rising = are.rising;
    within = λ n many.
        let made : AreSoMany (Holds matrix) n = subst (λ (m : MatrixView). AreSoMany (Holds m) n) same many in
        are.within n (so_many_same (Holds matrix) (λ b t. Contains pass.view.hits (b, t)) n pairs made);
  }

-- all pairs of a bit and a test are fewer than 2^32
pub few_pairs : (k : Shape) → word_count k ≤ most_words → k.bits * k.tests < 2 ^ 32
few_pairs k small =
    let covered : k.tests ≤ 64 * rows k = omega arith in
    let all : k.bits * k.tests ≤ k.bits * (64 * rows k) = mul-le-mul_left k.bits covered in
    omega arith

-- ---- the reply

module _ (looks : ℕ) (accepted : Accepted) (plans : List Plan) where
  -- the text of what was looked at
  pub watches : (ran : Ran) (counts : List ℕ) (recorded number : ℕ) (lines : List (List ℕ)) (reply : Reply) → IsRun [] accepted plans ran → IsLooked looks ran.matrix counts
      → AreSoMany (Holds ran.matrix) recorded → number ≡ status_where ran.states.items → lines ≡ watch_lines counts recorded (accepted.map.bits * length plans)
      → reply ≡ written number lines → Watches looks accepted plans reply
  watches ran counts recorded number lines reply run are many number_is lines_are is = (
    counts,
    recorded,
    record { as_many = are.as_many; rising = are.rising; within = are.within recorded many },
    so_many_same (Holds ran.matrix) (marked [] accepted plans) recorded run.pairs many,
    is ∙ (λ i. written ((number_is ∙ ap status_where run.states) i) (lines_are i)),
  )

  pub one_watch : (r q : Reply) → Watches looks accepted plans r → Watches looks accepted plans q → AreOnLooks r q
  one_watch r q (counts, recorded, counted, are, is) (others, end, also, too, other) =
      let same : recorded ≡ end = only_one (marked [] accepted plans) recorded end are too in
      let number : ℕ = status_where (states accepted.program plans) in
      let all : ℕ = accepted.map.bits * length plans in record {
        number = number;
        counts = counts;
        others = others;
        recorded = recorded;
        all = all;
        as_many = counted.as_many ∙ sym also.as_many;
        first = is;
        second = other ∙ ap (λ n. written number (watch_lines others n all)) (sym same);
      }

  pub watch_keeps : (r : Reply) → Watches looks accepted plans r → IsLater r
  watch_keeps r (counts, recorded, counted, are, is) = subst IsLater (sym is) (written_later _ _)

-- two replies that differ in the counts of looks at most have one status
pub same_status : (W : Type 0) (r q : Reply) → AreOne r q ⊎ (W × AreOnLooks r q) → r.status ≡ q.status
same_status W r q (inl one) = phases.same_status r q one
same_status W r q (inr (is, looks)) = ap (λ (x : Reply). x.status) looks.first ∙ sym (ap (λ (x : Reply). x.status) looks.second)

-- ---- only the words `watch` lead to such replies

-- the stage is one of `watch`
abbrev pub IsAt : Stage → Type 0
IsAt (stages.source name (command.run run)) = IsToWatch run.task
IsAt (stages.tests run accepted) = IsToWatch run.task
IsAt (stages.reasons name accepted (stages.tested task plans)) = IsToWatch task
IsAt (stages.last accepted (stages.tested task plans) js) = IsToWatch task
IsAt stage = ⊥

at_source : (name : List ℕ) (action : Action) (accepted : Accepted) → IsAt (after_source action accepted) → IsAt (stages.source name action)
at_source name (command.run run) accepted at = at
at_source name (command.write text) accepted at = absurd at
at_source name (command.merge left right) accepted at = absurd at
at_source name (command.analyse kept how) accepted at = absurd at

at_tests : (name : Option (List ℕ)) (accepted : Accepted) (task : Task) (plans : List Plan) → IsAt (after_tests name accepted (stages.tested task plans)) → IsToWatch task
at_tests None accepted task plans at = at
at_tests (Some name) accepted task plans at = at

not_at_record : (name : Option (List ℕ)) (accepted : Accepted) (how : command.Judging) (found : Kept) → IsAt (after_tests name accepted (stages.recorded how found)) → ⊥
not_at_record None accepted how found at = at
not_at_record (Some name) accepted how found at = at

at_reasons : (name : List ℕ) (accepted : Accepted) (basis : Basis) (js : List Justification) → IsAt (stages.last accepted basis js) → IsAt (stages.reasons name accepted basis)
at_reasons name accepted (stages.tested task plans) js at = at
at_reasons name accepted (stages.recorded how found) js at = absurd at

-- and so is the one before
pub at_before : (s t : Stage) (bytes : List ℕ) → Judges s bytes (Ok t) → IsAt t → IsAt s
at_before stages.usage t bytes judges at = absurd judges
at_before (stages.source name action) t bytes (accepted, judges, next) at =
    let stage : t ≡ after_source action accepted = cc next in at_source name action accepted (subst IsAt stage at)
at_before (stages.writes text accepted) t bytes judges at = absurd judges
at_before (stages.tests run accepted) t bytes (plans, judges, (u, fits, next)) at =
    let name = justified_by run.task in
    let stage : t ≡ after_tests name accepted (stages.tested run.task plans) = cc next in at_tests name accepted run.task plans (subst IsAt stage at)
at_before (stages.left name other accepted) t bytes (first, judges, next) at =
    let stage : t ≡ stages.right other accepted first = cc next in absurd (subst IsAt stage at)
at_before (stages.right name accepted first) t bytes (second, judges, (both, joins, next)) at =
    let stage : t ≡ stages.merged both = cc next in absurd (subst IsAt stage at)
at_before (stages.kept name how accepted) t bytes (found, judges, next) at =
    let stage : t ≡ after_tests how.justify accepted (stages.recorded how found) = cc next in absurd (not_at_record how.justify accepted how found (subst IsAt stage at))
at_before (stages.reasons name accepted basis) t bytes (js, judges, next) at =
    let stage : t ≡ stages.last accepted basis js = cc next in at_reasons name accepted basis js (subst IsAt stage at)
at_before (stages.last accepted basis js) t bytes judges at = absurd judges
at_before (stages.merged both) t bytes judges at = absurd judges
at_before (stages.load count workers) t bytes judges at = absurd judges

pub at_first : (given : Option Command) → IsAt (first_stage given) → IsWatch given
at_first None at = absurd at
at_first (Some (command.selfload count workers)) at = absurd at
at_first (Some (command.on_source name (command.run run))) at = at
at_first (Some (command.on_source name (command.write text))) at = absurd at
at_first (Some (command.on_source name (command.merge left right))) at = absurd at
at_first (Some (command.on_source name (command.analyse kept how))) at = absurd at
