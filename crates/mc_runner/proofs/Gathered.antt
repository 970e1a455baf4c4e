-- What the opener's pass and the results come to as the workers are joined.
use Rattle.std.proofs.Common.{◌≡◌, ◌∙◌, ℕ, ◌<◌, ◌≤◌, List, [], ◌∷◌, ◌++◌, length, map, get_or, Option, Some, Ok, Result, All, refl, sym, ap, subst, arith}
use Rattle.std.specs.Prelude.{IfOk, IfSome, option_to_list}
use Rattle.std.specs.declared.alloc.AllocError.{AllocError}
use Rattle.std.proofs.lemmas.List.{length-map}
use Rattle.std.proofs.lemmas.List.Elements.{All-pop}
use Rattle.mc_core.specs.Counts.{once_below}
use Rattle.mc_cover.specs.declared.view.View.{View}
use Rattle.mc_cover.specs.Model.{CoverView, PassView}
use Rattle.mc_cover.specs.Tells.{IsSettled}
use Rattle.mc_cover.specs.Views.{opener, after_join}
use Rattle.cover_recorder.specs.Crew.{IsGathered, HasWorked, HasAll}
use Rattle.cover_recorder.specs.Recorder.{RecorderView}
use Rattle.cover_recorder.proofs.Crew.{none_hit, gathered_more, all_claimed}
use Rattle.mc_meaning.specs.declared.result.TestResult.{TestResult}
use Rattle.mc_meaning.specs.Seen.{Told, told_of}
use Rattle.mc_probe.specs.Tree.{Tree}
use Rattle.mc_probe.specs.Trees.{Instrumented, tree_of}
use Rattle.mc_typed.specs.declared.plans.TestPlan.{TestPlan}
use Rattle.mc_typed.specs.Plans.{Plan, plan_of}
use Rattle.mc_runner.specs.declared.done.Done.{Done}
use Rattle.mc_runner.specs.declared.job.Job.{Job}
use Rattle.mc_runner.specs.Jobs.{AreFilled, HasDone, IsDone, IsHired, does_of, told_all}
use Rattle.mc_runner.specs.Recorded.{told_by}
use Rattle.mc_runner.proofs.Jobs.{all_filled}

-- ---- what the workers hand back

-- some job, of which there are more than n
job_of : (jobs : List Job) (n : ℕ) → n < length jobs → Job
job_of [] n less = absurd (omega arith)
job_of (j ∷ jobs) n less = j

pub all_done : (plans : List TestPlan) (c : CoverView) (i : Instrumented) (v : View) (jobs : List Job) (done : List (Result Done AllocError)) → All (IsHired c i v) jobs → length done ≡ length jobs
    → ((k : ℕ) (j : Job) (d : Result Done AllocError) → k < length jobs → IfOk (get_or done k d) (IsDone plans (get_or jobs k j)))
    → All (λ r. IfOk r (HasDone (tree_of i) (map plan_of plans) c)) done
all_done plans c i v jobs done hired same each k d less =
    let within : k < length jobs = omega arith in
    let j = job_of jobs k within in
    let is = hired k j within in
    let r : Result Done AllocError = get_or done k d in
    let P : Instrumented → Type 0 = λ x. IfOk r (HasDone (tree_of x) (map plan_of plans) (get_or jobs k j).recorder.cover) in
    let Q : CoverView → Type 0 = λ x. IfOk r (HasDone (tree_of i) (map plan_of plans) x) in
    subst Q (ap (λ (x : RecorderView). x.cover) is.recorder) (subst P is.program (each k j d within))

-- the one that is taken from the end
pub popped : (tree : Tree) (plans : List Plan) (c : CoverView) (rs later : List (Result Done AllocError)) (o : Option (Result Done AllocError)) (r : Result Done AllocError) (d : Done)
    → All (λ y. IfOk y (HasDone tree plans c)) rs → rs ≡ later ++ option_to_list o → o ≡ Some r → r ≡ Ok d → HasDone tree plans c d
popped tree plans c rs later o r d all e some ok =
    let Q : Result Done AllocError → Type 0 = λ y. IfOk y (HasDone tree plans c) in
    let one = (All-pop Q rs later o e all).1 in
    subst Q ok (subst (λ (p : Option (Result Done AllocError)). IfSome p Q) some one)

-- the others
pub left_over : (tree : Tree) (plans : List Plan) (c : CoverView) (rs later : List (Result Done AllocError)) (o : Option (Result Done AllocError))
    → All (λ y. IfOk y (HasDone tree plans c)) rs → rs ≡ later ++ option_to_list o → All (λ y. IfOk y (HasDone tree plans c)) later
left_over tree plans c rs later o all e = (All-pop (λ (y : Result Done AllocError). IfOk y (HasDone tree plans c)) rs later o e all).0

-- ---- the opener's pass

pub none_gathered : (does : ℕ → ℕ → Type 0) (c : CoverView) (p : PassView) (n : ℕ) → p.cover ≡ c.cover → p.view ≡ record (opener c.shape) { forks = n } → IsGathered does c [] n p.view.joined p
none_gathered does c p n own e = record {
  own = (own, ap (λ (v : View). v.shape) e);
  opener = ap (λ (v : View). v.role) e;
  forks = ap (λ (v : View). v.forks) e;
  joined = refl;
  over = ap (λ (v : View). v.over) e ∙ sym (ap (λ (v : View). v.joined) e);
  loads = ap (λ (v : View). v.seen) e;
  hits = none_hit does p.view (ap (λ (v : View). v.claims) e) (ap (λ (v : View). v.hits) e);
}

-- the results of one more worker
pub filled_also : (told : List Told) (v w new : View) (results : List TestResult) → new ≡ after_join v w → AreFilled told (v.claims ++ w.claims) results → AreFilled told new.claims results
filled_also told v w new results e filled = subst (λ (ns : List ℕ). AreFilled told ns results) (sym (ap (λ (x : View). x.claims) e)) filled

pub one_gathered : (does : ℕ → ℕ → Type 0) (c : CoverView) (n : ℕ) (p worker new : PassView) → IsGathered does c [] n p.view.joined p → HasWorked does c worker
    → new.cover ≡ p.cover → new.view ≡ after_join p.view worker.view → IsGathered does c [] n new.view.joined new
one_gathered does c n p worker new is worked own e =
    subst (λ (k : ℕ). IsGathered does c [] n k new) (sym (ap (λ (v : View). v.joined) e)) (gathered_more does c [] n p.view.joined p worker new is worked own e)

pub has_all : (does : ℕ → ℕ → Type 0) (c : CoverView) (n : ℕ) (p : PassView) → IsGathered does c [] n p.view.joined p → 1 ≤ n → p.view.joined ≡ n
    → (p.view.forks ≡ p.view.joined → IsSettled p.view) → HasAll does c p
has_all does c n p is some all settled =
    all_claimed does c [] n p (subst (λ (k : ℕ). IsGathered does c [] n k p) all is) some (settled (is.forks ∙ sym all))

-- ---- the results

pub all_told : (tree : Tree) (plans : List Plan) (c : CoverView) (p : PassView) (results : List TestResult) → HasAll (does_of tree plans) c p → c.shape.tests ≡ length plans
    → length results ≡ length plans → AreFilled (told_all tree plans) p.view.claims results → map told_of results ≡ told_all tree plans
all_told tree plans c p results has tests long filled =
    all_filled (told_all tree plans) p.view.claims results (length plans) filled long (length-map plans (told_by tree))
    (λ t. has.claims t ∙ ap (once_below t) tests)
