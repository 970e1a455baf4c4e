-- What the opener's pass comes to as the workers are joined.
use Rattle.std.proofs.Common.{◌≡◌, ◌∙◌, ℕ, ◌<◌, ◌≤◌, List, [], ◌∷◌, ◌++◌, length, get_or, Option, Some, Ok, Result, All, refl, sym, ap, subst, arith}
use Rattle.std.specs.Prelude.{IfOk, IfSome, option_to_list}
use Rattle.std.specs.declared.alloc.AllocError.{AllocError}
use Rattle.std.proofs.lemmas.List.Elements.{All-pop}
use Rattle.mc_cover.specs.declared.view.View.{View}
use Rattle.mc_cover.specs.Model.{CoverView, PassView}
use Rattle.mc_cover.specs.Tells.{IsSettled}
use Rattle.mc_cover.specs.Views.{opener, after_join}
use Rattle.cover_recorder.specs.Crew.{IsGathered, HasWorked, HasAll}
use Rattle.cover_recorder.specs.Recorder.{RecorderView, fresh}
use Rattle.cover_recorder.proofs.Crew.{none_hit, gathered_more, all_claimed}
use Rattle.mc_mutate.specs.declared.kills.runs.Job.{Job}
use Rattle.mc_mutate.specs.declared.kills.runs.Task.{Task}
use Rattle.mc_mutate.specs.Runs.{CanWork, IsDone, IsFresh, IsHired, IsReady, worker_does}

-- ---- what the workers hand back

-- some job, of which there are more than n
job_of : (js : List Job) (n : ℕ) → n < length js → Job
job_of [] n less = absurd (omega arith)
job_of (j ∷ js) n less = j

-- one that is hired may work
ready : (c : CoverView) (t : Task) (j : Job) → CanWork t c → IsHired c t j → IsReady j
ready c t j can hired = record {
  can = subst (λ (x : Task). CanWork x j.recorder.cover) (sym hired.task) (subst (λ (x : CoverView). CanWork t x) (sym (ap (λ (x : RecorderView). x.cover) hired.recorder)) can);
  fresh = subst (λ (x : RecorderView). IsFresh x) (sym hired.recorder) refl;
}

pub all_ready : (c : CoverView) (t : Task) (js : List Job) → CanWork t c → All (IsHired c t) js → All IsReady js
all_ready c t js can hired k d less = ready c t (get_or js k d) can (hired k d less)

pub all_done : (c : CoverView) (t : Task) (js : List Job) (done : List (Result PassView AllocError)) → All (IsHired c t) js → length done ≡ length js
    → ((k : ℕ) (j : Job) (p : Result PassView AllocError) → k < length js → IfOk (get_or done k p) (IsDone (get_or js k j)))
    → All (λ r. IfOk r (HasWorked (worker_does t) c)) done
all_done c t js done hired same each k d less =
    let within : k < length js = omega arith in
    let j = job_of js k within in
    let is = hired k j within in
    let p : Result PassView AllocError = get_or done k d in
    subst (λ (x : CoverView). IfOk p (HasWorked (worker_does t) x)) (ap (λ (x : RecorderView). x.cover) is.recorder)
    (subst (λ (x : Task). IfOk p (HasWorked (worker_does x) (get_or js k j).recorder.cover)) is.task (each k j d within))

-- the one that is taken from the end
pub popped : (does : ℕ → ℕ → Type 0) (c : CoverView) (rs later : List (Result PassView AllocError)) (o : Option (Result PassView AllocError)) (r : Result PassView AllocError) (p : PassView)
    → All (λ y. IfOk y (HasWorked does c)) rs → rs ≡ later ++ option_to_list o → o ≡ Some r → r ≡ Ok p → HasWorked does c p
popped does c rs later o r p all e some ok =
    let Q : Result PassView AllocError → Type 0 = λ y. IfOk y (HasWorked does c) in
    let one = (All-pop Q rs later o e all).1 in
    subst Q ok (subst (λ (x : Option (Result PassView AllocError)). IfSome x Q) some one)

-- the others
pub left_over : (does : ℕ → ℕ → Type 0) (c : CoverView) (rs later : List (Result PassView AllocError)) (o : Option (Result PassView AllocError))
    → All (λ y. IfOk y (HasWorked does c)) rs → rs ≡ later ++ option_to_list o → All (λ y. IfOk y (HasWorked does c)) later
left_over does c rs later o all e = (All-pop (λ (y : Result PassView AllocError). IfOk y (HasWorked does c)) rs later o e all).0

-- ---- the opener's pass

pub none_gathered : (does : ℕ → ℕ → Type 0) (c : CoverView) (p : PassView) (n : ℕ) → p.cover ≡ c.cover → p.view ≡ record (opener c.shape) { forks = n } → IsGathered does c [] n p.view.joined p
none_gathered does c p n own e = record {
  own = (own, ap (λ (v : View). v.shape) e);
  opener = ap (λ (v : View). v.role) e;
  forks = ap (λ (v : View). v.forks) e;
  joined = refl;
  over = ap (λ (v : View). v.over) e ∙ sym (ap (λ (v : View). v.joined) e);
  loads = ap (λ (v : View). v.seen) e;
  hits = none_hit does p.view (ap (λ (v : View). v.claims) e) (ap (λ (v : View). v.hits) e);
}

pub one_gathered : (does : ℕ → ℕ → Type 0) (c : CoverView) (n : ℕ) (p worker new : PassView) → IsGathered does c [] n p.view.joined p → HasWorked does c worker
    → new.cover ≡ p.cover → new.view ≡ after_join p.view worker.view → IsGathered does c [] n new.view.joined new
one_gathered does c n p worker new is worked own e =
    subst (λ (k : ℕ). IsGathered does c [] n k new) (sym (ap (λ (v : View). v.joined) e)) (gathered_more does c [] n p.view.joined p worker new is worked own e)

pub has_all : (does : ℕ → ℕ → Type 0) (c : CoverView) (n : ℕ) (p : PassView) → IsGathered does c [] n p.view.joined p → 1 ≤ n → p.view.joined ≡ n
    → (p.view.forks ≡ p.view.joined → IsSettled p.view) → HasAll does c p
has_all does c n p is some all settled =
    all_claimed does c [] n p (subst (λ (k : ℕ). IsGathered does c [] n k p) all is) some (settled (is.forks ∙ sym all))
