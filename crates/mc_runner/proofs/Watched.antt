-- What the opener's pass knows once the workers and then the watcher are joined.
use Rattle.std.proofs.Common.{◌≡◌, ◌∙◌, ℕ, ◌+◌, ◌≤◌, List, [], ◌++◌, sym, ap, subst, arith}
use Rattle.std.specs.Prelude.{◌↔◌, Contains}
use Rattle.std.proofs.lemmas.List.{append-nil}
use Rattle.mc_core.specs.declared.shape.Shape.{Shape}
use Rattle.mc_core.specs.Shape.{word_count}
use Rattle.mc_cover.specs.declared.view.View.{View}
use Rattle.mc_cover.specs.declared.view.Role.TheVariants.{Worker}
use Rattle.mc_cover.specs.Model.{CoverView, PassView}
use Rattle.mc_cover.specs.Tells.{IsSettled}
use Rattle.mc_cover.specs.Views.{opener, worker, after_join}
use Rattle.cover_recorder.specs.Crew.{AreHits, IsGathered, HasAll}
use Rattle.cover_recorder.proofs.Crew.{all_settled}
use Rattle.mc_meaning.specs.Seen.{Told}
use Rattle.mc_meaning.specs.declared.result.TestResult.{TestResult}
use Rattle.mc_limits.specs.Limits.{most_looks}
use Rattle.mc_watch.specs.Looks.{AreLooks}
use Rattle.mc_watch.specs.Watched.{CanWatch, HasLooked, IsWatched}
use Rattle.mc_watch.proofs.Looks.{within}
use Rattle.mc_runner.specs.Jobs.{AreFilled}
use Rattle.mc_runner.proofs.Gathered.{filled_also}

-- the watcher that is forked after the workers can watch
pub can_watch : (c : CoverView) (p w : PassView) (forks looks counts room : ℕ) → p.view ≡ record (opener c.shape) { forks = forks } → w.cover ≡ c.cover → w.view ≡ worker p.view → looks ≤ most_looks
    → counts ≡ 0 → looks ≤ room → CanWatch c w looks counts room
can_watch c p w forks looks counts room view own e few empty fits = record {
  own = (own, ap (λ (v : View). v.shape) e ∙ ap (λ (v : View). v.shape) view);
  unseen = ap (λ (v : View). v.seen) e ∙ ap (λ (v : View). v.seen) view;
  few = few;
  empty = empty;
  fits = fits;
}

-- a watcher that has watched has claimed and hit nothing
pub record IsIdle (v : View) : Type 0 where
  pub worker : v.role ≡ Worker
  pub claims : v.claims ≡ []
  pub over : v.over ≡ 0
  pub hits : v.hits ≡ []

pub idle : (words looks : ℕ) (v old new : View) (counts : List ℕ) → old ≡ worker v → HasLooked words looks old new counts → IsIdle new
idle words looks v old new counts e has = record {
  worker = ap (λ (x : View). x.role) has.kept ∙ ap (λ (x : View). x.role) e;
  claims = ap (λ (x : View). x.claims) has.kept ∙ ap (λ (x : View). x.claims) e;
  over = ap (λ (x : View). x.over) has.kept ∙ ap (λ (x : View). x.over) e;
  hits = ap (λ (x : View). x.hits) has.kept ∙ ap (λ (x : View). x.hits) e;
}

-- all are joined once the watcher is, who is joined last
pub are_joined : (does : ℕ → ℕ → Type 0) (c : CoverView) (n : ℕ) (p : PassView) (w new : View) → IsGathered does c [] (n + 1) p.view.joined p → p.view.joined ≡ n → new ≡ after_join p.view w → new.forks ≡ new.joined
are_joined does c n p w new is all e =
    let joined : new.joined ≡ p.view.joined + 1 = ap (λ (v : View). v.joined) e in
    let forks : new.forks ≡ p.view.forks = ap (λ (v : View). v.forks) e in
    let a = is.forks in omega arith

-- the results stay as they are
pub filled_still : (told : List Told) (v w new : View) (results : List TestResult) → IsIdle w → new ≡ after_join v w → AreFilled told v.claims results → AreFilled told new.claims results
filled_still told v w new results none e filled =
    let claims : v.claims ++ w.claims ≡ v.claims = ap (λ (l : List ℕ). v.claims ++ l) none.claims ∙ append-nil v.claims in
    filled_also told v w new results e (subst (λ (l : List ℕ). AreFilled told l results) (sym claims) filled)

-- and what the opener's pass has then
pub watched_all : (does : ℕ → ℕ → Type 0) (c : CoverView) (n : ℕ) (p w new : PassView) → IsGathered does c [] (n + 1) p.view.joined p → 1 ≤ n → p.view.joined ≡ n → IsIdle w.view
    → new.cover ≡ p.cover → new.view ≡ after_join p.view w.view → (new.view.forks ≡ new.view.joined → IsSettled new.view) → HasAll does c new
watched_all does c n p w new is some all none own e settled =
    let claims : new.view.claims ≡ p.view.claims = ap (λ (v : View). v.claims) e ∙ ap (λ (l : List ℕ). p.view.claims ++ l) none.claims ∙ append-nil p.view.claims in
    let hits : new.view.hits ≡ p.view.hits = ap (λ (v : View). v.hits) e ∙ ap (λ (l : List (ℕ × ℕ)). p.view.hits ++ l) none.hits ∙ append-nil p.view.hits in
    let over : new.view.over ≡ p.view.over + w.view.over = ap (λ (v : View). v.over) e in
    let a = is.over in let b = none.over in
    let last : new.view.forks ≡ new.view.joined = are_joined does c n p w.view new.view is all e in
    let are : AreHits does new.view = subst (λ (x : List (ℕ × ℕ) × List ℕ). (b t : ℕ) → Contains x.0 (b, t) ↔ (Contains x.1 t × does t b)) (λ i. (sym hits i, sym claims i)) is.hits in
    all_settled does c new (own ∙ is.own.0, ap (λ (v : View). v.shape) e ∙ is.own.1) (ap (λ (v : View). v.role) e ∙ is.opener) last (omega arith) are (settled last)

-- and its counts are those of the looks at what comes back
pub watched : (k : Shape) (looks : ℕ) (v w old new : View) (counts : List ℕ) → v.shape ≡ k → v.seen ≡ [] → HasLooked (word_count k) looks old w counts → new ≡ after_join v w → IsSettled new → IsWatched k new looks counts
watched k looks v w old new counts shape unseen has e settled =
    let seen : new.seen ≡ w.seen = ap (λ (x : View). x.seen) e ∙ ap (λ (l : List (ℕ × ℕ)). l ++ w.seen) unseen in
    let looked : AreLooks (word_count k) new.seen counts = subst (λ (l : List (ℕ × ℕ)). AreLooks (word_count k) l counts) (sym seen) has.looked in
    let shape' : new.shape ≡ k = ap (λ (x : View). x.shape) e ∙ shape in
    record {
      looked = looked;
      as_many = has.as_many;
      rising = has.rising;
      within = within k new counts looked shape' settled.seen;
    }
