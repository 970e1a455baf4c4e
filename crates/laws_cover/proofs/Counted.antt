-- What any steps count.
use Rattle.std.proofs.Common.{◌≡◌, ◌≢◌, ℕ, ◌+◌, Bool, cond, List, [], ◌∷◌, ◌++◌, get_or, set, count_by, refl, sym, ap, ◌∙◌, arith, get_or-set_same}
use Rattle.std.specs.Prelude.{sum_by}
use Rattle.std.proofs.lemmas.List.{get_or-replicate}
use Rattle.std.proofs.lemmas.List.Sums.{sum_by_push, sum_by-cons}
use mathlib.Core.Option.{some, some-injective}
use lib.ListN.{get_elem?}
use Rattle.atomic_table.proofs.Lists.{set_else}
use Rattle.mc_core.specs.declared.shape.Shape.{Shape}
use Rattle.mc_core.specs.Shape.{word_count}
use Rattle.mc_core.specs.Counts.{marks}
use Rattle.mc_cover.specs.declared.view.View.{View}
use Rattle.mc_cover.specs.declared.view.Role.TheVariants.{Opener, Worker}
use Rattle.mc_cover.specs.Views.{after_fork, after_claim, after_hit, after_join, after_look, worker, spent}
use Rattle.mc_cover.specs.Rule.{Shared, IsKept, draws, coverage}
use Rattle.mc_cover.specs.Steps.{opened}
use Rattle.mc_cover.proofs.Opened.{kept_opened}
use Rattle.mc_cover.proofs.Sums.{total_set, total_kept}
use Rattle.mc_cover.proofs.Counts.{marks_append}
use Rattle.laws_cover.specs.Runs.{Step, Fork, Claim, Hit, Join, Look, IsStep, AreSteps, is_claim, is_hit}
use Rattle.laws_cover.specs.Laws.{StepsAreCounted}
use Rattle.laws_cover.proofs.Runs.{one_kept, all_kept}

abbrev one : Bool → ℕ
one b = cond b 1 0

count_more : (p : Step → Bool) (step : Step) (steps : List Step) → count_by p (step ∷ steps) ≡ one (p step) + count_by p steps
count_more p step steps = sum_by-cons (λ x. cond (p x) 1 0) step steps

-- ---- hits

-- how often the passes hit the bit under the test
abbrev total : ℕ → ℕ → List View → ℕ
total b u views = sum_by (λ (v : View). marks b u v.hits) views

total_fork : (b u id : ℕ) (v : View) (views : List View) → get_elem? views id ≡ some v → total b u (set views id (after_fork v) ++ worker v ∷ []) ≡ total b u views
total_fork b u id v views at =
    let f : View → ℕ = λ w. marks b u w.hits in
    let pushed : sum_by f (set views id (after_fork v) ++ worker v ∷ []) ≡ sum_by f (set views id (after_fork v)) + f (worker v) = sum_by_push f (set views id (after_fork v)) (worker v) in
    let kept : sum_by f (set views id (after_fork v)) ≡ sum_by f views = total_kept f views id v (after_fork v) at refl in
    let none : f (worker v) ≡ 0 = refl in
    omega (arith, pushed, kept, none)

total_hit : (b u id bit test : ℕ) (v : View) (views : List View) → get_elem? views id ≡ some v → total b u (set views id (after_hit v bit test)) ≡ total b u views + one (is_hit b u (Hit id bit test))
total_hit b u id bit test v views at =
    let f : View → ℕ = λ w. marks b u w.hits in
    let changed : sum_by f (set views id (after_hit v bit test)) + f v ≡ sum_by f views + f (after_hit v bit test) = total_set f views id v (after_hit v bit test) at in
    let more : f (after_hit v bit test) ≡ f v + one (is_hit b u (Hit id bit test)) = sum_by_push (λ (h : ℕ × ℕ). one (is_hit b u (Hit id h.0 h.1))) v.hits (bit, test) in
    omega (arith, changed, more)

total_join : (b u id other : ℕ) (v w : View) (views : List View) → get_elem? views id ≡ some v → get_elem? views other ≡ some w → v.role ≡ Opener → w.role ≡ Worker
    → total b u (set (set views id (after_join v w)) other spent) ≡ total b u views
total_join b u id other v w views at was is_opener is_worker =
    let f : View → ℕ = λ x. marks b u x.hits in
    let both : View = after_join v w in
    let mid : List View = set views id both in
    let apart : other ≢ id = λ e. let same : v ≡ w = some-injective v w (sym at ∙ (ap (λ (i : ℕ). get_elem? views i) (sym e) ∙ was)) in let x = sym is_opener ∙ (ap (λ (y : View). y.role) same ∙ is_worker) in cc in
    let there : get_elem? mid other ≡ some w = set_else views id other both apart ∙ was in
    let first : sum_by f mid + f v ≡ sum_by f views + f both = total_set f views id v both at in
    let second : sum_by f (set mid other spent) + f w ≡ sum_by f mid + f spent = total_set f mid other w spent there in
    let whole : f both ≡ f v + f w = marks_append b u v.hits w.hits in
    let none : f spent ≡ 0 = refl in
    omega (arith, first, second, whole, none)

module _ (k : Shape) where
  step_total : (b u : ℕ) (s t : Shared) (step : Step) → IsStep k s step t → total b u t.views ≡ total b u s.views + one (is_hit b u step)
  step_total b u s t (Fork id) is = ap (λ (x : Shared). total b u x.views) is.4 ∙ (total_fork b u id is.0 s.views is.1 ∙ omega arith)
  step_total b u s t (Claim id) is = ap (λ (x : Shared). total b u x.views) is.4 ∙ (total_kept (λ w. marks b u w.hits) s.views id is.0 (after_claim is.0 (draws s.words)) is.1 refl ∙ omega arith)
  step_total b u s t (Hit id bit test) is = ap (λ (x : Shared). total b u x.views) is.5 ∙ total_hit b u id bit test is.0 s.views is.1
  step_total b u s t (Join id other) is = ap (λ (x : Shared). total b u x.views) is.6 ∙ (total_join b u id other is.0 is.1 s.views is.2 is.3 is.4 is.5 ∙ omega arith)
  step_total b u s t (Look id index) is = ap (λ (x : Shared). total b u x.views) is.3 ∙ (total_kept (λ w. marks b u w.hits) s.views id is.0 (after_look is.0 index (get_or (coverage s.words) index 0)) is.1 refl ∙ omega arith)

  all_total : (b u : ℕ) (s t : Shared) (steps : List Step) → AreSteps k s steps t → total b u t.views ≡ total b u s.views + count_by (is_hit b u) steps
  all_total b u s t [] are = ap (λ (x : Shared). total b u x.views) are ∙ omega arith
  all_total b u s t (step ∷ steps) are =
      omega (arith, step_total b u s are.0 step are.1, all_total b u are.0 t steps are.2, count_more (is_hit b u) step steps)

  -- ---- claims

  step_draws : (s t : Shared) (step : Step) → IsKept k s → IsStep k s step t → draws t.words ≡ draws s.words + one (is_claim step)
  step_draws s t (Fork id) kept is = ap (λ (x : Shared). draws x.words) is.4 ∙ omega arith
  step_draws s t (Claim id) kept is = ap (λ (x : Shared). draws x.words) is.4 ∙ get_or-set_same s.words 0 (draws s.words + 1) 0 (omega (arith, kept.whole))
  step_draws s t (Hit id bit test) kept is = ap (λ (x : Shared). draws x.words) is.5 ∙ omega arith
  step_draws s t (Join id other) kept is = ap (λ (x : Shared). draws x.words) is.6 ∙ omega arith
  step_draws s t (Look id index) kept is = ap (λ (x : Shared). draws x.words) is.3 ∙ omega arith

  all_draws : (s t : Shared) (steps : List Step) → IsKept k s → AreSteps k s steps t → draws t.words ≡ draws s.words + count_by is_claim steps
  all_draws s t [] kept are = ap (λ (x : Shared). draws x.words) are ∙ omega arith
  all_draws s t (step ∷ steps) kept are =
      omega (arith, step_draws s are.0 step kept are.1, all_draws are.0 t steps (one_kept k s are.0 step kept are.1) are.2, count_more is_claim step steps)

pub steps_are_counted : StepsAreCounted
steps_are_counted k steps t are =
    let kept = all_kept k (opened k) t steps (kept_opened k) are in
    let none : draws (opened k).words ≡ 0 = get_or-replicate (word_count k + 1) 0 0 0 (omega arith) in
    record {
      claims = omega (arith, none, all_draws k (opened k) t steps (kept_opened k) are);
      hits = λ b u hb hu. omega (arith, kept.bits b u hb hu, all_total k b u (opened k) t steps are);
    }
