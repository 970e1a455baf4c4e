-- What is told of each test, by its number.
use Rattle.std.proofs.Common.{◌≡◌, ◌∙◌, ℕ, zero, suc, ◌+◌, ◌<◌, List, [], ◌∷◌, ◌++◌, length, map, take, get_or, replicate, All, Some, refl, sym, ap, subst, arith}
use Rattle.std.proofs.lemmas.List.{length-map, length-replicate, map_push, take_more}
use Rattle.std.proofs.lemmas.List.Elements.{All-push}
use Rattle.std.proofs.lemmas.Option.{slice_get-get_or}
use Rattle.interp_trail.specs.declared.layout.Layout.{Layout}
use Rattle.mc_probe.specs.Trees.{Instrumented, tree_of}
use Rattle.mc_typed.specs.declared.plans.TestPlan.{TestPlan}
use Rattle.mc_typed.specs.Plans.{plan_of}
use Rattle.mc_results.specs.declared.task.Task.{Task}
use Rattle.interp_trail.specs.declared.test_trace.TestTrace.{TestTrace}
use Rattle.interp_trail.specs.Seen.{trace_of}
use Rattle.mc_results.specs.Traced.{traced_by}
use Rattle.mc_results.specs.Seen.{ArePart, CanWork, IsAt, Part, traced_in}
use Rattle.interp_trail.specs.Traced.{Traced}

mapped_at : {A B : Type 0} (f : A → B) (xs : List A) (n : ℕ) (x : A) (d : B) → n < length xs → x ≡ get_or xs n x → f x ≡ get_or (map f xs) n d
mapped_at f [] n x d less is = absurd (omega (arith, less))
mapped_at f (y ∷ xs) zero x d less is = ap f is
mapped_at f (y ∷ xs) (suc n) x d less is = mapped_at f xs n x d (omega (arith, less)) is

same_plan : (plans : List TestPlan) (n : ℕ) (plan : TestPlan) → n < length plans → plan ≡ get_or plans n plan → plan_of plan ≡ get_or (map plan_of plans) n (plan_of plan)
same_plan plans n plan less is = mapped_at plan_of plans n plan (plan_of plan) less is

pub length_in : (t : Task) → length (traced_in t) ≡ length t.plans.now
unfolding traced_in
length_in t = length-map (map plan_of t.plans.now) (traced_by t.layout (tree_of t.program.now)) ∙ length-map t.plans.now plan_of

-- the trace of the run of a test is what is told of it
pub told_at : (t : Task) (n : ℕ) (plan : TestPlan) (x : Traced) (u : Traced) → n < length t.plans.now → plan ≡ get_or t.plans.now n plan
    → x ≡ traced_by t.layout (tree_of t.program.now) (plan_of plan) → x ≡ get_or (traced_in t) n u
unfolding traced_in
told_at t n plan x u less is e =
    let long : length (map plan_of t.plans.now) ≡ length t.plans.now = length-map t.plans.now plan_of in
    e ∙ mapped_at (traced_by t.layout (tree_of t.program.now)) (map plan_of t.plans.now) n (plan_of plan) u (omega (arith, less, long)) (same_plan t.plans.now n plan less is)

pub is_at : (t : Task) (n : ℕ) (plan : TestPlan) (trace : TestTrace) → n < length t.plans.now → plan ≡ get_or t.plans.now n plan
    → trace_of trace ≡ traced_by t.layout (tree_of t.program.now) (plan_of plan) → IsAt (traced_in t) (n, trace)
is_at t n plan trace less is e =
    slice_get-get_or (traced_in t) n (trace_of trace) (let long = length_in t in omega (arith, less, long))
    ∙ ap Some (sym (told_at t n plan (trace_of trace) (trace_of trace) less is e))

-- one more trace, in order
pub one_more : (all : List Traced) (traces : List TestTrace) (n : ℕ) (t : TestTrace) → n < length all → map trace_of traces ≡ take n all → ((u : Traced) → trace_of t ≡ get_or all n u)
    → map trace_of (traces ++ t ∷ []) ≡ take (n + 1) all
one_more all traces n t less e is = map_push trace_of traces t ∙ (λ i. e i ++ is (trace_of t) i ∷ []) ∙ sym (take_more all n (trace_of t) less)

same_told : (t : Task) (layout : Layout) (i : Instrumented) (plan : TestPlan) → layout ≡ t.layout → i ≡ t.program.now
    → traced_by layout (tree_of i) (plan_of plan) ≡ traced_by t.layout (tree_of t.program.now) (plan_of plan)
same_told t layout i plan a b = λ k. traced_by (a k) (tree_of (b k)) (plan_of plan)

pub claimed_at : (t : Task) (n : ℕ) (plan : TestPlan) (trace : TestTrace) (layout : Layout) (i : Instrumented) → n < length t.plans.now → plan ≡ get_or t.plans.now n plan → layout ≡ t.layout
    → i ≡ t.program.now → trace_of trace ≡ traced_by layout (tree_of i) (plan_of plan) → IsAt (traced_in t) (n, trace)
claimed_at t n plan trace layout i less is a b e = is_at t n plan trace less is (e ∙ same_told t layout i plan a b)

pub alone : (t : Task) (n : ℕ) (plan : TestPlan) (trace : TestTrace) (layout : Layout) (i : Instrumented) (u : Traced) → n < length t.plans.now → plan ≡ get_or t.plans.now n plan → layout ≡ t.layout
    → i ≡ t.program.now → trace_of trace ≡ traced_by layout (tree_of i) (plan_of plan) → trace_of trace ≡ get_or (traced_in t) n u
alone t n plan trace layout i u less is a b e = told_at t n plan (trace_of trace) u less is (e ∙ same_told t layout i plan a b)

pub one_more_at : (all : List Traced) (traces new : List (ℕ × TestTrace)) (x : ℕ × TestTrace) → new ≡ traces ++ x ∷ [] → All (IsAt all) traces → IsAt all x → All (IsAt all) new
one_more_at all traces new x e are is = subst (λ (l : List (ℕ × TestTrace)). All (IsAt all) l) (sym e) (All-push (IsAt all) traces x are is)

-- ---- what the workers share, once for each of them

shared_at : (t d : Task) (n k : ℕ) → k < n → get_or (replicate n t) k d ≡ t
shared_at t d zero k less = absurd (omega (arith, less))
shared_at t d (suc n) zero less = refl
shared_at t d (suc n) (suc k) less = shared_at t d n k (omega (arith, less))

pub all_ready : (t : Task) (n : ℕ) (jobs : List Task) → jobs ≡ replicate n t → CanWork t → All CanWork jobs
all_ready t n jobs e can = subst (All CanWork) (sym e) (λ k d less. subst CanWork (sym (shared_at t d n k (let long = length-replicate n t in omega (arith, less, long)))) can)

pub all_parts : (t : Task) (n : ℕ) (jobs : List Task) (parts : List Part) → jobs ≡ replicate n t → length parts ≡ length jobs
    → ((k : ℕ) (j : Task) (p : Part) → k < length jobs → ArePart (traced_in (get_or jobs k j)) (get_or parts k p)) → All (ArePart (traced_in t)) parts
all_parts t n jobs parts e long each k p less =
    let n_long : length jobs ≡ n = ap length e ∙ length-replicate n t in
    let is : get_or jobs k t ≡ t = ap (λ (l : List Task). get_or l k t) e ∙ shared_at t t n k (omega (arith, less, long, n_long)) in
    subst (λ (x : Task). ArePart (traced_in x) (get_or parts k p)) is (each k t p (omega (arith, less, long)))
