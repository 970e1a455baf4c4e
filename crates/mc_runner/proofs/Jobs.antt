-- What the workers' passes and results come to.
use Rattle.std.proofs.Common.{◌≡◌, ◌∙◌, ℕ, ◌<◌, List, [], ◌∷◌, ◌++◌, length, map, drop, option_map, get_or, set, length-set, Some, All, refl, sym, ap, subst, arith, inl, inr}
use Rattle.std.specs.Prelude.{◌↔◌, slice_get, Contains}
use Rattle.std.proofs.lemmas.List.{map_push, append_assoc, get_or_append_left, length-append, length-map, same_lists, get_or-set_same, get_or-set_other}
use Rattle.std.proofs.lemmas.List.Elements.{All-contains, All-cons, Contains-push, All-nil, Contains-append_cases}
use Rattle.std.proofs.lemmas.Option.{get_or_from_slice_get, slice_get-get_or, slice_get-map, slice_get_past, slice_get_read, slice_get_within}
use mathlib.Core.Logic.{dite}
use native.Mathlib.Decide.{ℕ_discrete, dec_lt}
use Rattle.mc_cover.specs.declared.view.View.{View}
use Rattle.mc_cover.specs.Model.{CoverView}
use Rattle.mc_cover.proofs.Counts.{contains_of_times, once_in}
use Rattle.mc_core.specs.Counts.{times, once_below}
use Rattle.cover_recorder.specs.Crew.{HasWorked, IsAtWork}
use Rattle.cover_recorder.specs.Recorder.{RecorderView, claimed, ended, pass_of, Leads}
use Rattle.cover_recorder.proofs.Crew.{claims_are_worked}
use Rattle.cover_recorder.proofs.Stamps.{only}
use Rattle.mc_meaning.specs.declared.result.TestResult.{TestResult}
use Rattle.mc_meaning.specs.Seen.{Told, told_of}
use Rattle.mc_probe.specs.Tests.{run_of}
use Rattle.mc_probe.specs.Tree.{Tree}
use Rattle.mc_probe.specs.Trees.{Instrumented, tree_of}
use Rattle.mc_typed.specs.Plans.{Plan}
use Rattle.mc_runner.specs.Jobs.{AreFilled, AreTold, does_of, numbered, told_at}
use Rattle.mc_runner.specs.Laws.{ClosedIsRecorded}
use Rattle.mc_runner.specs.Recorded.{IsHit}

-- ---- the matrix of a closer

pub closed_is_recorded : ClosedIsRecorded
closed_is_recorded tree plans skipped c p x has shape of pairs = record {
  bits = ap (λ s. s.bits) (of ∙ shape);
  tests = ap (λ s. s.tests) (of ∙ shape);
  hits = λ b t. (
    λ held. let both = (pairs b t).0 held in (((has.hits b t).0 both.0).1, both.1),
    λ h.
        let lt = slice_get_within plans t h.0.plan h.0.planned in
        let inside : t < c.shape.tests = subst (λ (n : ℕ). t < n) (sym (ap (λ s. s.tests) shape)) lt in
        (pairs b t).1 ((has.hits b t).1 (inside, h.0), h.1),
  );
}

-- ---- one more test of a worker

hit_of : (tree : Tree) (plans : List Plan) (test : ℕ) (plan : Plan) → slice_get plans test ≡ Some plan → (b : ℕ) → Contains (run_of tree plan).events b ↔ IsHit tree plans b test
hit_of tree plans test plan planned b = (
  λ h. record { plan = plan; planned = planned; hit = h },
  λ h.
      let same : h.plan ≡ plan = (let one = h.planned in let two = planned in cc) in
      subst (λ (x : Plan). Contains (run_of tree x).events b) same h.hit,
)

pub works_on : (tree : Tree) (plans : List Plan) (r later : RecorderView) (test : ℕ) (plan : Plan) → IsAtWork (does_of tree plans) r.view → slice_get plans test ≡ Some plan
    → Leads (run_of tree plan).events (claimed r test) later → IsAtWork (does_of tree plans) later.view
works_on tree plans r later test plan at planned led =
    claims_are_worked (does_of tree plans) r later test (run_of tree plan).events at (hit_of tree plans test plan planned) led

-- the plan of a test
pub planned_at : {A B : Type 0} (f : A → B) (xs : List A) (n : ℕ) (x : A) → n < length xs → x ≡ get_or xs n x → slice_get (map f xs) n ≡ Some (f x)
planned_at f xs n x lt is = slice_get-map f xs n ∙ ap (option_map f) (slice_get_read xs (length xs) n x refl lt is)

-- no test is left
pub ends : (does : ℕ → ℕ → Type 0) (c : CoverView) (r later : RecorderView) → IsAtWork does r.view → r.cover ≡ c → r.view.shape ≡ c.shape → later ≡ ended r → HasWorked does c (pass_of later)
ends does c r later at is shape e = subst (λ (q : RecorderView). HasWorked does c (pass_of q)) (sym e) (record {
  own = (ap (λ (x : CoverView). x.cover) is, shape);
  worker = at.worker;
  over = refl;
  seen = at.seen;
  hits = at.hits;
})

-- the run of a machine that has this program, by a recorder that claimed the test
pub led_by : (i own : Instrumented) (r now later : RecorderView) (test : ℕ) (plan : Plan) → i ≡ own → now ≡ claimed r test → Leads (run_of (tree_of i) plan).events now later
    → Leads (run_of (tree_of own) plan).events (claimed r test) later
led_by i own r now later test plan same claim led =
    subst (λ (q : RecorderView). Leads (run_of (tree_of own) plan).events q later) claim (subst (λ (x : Instrumented). Leads (run_of (tree_of x) plan).events now later) same led)

pub claims_after : (r later : RecorderView) (test : ℕ) (bits : List ℕ) → Leads bits (claimed r test) later → later.view.claims ≡ r.view.claims ++ test ∷ []
claims_after r later test bits led = ap (λ (v : View). v.claims) led.kept

-- one more result
pub told_one : (told : List Told) (claims after : List ℕ) (results new : List (ℕ × TestResult)) (test : ℕ) (r : TestResult) → AreTold told claims results → after ≡ claims ++ test ∷ []
    → slice_get told test ≡ Some (told_of r) → new ≡ results ++ (test, r) ∷ [] → AreTold told after new
told_one told claims after results new test r are claim is items =
    ap (map numbered) items
    ∙ map_push numbered results (test, r)
    ∙ (λ i. are i ++ (test, sym is i) ∷ [])
    ∙ sym (map_push (told_at told) claims test)
    ∙ ap (map (told_at told)) (sym claim)

-- ---- results in their places

all_first : {A : Type 0} (P : A → Type 0) (xs ys : List A) → All P (xs ++ ys) → All P xs
all_first P xs ys all k d less =
    let long = length-append xs ys in
    subst P (get_or_append_left xs ys d k less) (all k d (omega arith))

-- the result is what is to be told of its test
abbrev pub IsToldAt : List Told → ℕ × TestResult → Type 0
IsToldAt told x = slice_get told x.0 ≡ Some (told_of x.1)

first_is : {A : Type 0} (x y : A) (xs ys : List A) → x ∷ xs ≡ y ∷ ys → x ≡ y
first_is x y xs ys e = ap (λ l. get_or l 0 x) e

rest_is : {A : Type 0} (x y : A) (xs ys : List A) → x ∷ xs ≡ y ∷ ys → xs ≡ ys
rest_is x y xs ys e = ap (λ l. drop 1 l) e

-- the numbers of the results are the claims, and each result is that of its test
pub told_parts : (told : List Told) (claims : List ℕ) (part : List (ℕ × TestResult)) → AreTold told claims part → (map (λ x. x.0) part ≡ claims) × All (IsToldAt told) part
told_parts told [] [] e = (refl, All-nil (IsToldAt told))
told_parts told (c ∷ cs) [] e = absurd (let n = ap length e in omega (arith, n))
told_parts told [] (r ∷ rs) e = absurd (let n = ap length e in omega (arith, n))
told_parts told (c ∷ cs) (r ∷ rs) e =
    let head = first_is (numbered r) (told_at told c) (map numbered rs) (map (told_at told) cs) e in
    let later = told_parts told cs rs (rest_is (numbered r) (told_at told c) (map numbered rs) (map (told_at told) cs) e) in
    let number : r.0 ≡ c = ap (λ x. x.0) head in
    let is : IsToldAt told r = ap (slice_get told) number ∙ sym (ap (λ x. x.1) head) in
    (λ i. number i ∷ later.0 i, All-cons (IsToldAt told) r rs is later.1)

-- so each number is one of a test
pub told_within : (told : List Told) (n : ℕ) (part : List (ℕ × TestResult)) → length told ≡ n → All (IsToldAt told) part → All (λ x. x.0 < n) part
told_within told n part e all k d less =
    let within = slice_get_within told (get_or part k d).0 (told_of (get_or part k d).1) (all k d less) in
    subst (λ (m : ℕ). (get_or part k d).0 < m) e within

set_at : (results : List TestResult) (t u : ℕ) (r : TestResult) → t < length results → u ≡ t → slice_get (set results t r) u ≡ Some r
set_at results t u r less e =
    let long = length-set results t r in
    let inside : u < length (set results t r) = omega arith in
    slice_get-get_or (set results t r) u r inside ∙ ap Some (ap (λ (k : ℕ). get_or (set results t r) k r) e ∙ get_or-set_same results t r r less)

set_else : (results : List TestResult) (t u : ℕ) (r : TestResult) → ¬ (u ≡ t) → slice_get (set results t r) u ≡ slice_get results u
set_else results t u r other =
    let long = length-set results t r in
    dite (dec_lt u (length results))
    (λ inside.
    slice_get-get_or (set results t r) u r (omega arith) ∙ ap Some (get_or-set_other results t u r r other) ∙ sym (slice_get-get_or results u r inside))
    (λ past. slice_get_past (set results t r) u (omega arith) ∙ sym (slice_get_past results u (omega arith)))

-- one more result in its place
pub filled_more : (told : List Told) (claims : List ℕ) (results : List TestResult) (x : ℕ × TestResult) → AreFilled told claims results → x.0 < length results → IsToldAt told x
    → AreFilled told (claims ++ x.0 ∷ []) (set results x.0 x.1)
filled_more told claims results x filled less is u c =
    let new : List TestResult = set results x.0 x.1 in
    dite (ℕ_discrete u x.0)
    (λ e. slice_get-map told_of new u ∙ ap (option_map told_of) (set_at results x.0 u x.1 less e) ∙ sym (ap (slice_get told) e ∙ is))
    (λ other.
    let old : Contains claims u = elim (Contains-append_cases claims (x.0 ∷ []) u c) [ inl at ↦ at | inr at ↦ absurd (other (sym (only x.0 u at))) ] in
    slice_get-map told_of new u ∙ ap (option_map told_of) (set_else results x.0 u x.1 other) ∙ sym (slice_get-map told_of results u) ∙ filled u old)

-- one more result of a worker
pub filled_after : (told : List Told) (before : List ℕ) (part : List (ℕ × TestResult)) (results : List TestResult) (x : ℕ × TestResult)
    → (All (IsToldAt told) part → AreFilled told (before ++ map (λ x. x.0) part) results) → x.0 < length results → All (IsToldAt told) (part ++ x ∷ [])
    → AreFilled told (before ++ map (λ x. x.0) (part ++ x ∷ [])) (set results x.0 x.1)
filled_after told before part results x filled less all =
    let numbers : List ℕ = map (λ x. x.0) part in
    let is : IsToldAt told x = All-contains (IsToldAt told) (part ++ x ∷ []) x all (Contains-push part x) in
    let claims : (before ++ numbers) ++ x.0 ∷ [] ≡ before ++ map (λ x. x.0) (part ++ x ∷ []) = append_assoc before numbers (x.0 ∷ []) ∙ ap (λ ns. before ++ ns) (sym (map_push (λ x. x.0) part x)) in
    subst (λ ns. AreFilled told ns (set results x.0 x.1)) claims
    (filled_more told (before ++ numbers) results x (filled (all_first (IsToldAt told) part (x ∷ []) all)) less is)

-- nothing was claimed
pub none_filled : (told : List Told) (claims : List ℕ) (results : List TestResult) → claims ≡ [] → AreFilled told claims results
none_filled told claims results none t c = absurd (let lt = (subst (λ (l : List ℕ). Contains l t) none c).1 in omega arith)

-- each test was claimed
pub all_filled : (told : List Told) (claims : List ℕ) (results : List TestResult) (n : ℕ) → AreFilled told claims results → length results ≡ n → length told ≡ n
    → ((t : ℕ) → times t claims ≡ once_below t n) → map told_of results ≡ told
all_filled told claims results n filled long right once =
    let mapped = length-map results told_of in
    same_lists (map told_of results) told (omega arith) (λ k d less.
    let one = once_in k n (omega arith) in
    let o = once k in
    let claim : Contains claims k = contains_of_times k claims (omega arith) in
    let there : slice_get (map told_of results) k ≡ Some (get_or told k d) = filled k claim ∙ slice_get-get_or told k d (omega arith) in
    get_or_from_slice_get (map told_of results) k (get_or told k d) d there)
