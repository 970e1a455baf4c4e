-- What the run of a test on a program without probes shows, and whether it kills.
use Rattle.std.proofs.Common.{◌≡◌, ◌∙◌, refl, sym, ap, subst, ℕ, zero, suc, ◌+◌, ◌*◌, ◌/◌, ◌%◌, ◌-◌, ◌<◌, ◌≤◌, ℤ, List, [], ◌∷◌, ◌++◌, length, map, get_or, Option, Some, Bool, true, false, All, arith}
use Rattle.std.specs.Prelude.{◌↔◌, ◌≢◌, slice_get, option_map, Contains, IsTrue}
use Rattle.std.proofs.lemmas.List.{get_or-map, length-map, length-append}
use Rattle.std.proofs.lemmas.Option.{slice_get-map, slice_get_read}
use Rattle.std.proofs.Math.Nat.{div-lt_iff_lt-mul, mod-lt, mul-zero, mul-le-mul_left, mul-le-mul_right}
use Rattle.mc_typed.specs.declared.plans.Ending.{Ending}
use Rattle.mc_typed.specs.Tree.{Program}
use Rattle.mc_typed.specs.Levels.{limited}
use Rattle.mc_typed.specs.Sound.{IsSound}
use Rattle.mc_typed.specs.Plans.{Plan, Fits, plan_of}
use Rattle.mc_typed.specs.declared.plans.TestPlan.{TestPlan}
use Rattle.mc_meaning.specs.Tests.{plain_run}
use Rattle.mc_probe.specs.Bare.{bare_tree}
use Rattle.mc_probe.specs.Erase.{erase}
use Rattle.mc_probe.specs.Tests.{run_of}
use Rattle.mc_probe.specs.Tree.{Tree}
use Rattle.mc_probe.specs.Trees.{Instrumented, tree_of}
use Rattle.mc_probe.proofs.Backs.{program_back}
use Rattle.laws_simulation.proofs.BareRuns.{bare_simulated}
use Rattle.mc_interp.specs.Machines.{Machine, ran_of}
use Rattle.mc_cover.specs.declared.view.View.{View}
use Rattle.cover_recorder.specs.Crew.{IsAtWork}
use Rattle.cover_recorder.specs.Led.{stays}
use Rattle.cover_recorder.specs.Recorder.{RecorderView, Leads, claimed}
use Rattle.cover_recorder.proofs.Crew.{claims_are_worked}
use Rattle.cover_recorder.proofs.Stamps.{only}
use Rattle.mc_mutate.specs.declared.kills.original.Original.{Original}
use Rattle.mc_mutate.specs.Kills.{Shown, KillsAtItem, does_of, shown, shown_from}
use Rattle.mc_mutate.specs.Mutants.{IsMutant, count}
use Rattle.mc_mutate.specs.Runs.{AreKept, CanWork, HasDrawn, kept_of, plans_in, program_in, worker_does}
use Rattle.mc_mutate.specs.steps.Bared.{HasMutant}
use Rattle.mc_mutate.specs.declared.kills.runs.Task.{Task}
use Rattle.mc_mutate.proofs.Fitted.{fits_mutant}
use Rattle.mc_mutate.proofs.Mutated.{mutants_sound}

-- ---- runs without probes

pub fits_bare : (plan : Plan) (p : Program) (i : Instrumented) → tree_of i ≡ bare_tree p → Fits plan p → Fits plan (erase (tree_of i).program)
fits_bare plan p i copy fits =
    subst (λ (t : Tree). Fits plan (erase t.program)) (sym copy) (subst (Fits plan) (sym (program_back p)) fits)

pub no_bits : (p : Program) (i : Instrumented) → tree_of i ≡ bare_tree p → i.bits ≤ 65536
no_bits p i copy = let e : i.bits ≡ 0 = ap (λ (t : Tree). t.bits) copy in omega (arith, e)

pub ran_shown : (p : Program) (i : Instrumented) (plan : Plan) (m : Machine) (e : Ending) → IsSound p → Fits plan p → tree_of i ≡ bare_tree p → e ≡ (run_of (tree_of i) plan).ending
    → m ≡ ran_of i (run_of (tree_of i) plan) → shown_from e m.done m.output ≡ shown p plan
ran_shown p i plan m e sound fits copy ended ran =
    let runs = bare_simulated p plan sound fits in
    let ending = ended ∙ ap (λ (t : Tree). (run_of t plan).ending) copy ∙ runs.ending in
    let done = ap (λ (x : Machine). x.done) ran ∙ ap (λ (t : Tree). (run_of t plan).done) copy ∙ runs.done in
    let output = ap (λ (x : Machine). x.output) ran ∙ ap (λ (t : Tree). (run_of t plan).state.output) copy ∙ runs.output in
    (λ k. shown_from (ending k) (done k) (output k))

-- ---- items

pub some_tests : (item n tests : ℕ) → item < n * tests → 0 < tests
some_tests item n zero less = absurd (let none = mul-zero n in omega (arith, less, none))
some_tests item n (suc t) less = omega arith

pub index_below : (item n tests : ℕ) → item < n * tests → item / tests < n
index_below item n tests less = (div-lt_iff_lt-mul (some_tests item n tests less)).1 less

-- the numbers of the test and of the mutant that follow from it
pub test_below : (item n tests : ℕ) → item < n * tests → item % tests < tests
test_below item n tests less = mod-lt item (some_tests item n tests less)

-- few mutants and few tests have few items
pub few_items : (n tests : ℕ) → n ≤ 4096 → tests ≤ 4096 → n * tests ≤ 16777216
few_items n tests few small =
    let one = mul-le-mul_right tests few in
    let two = mul-le-mul_left 4096 small in
    omega arith

-- and their product can be counted
pub product_fits : (m n tests : ℕ) → m ≡ n → n ≤ 4096 → tests ≤ 4096 → m * tests < 4294967296
product_fits m n tests is few small =
    let same : m * tests ≡ n * tests = ap (λ (k : ℕ). k * tests) is in
    let most = few_items n tests few small in
    omega arith

pub limited_few : (n : ℕ) → n ≤ 4096 → limited n ≡ n
unfolding limited
limited_few n few = omega arith

-- ---- what is kept of a test

pub kept_at : (p : Program) (plans : List Plan) (kept : List Original) (k : ℕ) (o : Original) (plan : Plan) → AreKept p plans kept → k < length kept → o ≡ get_or kept k o
    → slice_get plans k ≡ Some plan → kept_of o ≡ shown p plan
kept_at p plans kept k o plan are less is planned =
    let one : slice_get (map kept_of kept) k ≡ Some (kept_of o) = slice_get-map kept_of kept k ∙ ap (option_map kept_of) (slice_get_read kept (length kept) k o refl less is) in
    let two : slice_get (map (shown p) plans) k ≡ Some (shown p plan) = slice_get-map (shown p) plans k ∙ ap (option_map (shown p)) planned in
    let same = ap (λ (l : List Shown). slice_get l k) are in
    let all : Some (kept_of o) ≡ Some (shown p plan) = sym one ∙ same ∙ two in
    cc

pub kept_count : (p : Program) (plans : List Plan) (kept : List Original) → AreKept p plans kept → length kept ≡ length plans
kept_count p plans kept are = sym (length-map kept kept_of) ∙ ap length are ∙ length-map plans (shown p)

pub planned_at : {A B : Type 0} (f : A → B) (xs : List A) (n : ℕ) (x : A) → n < length xs → x ≡ get_or xs n x → slice_get (map f xs) n ≡ Some (f x)
planned_at f xs n x lt is = slice_get-map f xs n ∙ ap (option_map f) (slice_get_read xs (length xs) n x refl lt is)

-- ---- one item

one_mutant : (p : Program) (n : ℕ) (q r : Program) → IsMutant p n q → IsMutant p n r → q ≡ r
one_mutant p n q r a b = let e : Some q ≡ Some r = sym a.1 ∙ b.1 in cc

module _ (p : Program) (plans : List Plan) (item : ℕ) (q : Program) (is : IsMutant p (item / length plans + 1) q) (plan : Plan) (planned : slice_get plans (item % length plans) ≡ Some plan) where
  -- the mutant's run shows something else
  kills : ¬ (shown q plan ≡ shown p plan) → KillsAtItem p plans item
  kills other = record { mutant = q; is_mutant = is; plan = plan; planned = planned; killed = other }

  -- it shows the same
  survives : shown q plan ≡ shown p plan → ¬ KillsAtItem p plans item
  survives same k =
      let mutant : k.mutant ≡ q = one_mutant p (item / length plans + 1) k.mutant q k.is_mutant is in
      let both : Some k.plan ≡ Some plan = sym k.planned ∙ planned in
      let test : k.plan ≡ plan = cc in
      k.killed ((λ i. shown (mutant i) (test i)) ∙ same ∙ (λ i. shown p (sym test i)))

  does_hit : ¬ (shown q plan ≡ shown p plan) → (b : ℕ) → Contains (0 ∷ []) b ↔ does_of p plans item b
  does_hit other b = (
    λ c. (sym (only 0 b c), kills other),
    λ d. (0, omega arith, sym d.0),
  )

  does_nothing : shown q plan ≡ shown p plan → (b : ℕ) → Contains [] b ↔ does_of p plans item b
  does_nothing same b = (
    λ c. absurd (let lt = c.1 in omega arith),
    λ d. absurd (survives same d.1),
  )

  -- the worker goes on
  hit_goes_on : ¬ (shown q plan ≡ shown p plan) → (before r later : RecorderView) → IsAtWork (does_of p plans) before.view → r ≡ claimed before item → Leads (0 ∷ []) r later → IsAtWork (does_of p plans) later.view
  hit_goes_on other before r later at drawn led =
      claims_are_worked (does_of p plans) before later item (0 ∷ []) at (does_hit other)
      (subst (λ (x : RecorderView). Leads (0 ∷ []) x later) drawn led)

  goes_on : shown q plan ≡ shown p plan → (before r : RecorderView) → IsAtWork (does_of p plans) before.view → r ≡ claimed before item → IsAtWork (does_of p plans) r.view
  goes_on same before r at drawn =
      claims_are_worked (does_of p plans) before r item [] at (does_nothing same)
      (subst (λ (x : RecorderView). Leads [] x r) drawn (stays r))

-- ---- the test of an item on its mutant

module _ (t : Task) (item : ℕ) (r : RecorderView) (can : CanWork t r.cover) (drawn : HasDrawn (worker_does t) item r) (i : Instrumented) (has : HasMutant (program_in t) (item / length t.plans.now) i) where
  abbrev p : Program
  p = program_in t

  abbrev plans : List Plan
  plans = plans_in t

  long : length plans ≡ length t.plans.now
  long = length-map t.plans.now plan_of

  pub inside : item < count p * length t.plans.now
  inside = subst (λ (n : ℕ). item < n) (ap (λ s. s.tests) can.shape) drawn.inside

  pub some : 0 < length t.plans.now
  some = some_tests item (count p) (length t.plans.now) inside

  pub below : item % length t.plans.now < length t.plans.now
  below = test_below item (count p) (length t.plans.now) inside

  pub below_kept : item % length t.plans.now < length t.originals.now
  below_kept = let e = kept_count p plans t.originals.now can.kept in subst (λ (n : ℕ). item % length t.plans.now < n) (sym (e ∙ long)) below

  module _ (test : ℕ) (plan : TestPlan) (is_test : test ≡ item % length t.plans.now) (at : plan ≡ get_or t.plans.now test plan) where
    within : test < length t.plans.now
    within = subst (λ (n : ℕ). n < length t.plans.now) (sym is_test) below

    planned_here : slice_get plans test ≡ Some (plan_of plan)
    planned_here = planned_at plan_of t.plans.now test plan within at

    planned_item : slice_get plans (item % length plans) ≡ Some (plan_of plan)
    planned_item = ap (λ (n : ℕ). slice_get plans (item % n)) long ∙ ap (slice_get plans) (sym is_test) ∙ planned_here

    fits_program : Fits (plan_of plan) p
    fits_program = subst (λ (x : TestPlan). Fits (plan_of x) p) (sym at) (can.fit test plan within)

    number_is : IsMutant p (item / length plans + 1) has.mutant
    number_is = subst (λ (n : ℕ). IsMutant p (item / n + 1) has.mutant) (sym long) has.is_mutant

    sound : IsSound has.mutant
    sound = mutants_sound p (item / length t.plans.now + 1) has.mutant can.sound has.is_mutant

    fits_changed : Fits (plan_of plan) has.mutant
    fits_changed = fits_mutant (plan_of plan) p (item / length t.plans.now + 1) has.mutant fits_program has.is_mutant

    pub fits_machine : Fits (plan_of plan) (erase (tree_of i).program)
    fits_machine = fits_bare (plan_of plan) has.mutant i has.bare fits_changed

    module _ (m : Machine) (e : Ending) (ended : e ≡ (run_of (tree_of i) (plan_of plan)).ending) (ran : m ≡ ran_of i (run_of (tree_of i) (plan_of plan))) (o : Original) (kept : o ≡ get_or t.originals.now test o) where
      shows : shown_from e m.done m.output ≡ shown has.mutant (plan_of plan)
      shows = ran_shown has.mutant i (plan_of plan) m e sound fits_changed has.bare ended ran

      keeps : kept_of o ≡ shown p (plan_of plan)
      keeps =
          kept_at p plans t.originals.now test o (plan_of plan) can.kept
          (subst (λ (n : ℕ). n < length t.originals.now) (sym is_test) below_kept) kept planned_here

      pub killed_works : ¬ (shown_from e m.done m.output ≡ kept_of o) → (later : RecorderView) → Leads (0 ∷ []) r later → IsAtWork (worker_does t) later.view
      killed_works other later led =
          hit_goes_on p plans item has.mutant number_is (plan_of plan) planned_item
          (λ same. other (shows ∙ same ∙ sym keeps)) drawn.before r later drawn.at_work drawn.drawn led

      pub shown_works : shown_from e m.done m.output ≡ kept_of o → IsAtWork (worker_does t) r.view
      shown_works same =
          goes_on p plans item has.mutant number_is (plan_of plan) planned_item
          (sym shows ∙ same ∙ keeps) drawn.before r drawn.at_work drawn.drawn
