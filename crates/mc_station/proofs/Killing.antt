-- What is told of each mutant, and what the runs of the tests on the mutants leave.
use Rattle.std.proofs.Common.{◌≡◌, ◌∙◌, ◌+◌, ◌-◌, ◌*◌, ◌<◌, ◌≤◌, ℕ, List, [], ◌∷◌, ◌++◌, Option, Some, None, Result, Ok, Err, length, get_or, map, take, option_map, sym, ap, subst, refl, inl, inr, arith}
use Rattle.std.specs.Prelude.{◌↔◌, All, Contains, IfOk, Vec, slice_get}
use Rattle.std.specs.declared.alloc.AllocError.{AllocError}
use Rattle.std.specs.declared.alloc.Global.{Global}
use Rattle.std.proofs.lemmas.List.{length-map, map-append, map_more}
use Rattle.std.proofs.lemmas.Option.{slice_get_cases}
use Rattle.mc_core.specs.Matrix.{Holds, MatrixView}
use Rattle.mc_cover.specs.Model.{CoverView, PassView}
use Rattle.cover_recorder.specs.Crew.{HasAll}
use Rattle.mutate_lines.specs.Killers.{AreKillers, IsRecorded}
use Rattle.mutate_lines.specs.Lines.{AreOf, Told, mutant_lines}
use Rattle.mutate_lines.specs.Seen.{told_of}
use Rattle.mutate_lines.specs.declared.change.ChangeLine.{ChangeLine}
use Rattle.mc_mutate.specs.declared.changes.Change.{Change}
use Rattle.mc_mutate.specs.Kills as items
use Rattle.mc_limits.specs.Limits.{most_mutants}
use Rattle.mc_mutate.specs.Kills.{does_of}
use Rattle.mc_mutate.specs.Mutants.{IsChange, count, mutants}
use Rattle.mc_typed.specs.Levels.{limited}
use Rattle.mc_typed.specs.Plans.{Fits, Plan, plan_of}
use Rattle.mc_typed.specs.Tree.{Program}
use Rattle.mc_typed.specs.Views.{program_of}
use Rattle.mc_typed.specs.declared.plans.TestPlan.{TestPlan}
use Rattle.mc_typed.specs.declared.plans.TestState.{TestState}
use Rattle.mc_meaning.specs.Seen.{Told as RunTold, plainly_told}
use Rattle.mc_probe.specs.BitMaps.{map_of}
use Rattle.mc_probe.specs.Tree.{Tree}
use Rattle.mc_probe.specs.Trees.{tree_of}
use Rattle.mc_runner.specs.Laws.{ResultsArePlain}
use Rattle.mc_runner.specs.Recorded.{told_by}
use Rattle.mc_tests.specs.File.{AllFit}
use Rattle.mc_tests.specs.Seen.{seen_plans}
use Rattle.station_replies.specs.Reply.{Reply, written}
use Rattle.mc_station.specs.Seen.{ArePlanned, HasItsTree}
use Rattle.mc_station.specs.Source.{Accepted as AcceptedAs}
use Rattle.mc_station.specs.Tests.{names, states}
use Rattle.mc_station.specs.commands.Mutate.{AreKilled, Kills, change_told, changes_told, status_after}
use Rattle.mc_station.specs.declared.accepted.Accepted.{Accepted}
use Rattle.mc_station.proofs.Instrumenting.{each_fits, ready}
use Rattle.mc_station.proofs.Mutating.{all_of, of_killers}

-- ---- how many mutants there are

exactly : (n : ℕ) → n ≤ most_mutants → limited n ≡ n
unfolding limited
exactly n few = omega (arith, few)

pub counted : (p q : Program) (n : ℕ) → q ≡ p → n ≡ limited (count q) → count p ≤ most_mutants → n ≡ count p
counted p q n same is few = is ∙ ap (λ (x : Program). limited (count x)) same ∙ exactly (count p) few

-- ---- what is told of them

module _ (X : Type 0) (f : X → Change) (g : Change → Told) (xs : List X) (n : ℕ) (c : Change) where
  found : option_map f (slice_get xs n) ≡ Some c → (x : X) × (n < length xs) × (get_or xs n x ≡ x) × (f x ≡ c)
  found is = elim (slice_get_cases xs n).1 [
    | inl there ↦ (let s : Some (f there.0) ≡ Some c = ap (option_map f) (sym there.2) ∙ is in (there.0, there.1, there.3, cc s))
    | inr past ↦ absurd (let s : None ≡ Some c = ap (option_map f) (sym past.1) ∙ is in cc s)
  ]

  next : option_map f (slice_get xs n) ≡ Some c → map (λ x. g (f x)) (take (n + 1) xs) ≡ map (λ x. g (f x)) (take n xs) ++ g c ∷ []
  next is =
      let x = found is in
      map_more (λ y. g (f y)) xs n x.0 x.1 ∙ ap (λ y. map (λ z. g (f z)) (take n xs) ++ g (f y) ∷ []) x.2 ∙ ap (λ k. map (λ z. g (f z)) (take n xs) ++ g k ∷ []) x.3

pub one_more : (source : List ℕ) (p : Program) (n : ℕ) (lines : List ChangeLine) (line : ChangeLine) (c : Change) → map told_of lines ≡ map (λ m. change_told source m.change) (take n (mutants p)) → IsChange p (n + 1) c
    → told_of line ≡ change_told source c → map told_of (lines ++ line ∷ []) ≡ map (λ m. change_told source m.change) (take (n + 1) (mutants p))
one_more source p n lines line c all is told =
    let before : n + 1 - 1 ≡ n = omega arith in
    let own : option_map (λ m. m.change) (slice_get (mutants p) n) ≡ Some c = ap (λ k. option_map (λ m. m.change) (slice_get (mutants p) k)) (sym before) ∙ is.1 in
    map-append told_of lines (line ∷ []) ∙ ap (λ ts. ts ++ told_of line ∷ []) all ∙ ap (λ t. map (λ m. change_told source m.change) (take n (mutants p)) ++ t ∷ []) told
    ∙ sym (next _ (λ m. m.change) (change_told source) (mutants p) n c own)

-- ---- what is recorded of their runs

pub fits : (p q : Program) (plans : List TestPlan) → q ≡ p → AllFit p (seen_plans plans) → All (λ (plan : TestPlan). Fits (plan_of plan) q) plans
fits p q plans same all =
    let P : Program → Type 0 = λ x. All (λ (plan : TestPlan). Fits (plan_of plan) x) plans in subst P (sym same) (each_fits p plans all)

pub recorded : (p q : Program) (plans : List Plan) (cover : CoverView) (pass : PassView) (m : MatrixView) (n : ℕ) → q ≡ p → cover.shape.tests ≡ n → HasAll (does_of q plans) cover pass
    → ((b t : ℕ) → Holds m b t ↔ Contains pass.view.hits (b, t)) → (item : ℕ) → Holds m 0 item ↔ ((item < n) × items.KillsAtItem p plans item)
recorded p q plans cover pass m n same tests all pairs item =
    let P : Program → Type 0 = λ x. HasAll (does_of x plans) cover pass in
    let has : HasAll (does_of p plans) cover pass = subst P same all in (
      λ holds. (let hit = (has.hits 0 item).0 ((pairs 0 item).0 holds) in (subst (λ (k : ℕ). item < k) tests hit.0, hit.1.1)),
      λ is. (pairs 0 item).1 ((has.hits 0 item).1 (subst (λ (k : ℕ). item < k) (sym tests) is.0, (refl, is.1))),
    )

pub all_killed : (p : Program) (plans : List TestPlan) (m : MatrixView) (n : ℕ) (given : Result (Vec (Option ℕ) Global) AllocError) → n ≡ count p
    → ((item : ℕ) → Holds m 0 item ↔ ((item < n * length plans) × items.KillsAtItem p (seen_plans plans) item))
    → IfOk given (λ all. AreKillers (IsRecorded m (length plans)) (length plans) 0 all.items) → IfOk given (λ all. length all.items ≡ n) → IfOk given (λ all. AreKilled p (seen_plans plans) all.items)
all_killed p plans m n (Ok all) same is each many =
    let ps : List Plan = seen_plans plans in
    let long : length ps ≡ length plans = length-map plans plan_of in
    let number : n * length plans ≡ count p * length ps = λ i. same i * sym long i in
    let own : (item : ℕ) → Holds m 0 item ↔ ((item < count p * length ps) × items.KillsAtItem p ps item) = subst (λ (k : ℕ). (item : ℕ) → Holds m 0 item ↔ ((item < k) × items.KillsAtItem p ps item)) number is in
    let as_many : length all.items ≡ count p = many ∙ same in
    record {
      each = of_killers p ps m own 0 all.items (omega (arith, as_many)) (subst (λ (k : ℕ). AreKillers (IsRecorded m k) k 0 all.items) (sym long) each);
      as_many = as_many;
    }
all_killed p plans m n (Err e) same is each many = tt

-- ---- the reply

pub tests_of : (p : Program) (plans : List Plan) (killers : List (Option ℕ)) (shown : List (List ℕ)) → shown ≡ names plans → AreKilled p plans killers → AreOf (length shown) killers
tests_of p plans killers shown is killed =
    let long : length shown ≡ length plans = ap length is ∙ length-map plans (λ plan. plan.name) in
    subst (λ (k : ℕ). AreOf k killers) (sym long) (all_of (Kills p plans) (length plans) 0 killers killed.each)

pub reply_is : (a : AcceptedAs) (plans : List Plan) (killers : List (Option ℕ)) (r : Reply) (n : ℕ) (after : List TestState) (lines shown : List (List ℕ)) (changes : List Told)
    → r ≡ written n lines → n ≡ status_after killers after → after ≡ states a.program plans → lines ≡ mutant_lines shown changes killers → shown ≡ names plans → changes ≡ changes_told a
    → r ≡ written (status_after killers (states a.program plans)) (mutant_lines (names plans) (changes_told a) killers)
reply_is a plans killers r n after lines shown changes is number same line named told =
    let status : n ≡ status_after killers (states a.program plans) = number ∙ ap (status_after killers) same in
    let text : lines ≡ mutant_lines (names plans) (changes_told a) killers = line ∙ (λ i. mutant_lines (named i) (told i) killers) in
    is ∙ (λ i. written (status i) (text i))

pub told_changes : (source : List ℕ) (p q : Program) (changes : List Told) → q ≡ p → changes ≡ map (λ m. change_told source m.change) (mutants q) → changes ≡ map (λ m. change_told source m.change) (mutants p)
told_changes source p q changes same is = is ∙ ap (λ (x : Program). map (λ m. change_told source m.change) (mutants x)) same

-- ---- the states of the tests

of_tree : (tree : Tree) (plans : List Plan) → map (λ plan. (told_by tree plan).state) plans ≡ map (λ (t : RunTold). t.state) (map (told_by tree) plans)
of_tree tree [] = refl
of_tree tree (plan ∷ plans) = ap (λ ss. (told_by tree plan).state ∷ ss) (of_tree tree plans)

of_plain : (p : Program) (plans : List Plan) → map (λ (t : RunTold). t.state) (map (plainly_told p) plans) ≡ states p plans
of_plain p [] = refl
of_plain p (plan ∷ plans) = ap (λ ss. (plainly_told p plan).state ∷ ss) (of_plain p plans)

pub states_are : ResultsArePlain → (a : Accepted) (plans : List TestPlan) → HasItsTree a → ArePlanned a plans
    → map (λ plan. (told_by (tree_of a.tree) plan).state) (seen_plans plans) ≡ states (program_of a.tree.program) (seen_plans plans)
states_are plain a plans is planned =
    of_tree (tree_of a.tree) (seen_plans plans) ∙ ap (map (λ (t : RunTold). t.state)) (plain (program_of a.tree.program) (map_of a.map) (tree_of a.tree) (seen_plans plans) (ready a plans is planned))
    ∙ of_plain (program_of a.tree.program) (seen_plans plans)
