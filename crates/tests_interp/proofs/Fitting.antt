-- Plans that fit, one after the other, and what runs leave as it was.
use Rattle.std.proofs.Common.{◌≡◌, ℕ, ◌+◌, ◌<◌, ◌≤◌, length, drop, get_or, List, ◌∷◌, sym, ap, subst, ◌∙◌}
use Rattle.std.proofs.lemmas.List.{drop_more}
use Rattle.mc_typed.specs.Plans.{Fits, plan_of}
use Rattle.mc_typed.specs.Tree.{Program}
use Rattle.mc_typed.specs.declared.plans.TestPlan.{TestPlan}
use Rattle.mc_probe.specs.Bare.{bare_tree}
use Rattle.mc_probe.specs.Erase.{erase}
use Rattle.mc_probe.specs.Tree.{Tree}
use Rattle.mc_probe.specs.Trees.{Instrumented, tree_of}
use Rattle.mc_tests.specs.File.{AllFit}
use Rattle.mc_tests.specs.Seen.{seen_plans}

-- the first of the plans that are left
drop_is : {A : Type 0} (xs : List A) (i : ℕ) (x : A) → i < length xs → x ≡ get_or xs i x → drop i xs ≡ x ∷ drop (i + 1) xs
drop_is {A} xs i x inside is = drop_more xs i x inside ∙ ap (λ (e : A). e ∷ drop (i + 1) xs) (sym is)

-- it fits, and so do those after it
first_fits : (p : Program) (plans : List TestPlan) (i : ℕ) (plan : TestPlan) → i < length plans → plan ≡ get_or plans i plan
    → AllFit p (seen_plans (drop i plans)) → Fits (plan_of plan) p × AllFit p (seen_plans (drop (i + 1) plans))
first_fits p plans i plan inside is all =
    subst (λ (left : List TestPlan). AllFit p (seen_plans left)) (drop_is plans i plan inside is) all

pub head_fits : (p : Program) (plans : List TestPlan) (i : ℕ) (plan : TestPlan) → i < length plans → plan ≡ get_or plans i plan
    → AllFit p (seen_plans (drop i plans)) → Fits (plan_of plan) p
head_fits p plans i plan inside is all = (first_fits p plans i plan inside is all).0

pub later_fit : (p q : Instrumented) (plans : List TestPlan) (i : ℕ) (plan : TestPlan) → q ≡ p → i < length plans
    → plan ≡ get_or plans i plan → AllFit (erase (tree_of p).program) (seen_plans (drop i plans))
    → AllFit (erase (tree_of q).program) (seen_plans (drop (i + 1) plans))
later_fit p q plans i plan same inside is all =
    subst (λ (r : Instrumented). AllFit (erase (tree_of r).program) (seen_plans (drop (i + 1) plans))) (sym same)
    (first_fits (erase (tree_of p).program) plans i plan inside is all).1

pub bits_stay : (p q : Instrumented) → q ≡ p → p.bits ≤ 65536 → q.bits ≤ 65536
bits_stay p q same few = subst (λ (r : Instrumented). r.bits ≤ 65536) (sym same) few

-- plans that fit a program fit a copy of it without probes
pub bare_fits : (t : Tree) (p : Program) (plans : List TestPlan) → t ≡ bare_tree p → ((q : Program) → erase (bare_tree q).program ≡ q)
    → AllFit p (seen_plans plans) → AllFit (erase t.program) (seen_plans plans)
bare_fits t p plans copy law all =
    subst (λ (u : Tree). AllFit (erase u.program) (seen_plans plans)) (sym copy)
    (subst (λ (q : Program). AllFit q (seen_plans plans)) (sym (law p)) all)

-- plans that fit a program fit each tree that erases to it
pub probed_fit : (q p : Program) (plans : List TestPlan) → q ≡ p → AllFit p (seen_plans plans) → AllFit q (seen_plans plans)
probed_fit q p plans same all = subst (λ (r : Program). AllFit r (seen_plans plans)) (sym same) all
