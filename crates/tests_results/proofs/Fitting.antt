-- What running tests asks for, from the tests that were read.
use Rattle.std.proofs.Common.{◌≡◌, List, [], ◌∷◌, All, sym, subst}
use Rattle.std.proofs.lemmas.List.Elements.{All-cons, All-nil}
use Rattle.mc_typed.specs.Tree.{Program}
use Rattle.mc_typed.specs.Plans.{Fits, plan_of}
use Rattle.mc_typed.specs.declared.plans.TestPlan.{TestPlan}
use Rattle.mc_tests.specs.File.{AllFit}
use Rattle.mc_tests.specs.Seen.{seen_plans}

all_fit : (p : Program) (plans : List TestPlan) → AllFit p (seen_plans plans) → All (λ (plan : TestPlan). Fits (plan_of plan) p) plans
all_fit p [] fit = All-nil (λ (plan : TestPlan). Fits (plan_of plan) p)
all_fit p (plan ∷ plans) fit = All-cons (λ (x : TestPlan). Fits (plan_of x) p) plan plans fit.0 (all_fit p plans fit.1)

-- so do those that a slice of them holds
pub read_fit : (p : Program) (plans read : List TestPlan) → plans ≡ read → AllFit p (seen_plans read)
    → All (λ (plan : TestPlan). Fits (plan_of plan) p) plans
read_fit p plans read same fit =
    subst (λ (l : List TestPlan). All (λ (plan : TestPlan). Fits (plan_of plan) p) l) (sym same) (all_fit p read fit)

-- plans that fit a program fit each tree that erases to it
pub probed_fit : (q p : Program) (plans : List TestPlan) → q ≡ p → All (λ (plan : TestPlan). Fits (plan_of plan) p) plans
    → All (λ (plan : TestPlan). Fits (plan_of plan) q) plans
probed_fit q p plans same all = subst (λ (r : Program). All (λ (plan : TestPlan). Fits (plan_of plan) r) plans) (sym same) all
