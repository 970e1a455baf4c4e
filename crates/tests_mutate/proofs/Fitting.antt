-- What running tests on mutants asks for, from the tests that were read.
use Rattle.std.proofs.Common.{◌≡◌, ◌≤◌, ◌<◌, ◌*◌, ℕ, List, [], ◌∷◌, length, All, sym, subst, arith}
use Rattle.std.proofs.Math.Nat.{mul-le-mul_left, mul-le-mul_right}
use Rattle.std.proofs.lemmas.List.{length-map}
use Rattle.std.proofs.lemmas.List.Elements.{All-cons, All-nil}
use Rattle.mc_typed.specs.Levels.{limited}
use Rattle.mc_typed.specs.Tree.{Program}
use Rattle.mc_typed.specs.Plans.{Fits, plan_of}
use Rattle.mc_typed.specs.declared.plans.TestPlan.{TestPlan}
use Rattle.mc_tests.specs.File.{AllFit}
use Rattle.mc_tests.specs.Seen.{seen_plans}

pub all_fit : (p : Program) (plans : List TestPlan) → AllFit p (seen_plans plans) → All (λ (plan : TestPlan). Fits (plan_of plan) p) plans
all_fit p [] fit = All-nil (λ (plan : TestPlan). Fits (plan_of plan) p)
all_fit p (plan ∷ plans) fit = All-cons (λ (x : TestPlan). Fits (plan_of x) p) plan plans fit.0 (all_fit p plans fit.1)

-- so do those that a slice of them holds
pub read_fit : (p : Program) (plans read : List TestPlan) → plans ≡ read → AllFit p (seen_plans read)
    → All (λ (plan : TestPlan). Fits (plan_of plan) p) plans
read_fit p plans read same fit =
    subst (λ (l : List TestPlan). All (λ (plan : TestPlan). Fits (plan_of plan) p) l) (sym same) (all_fit p read fit)

pub few_plans : (plans : List TestPlan) (n : ℕ) → length (seen_plans plans) ≤ n → length plans ≤ n
few_plans plans n few = subst (λ (k : ℕ). k ≤ n) (length-map plans plan_of) few

-- ---- few mutants

pub few_mutants : (n r : ℕ) → r ≡ limited n → r ≤ 4096 → n ≡ r
unfolding limited
few_mutants n r is few = omega arith

pub few_items : (n tests : ℕ) → n ≤ 4096 → tests ≤ 4096 → n * tests < 4294967296
few_items n tests few small =
    let one = mul-le-mul_right tests few in
    let two = mul-le-mul_left 4096 small in
    omega arith
