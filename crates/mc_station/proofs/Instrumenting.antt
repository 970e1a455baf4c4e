-- What an instrumented program keeps of its source.
use Rattle.std.proofs.Common.{◌≡◌, ◌≤◌, ◌∙◌, List, [], ◌∷◌, length, sym, ap, subst}
use Rattle.std.specs.Prelude.{All}
use Rattle.std.proofs.lemmas.List.{length-map}
use Rattle.std.proofs.lemmas.List.Elements.{All-nil, All-cons}
use Rattle.mc_limits.specs.Limits.{most_source_bytes}
use Rattle.mc_typed.specs.Plans.{Fits, Plan, plan_of}
use Rattle.mc_typed.specs.Sound.{IsSound}
use Rattle.mc_typed.specs.Tree.{Program}
use Rattle.mc_typed.specs.Views.{program_of}
use Rattle.mc_typed.specs.declared.plans.TestPlan.{TestPlan}
use Rattle.mc_tests.specs.File.{AllFit}
use Rattle.mc_tests.specs.Seen.{seen_plans}
use Rattle.mc_probe.specs.BitMaps.{map_of}
use Rattle.mc_probe.specs.Erase.{erase}
use Rattle.mc_probe.specs.Table as table
use Rattle.mc_probe.specs.Trees.{tree_of}
use Rattle.mc_probe.proofs.ErasedPrograms.{programs_erase}
use Rattle.mc_runner.specs.Laws.{IsReady}
use Rattle.mc_station.specs.Tests.{shape_of}
use Rattle.mc_station.specs.Seen.{ArePlanned, HasItsTree, HasTokens, seen_accepted}
use Rattle.mc_station.specs.declared.accepted.Accepted.{Accepted}

module _ (a : Accepted) (p : Program) (erases : erase (tree_of a.tree).program ≡ p) where
  -- the plain program of the tree is the source's
  pub program_is : program_of a.tree.program ≡ p
  program_is = sym (programs_erase a.tree.program) ∙ erases

  pub accepted_is : seen_accepted a ≡ record { source = a.source.now; program = p; map = map_of a.map }
  accepted_is = λ i. record { source = a.source.now; program = program_is i; map = map_of a.map }

  pub instrumented : length a.source.now ≤ most_source_bytes → HasTokens a.source.now → IsSound (erase (tree_of a.tree).program) → table.IsInstrumented p (map_of a.map) (tree_of a.tree) → HasItsTree a
  instrumented short tokens sound is =
      let P : Program → Type 0 = λ q. table.IsInstrumented q (map_of a.map) (tree_of a.tree) in
      record { short = short; tokens = tokens; sound = subst IsSound (programs_erase a.tree.program) sound; tree = subst P (sym program_is) is }

-- ---- what running the tests asks for

pub each_fits : (p : Program) (plans : List TestPlan) → AllFit p (seen_plans plans) → All (λ (plan : TestPlan). Fits (plan_of plan) p) plans
each_fits p [] fit = All-nil (λ (plan : TestPlan). Fits (plan_of plan) p)
each_fits p (plan ∷ plans) fit = All-cons (λ (x : TestPlan). Fits (plan_of x) p) plan plans fit.0 (each_fits p plans fit.1)

all_fit : (p : Program) (plans : List Plan) → AllFit p plans → All (λ (plan : Plan). Fits plan p) plans
all_fit p [] fit = All-nil (λ (plan : Plan). Fits plan p)
all_fit p (plan ∷ plans) fit = All-cons (λ (x : Plan). Fits x p) plan plans fit.0 (all_fit p plans fit.1)

module _ (a : Accepted) (plans : List TestPlan) (is : HasItsTree a) (planned : ArePlanned a plans) where
  pub plans_fit : All (λ (plan : TestPlan). Fits (plan_of plan) (erase (tree_of a.tree).program)) plans
  plans_fit =
      let P : Program → Type 0 = λ q. All (λ (plan : TestPlan). Fits (plan_of plan) q) plans in
      subst P (sym (programs_erase a.tree.program)) (each_fits (program_of a.tree.program) plans planned.fit)

  pub ready : IsReady (program_of a.tree.program) (map_of a.map) (tree_of a.tree) (seen_plans plans)
  ready = record { sound = is.sound; is_tree = is.tree; fit = all_fit (program_of a.tree.program) (seen_plans plans) planned.fit }

  pub bits_are : a.tree.bits ≡ a.map.bits
  bits_are = ap (λ t. t.bits) is.tree.is_tree

  -- the shape of the bits of the tree under the tests
  pub shape_is : shape_of (seen_accepted a) (seen_plans plans) ≡ record { bits = a.tree.bits; tests = length plans }
  shape_is = λ i. record { bits = sym bits_are i; tests = length-map plans plan_of i }

-- what is opened for a source and its plans
pub needed_is : (a : Accepted) (plans : List TestPlan) → record { bits = a.map.bits; tests = length plans } ≡ shape_of (seen_accepted a) (seen_plans plans)
needed_is a plans = λ i. record { bits = a.map.bits; tests = sym (length-map plans plan_of) i }
