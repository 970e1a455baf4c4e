-- Which tests kill a mutant.
use Rattle.std.specs.Prelude.{◌≡◌, ◌≢◌, ℕ, ◌+◌, ◌/◌, ◌%◌, ℤ, List, length, map, slice_get, Option, Some}
use Rattle.mc_typed.specs.declared.plans.Ending.{Ending}
use Rattle.mc_typed.specs.Tree.{Program}
use Rattle.mc_typed.specs.Plans.{Plan}
use Rattle.mc_steps.specs.Tests.{CallDone}
use Rattle.mc_meaning.specs.Tests.{plain_run}
use Rattle.mc_mutate.specs.Mutants.{IsMutant}

-- what the run of a test shows: how it ended, the values of the calls that returned, the output
pub record Shown : Type 0 where
  pub ending : Ending
  pub values : List (Option ℤ)
  pub output : List ℤ

-- of a run that ended so, with these calls that returned and this output
abbrev pub shown_from : Ending → List CallDone → List ℤ → Shown
shown_from ending done output =
    record { ending = ending; values = map (λ d. d.value) done; output = output }

-- of the plain run
abbrev pub shown : Program → Plan → Shown
shown p plan = let r = plain_run p plan in shown_from r.ending r.done r.state.output

-- a test kills a mutant where the mutant's run shows something else than the program's
abbrev pub IsKilled : Program → Program → Plan → Type 0
IsKilled p mutant plan = shown mutant plan ≢ shown p plan

-- The items of the workers: with T tests, item i is the mutant i div T + 1 under the test i mod T.
pub record KillsAtItem (p : Program) (plans : List Plan) (item : ℕ) : Type 0 where
  pub mutant : Program
  pub is_mutant : IsMutant p (item / length plans + 1) mutant
  pub plan : Plan
  pub planned : slice_get plans (item % length plans) ≡ Some plan
  pub killed : IsKilled p mutant plan

-- bit 0 is hit under an item that kills, and there is no other bit
abbrev pub does_of : Program → List Plan → ℕ → ℕ → Type 0
does_of p plans item bit = (bit ≡ 0) × KillsAtItem p plans item
