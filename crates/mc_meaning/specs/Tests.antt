-- The plain run of a test, its state, and which events stand.
use Rattle.std.specs.Prelude.{◌≡◌, ℕ, ℤ, Bool, true, false, ◌&&◌, List, [], ◌∷◌, map, take, drop, slice_get, Option, Some, None, Contains}
use Rattle.mc_value.specs.Arithmetic.{are_equal}
use Rattle.mc_typed.specs.declared.plans.Ending.{Ending}
use Rattle.mc_typed.specs.declared.plans.Ending.TheVariants as ending
use Rattle.mc_typed.specs.declared.plans.TestState.{TestState}
use Rattle.mc_typed.specs.declared.plans.TestState.TheVariants.{Pass, Fail, Ended}
use Rattle.mc_typed.specs.Tree.{Program}
use Rattle.mc_typed.specs.Frames.{static_cells}
use Rattle.mc_typed.specs.Plans.{Call, Plan}
use Rattle.mc_typed.specs.Sound.{result_at}
use Rattle.mc_steps.specs.Runs.{State, ◌>>=◌}
use Rattle.mc_steps.specs.Events.{Event}
use Rattle.mc_steps.specs.Calls.{PassedNumber}
use Rattle.mc_steps.specs.Tests.{CallDone, TestRun, calls_do, value_given}
use Rattle.mc_meaning.specs.Stores.{Store, initial}
use Rattle.mc_meaning.specs.Within.{Does}
use Rattle.mc_meaning.specs.Calls.{Open, call_in}

-- ---- the run

abbrev pub none_open : Program → Open
none_open p = record { count = 0; levels = 0; cells = static_cells p }

abbrev pub call_made : Program → Call → Does (Option ℤ)
call_made p c = do
  v ← call_in p 512 (none_open p) c.function None (map PassedNumber c.arguments)
  value_given (result_at (slice_get p.functions c.function)) v

abbrev pub first_state : Program → Plan → State Store
first_state p plan =
    record { memory = initial p; fuel = plan.fuel; inputs = plan.inputs; output = [] }

-- The calls of a test are made in order on one store, up to the first that does not return.
abbrev pub plain_run : Program → Plan → TestRun Store Event
plain_run p plan = calls_do (map (λ c. call_made p c) plan.calls) (first_state p plan)

-- ---- the state

abbrev pub same_numbers : List ℤ → List ℤ → Bool
same_numbers [] [] = true
same_numbers [] (w ∷ ws) = false
same_numbers (v ∷ vs) [] = false
same_numbers (v ∷ vs) (w ∷ ws) = are_equal v w && same_numbers vs ws

-- the value that a call has to return, where one is expected
abbrev pub is_value : Option ℤ → Option ℤ → Bool
is_value None value = true
is_value (Some v) None = false
is_value (Some v) (Some w) = are_equal v w

abbrev pub is_output : Option (List ℤ) → List ℤ → Bool
is_output None output = true
is_output (Some expected) output = same_numbers expected output

-- Each call meets what is expected of it; the first one's output begins after so many numbers.
abbrev pub are_met : List Call → List CallDone → ℕ → List ℤ → Bool
are_met [] done begin output = true
are_met (c ∷ calls) [] begin output = false
are_met (c ∷ calls) (d ∷ done) begin output =
    is_value c.expect d.value
    && is_output c.output (drop begin (take d.output_end output))
    && are_met calls done d.output_end output

abbrev pub passed_where : Bool → TestState
passed_where true = Pass
passed_where false = Fail

abbrev pub state_where : Ending → Bool → TestState
state_where ending.Returned met = passed_where met
state_where e met = Ended e

-- a test's state, from how its run ended, the calls that returned and the output
abbrev pub state_of : List Call → Ending → List CallDone → List ℤ → TestState
state_of calls e done output = state_where e (are_met calls done 0 output)

abbrev pub plain_state : Program → Plan → TestState
plain_state p plan =
    let r = plain_run p plan in
    state_of plan.calls r.ending r.done r.state.output

-- ---- what stands

-- The event is in the plain run of the test with this number, and the test is not skipped.
pub record Stands (skipped : List ℕ) (p : Program) (plans : List Plan) (e : Event) (test : ℕ)
    : Type 0 where
  pub plan : Plan
  pub planned : slice_get plans test ≡ Some plan
  pub happened : Contains (plain_run p plan).events e
  pub kept : ¬ (Contains skipped test)
