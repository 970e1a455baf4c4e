-- What the calls of a test do, one after the other.
use Rattle.std.specs.Prelude.{ℕ, ℤ, List, [], ◌∷◌, ◌++◌, length, Option, Some, None}
use Rattle.mc_typed.specs.declared.plans.Ending.{Ending}
use Rattle.mc_typed.specs.declared.plans.Ending.TheVariants as ending
use Rattle.mc_typed.specs.Tree.{ResultType, NoResult, NumberResult, StructureResult}
use Rattle.mc_steps.specs.Runs.{State, Out, Gave, Stopped, Acts, gives}
use Rattle.mc_steps.specs.Expressions.{as_does}
use Rattle.mc_steps.specs.Statements.{Given}
use Rattle.mc_steps.specs.Calls.{number_given}

-- A test uses the value; a void function has none.
abbrev pub value_given : {M E P : Type 0} → ResultType → Given P → Acts M E (Option ℤ)
value_given NoResult v s = gives None s
value_given (NumberResult a) v s = as_does Some (number_given v) s
value_given (StructureResult u) v s = as_does Some (number_given v) s

-- a call that returned: its value, and how many numbers stood in the output after it
pub record CallDone : Type 0 where
  pub value : Option ℤ
  pub output_end : ℕ

-- the run of a test: how it ended, the calls that returned, the state at its end, what it listed
pub record TestRun (M E : Type 0) : Type 0 where
  pub ending : Ending
  pub done : List CallDone
  pub state : State M
  pub events : List E

module _ {M E : Type 0} where
  abbrev pub before_test : CallDone → List E → TestRun M E → TestRun M E
  before_test call events r = record r { done = call ∷ r.done; events = events ++ r.events }

  abbrev pub where_returned : Out M (Option ℤ) → List E → (State M → TestRun M E) → TestRun M E
  where_returned (Gave v s) events next =
      before_test (record { value = v; output_end = length s.output }) events (next s)
  where_returned (Stopped e s) events next =
      record { ending = e; done = []; state = s; events = events }

  -- the calls in their order, up to the first that does not return
  abbrev pub calls_do : List (Acts M E (Option ℤ)) → State M → TestRun M E
  calls_do [] s = record { ending = ending.Returned; done = []; state = s; events = [] }
  calls_do (call ∷ calls) s = where_returned (call s).out (call s).events (λ s. calls_do calls s)
