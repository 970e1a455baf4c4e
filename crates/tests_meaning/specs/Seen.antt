-- What is compared of a run.
use Rattle.std.specs.Prelude.{◌≡◌, ℕ, ℤ, Bool, true, false, List, [], ◌∷◌, map, Option, Some, None}
use Rattle.mc_value.specs.declared.trap.Trap.{Trap}
use Rattle.mc_cond.specs.Order.{Answer}
use Rattle.mc_typed.specs.declared.plans.Ending.{Ending}
use Rattle.mc_typed.specs.declared.plans.Ending.TheVariants as ending
use Rattle.mc_typed.specs.Tree.{Program}
use Rattle.mc_typed.specs.Plans.{Plan}
use Rattle.mc_steps.specs.Tests.{TestRun}
use Rattle.mc_meaning.specs.Stores.{Store}
use Rattle.mc_steps.specs.Events.{Event, Evaluated}
use Rattle.mc_meaning.specs.Tests.{plain_run}

-- the ending, the value of each call that returned, the output, the fuel left, and the events
pub record Seen : Type 0 where
  pub ending : Ending
  pub values : List (Option ℤ)
  pub output : List ℤ
  pub fuel : ℕ
  pub events : List Event

abbrev pub seen_of : TestRun Store Event → Seen
seen_of r = record {
  ending = r.ending;
  values = map (λ d. d.value) r.done;
  output = r.state.output;
  fuel = r.state.fuel;
  events = r.events;
}

-- a test of one call
abbrev pub one_call : ℕ → List ℤ → List ℤ → ℕ → Plan
one_call f arguments inputs fuel = record {
  name = [];
  calls = record { function = f; arguments = arguments; expect = None; output = None } ∷ [];
  inputs = inputs;
  fuel = fuel;
}

-- a program, a test, and what is seen of its run
pub record Row : Type 0 where
  pub program : Program
  pub plan : Plan
  pub seen : Seen

-- each run is as its row says
abbrev pub Hold : List Row → Type 0
Hold rows = map (λ r. seen_of (plain_run r.program r.plan)) rows ≡ map (λ r. r.seen) rows

-- ---- short words for rows

-- a call with 100 units of fuel
abbrev pub calls : Program → ℕ → List ℤ → Seen → Row
calls p f arguments seen =
    record { program = p; plan = one_call f arguments [] 100; seen = seen }

-- it returned this, with so much fuel left
abbrev pub gave : ℤ → ℕ → List Event → Seen
gave v fuel events = record {
  ending = ending.Returned;
  values = Some v ∷ [];
  output = [];
  fuel = fuel;
  events = events;
}

-- it returned without a value
abbrev pub ended : ℕ → List Event → Seen
ended fuel events = record {
  ending = ending.Returned;
  values = None ∷ [];
  output = [];
  fuel = fuel;
  events = events;
}

abbrev pub stopped : Ending → ℕ → List Event → Seen
stopped e fuel events =
    record { ending = e; values = []; output = []; fuel = fuel; events = events }

abbrev pub trapped : Trap → ℕ → List Event → Seen
trapped t fuel events = stopped (ending.Trap t) fuel events

abbrev pub evaluated : ℕ → List Answer → Bool → Event
evaluated d answers outcome = Evaluated d (record { answers = answers; outcome = outcome })

abbrev pub T : Answer
T = Some true

abbrev pub F : Answer
F = Some false
