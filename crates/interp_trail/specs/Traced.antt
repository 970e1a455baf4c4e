-- What is told of the run of a test, call by call.
use Rattle.std.specs.Prelude.{ℤ, List, map, Option}
use Rattle.mc_typed.specs.declared.plans.Ending.{Ending}
use Rattle.mc_typed.specs.declared.plans.TestState.{TestState}
use Rattle.mc_typed.specs.Tree.{Program}
use Rattle.mc_typed.specs.Plans.{Plan}
use Rattle.mc_steps.specs.Tests.{CallDone}
use Rattle.mc_meaning.specs.Seen.{Told}
use Rattle.mc_meaning.specs.Tests.{plain_run, plain_state}
use Rattle.interp_trail.specs.declared.stop.Stop.{Stop}
use Rattle.interp_trail.specs.Stops.{stop_of}
use Rattle.interp_trail.specs.Trails.{trail_of}

-- how the run ended, the calls that returned, the output, the state, and where the run stopped
pub record Traced : Type 0 where
  pub ending : Ending
  pub done : List CallDone
  pub output : List ℤ
  pub state : TestState
  pub stop : Option Stop

-- what is to be told of the plain run
abbrev pub plainly_traced : Program → Plan → Traced
plainly_traced p plan =
    let r = plain_run p plan in
    record {
      ending = r.ending;
      done = r.done;
      output = r.state.output;
      state = plain_state p plan;
      stop = stop_of r.ending (trail_of r.events);
    }

-- what of it a report tells
abbrev pub told_of : Traced → Told
told_of t = record {
  ending = t.ending;
  values = map (λ d. d.value) t.done;
  output = t.output;
  state = t.state;
}
