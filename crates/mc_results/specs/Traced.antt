-- What is told of the runs of tests on an instrumented program, call by call.
use Rattle.std.specs.Prelude.{ℤ, List, map, Option}
use Rattle.mc_typed.specs.declared.plans.Ending.{Ending}
use Rattle.mc_typed.specs.Plans.{Plan}
use Rattle.mc_steps.specs.Tests.{CallDone}
use Rattle.mc_meaning.specs.Tests.{state_of}
use Rattle.mc_probe.specs.Tests.{run_of}
use Rattle.mc_probe.specs.Tree.{Tree}
use Rattle.interp_trail.specs.declared.layout.Layout.{Layout}
use Rattle.interp_trail.specs.declared.stop.Stop.{Stop}
use Rattle.interp_trail.specs.Layouts.{after_bits}
use Rattle.interp_trail.specs.Stops.{stop_of}
use Rattle.interp_trail.specs.Traced.{Traced}
use Rattle.interp_trail.specs.Trails.{none_open}

-- of a run that ended so, with these calls that returned, this output and this stop
abbrev pub traced_from : Plan → Ending → List CallDone → List ℤ → Option Stop → Traced
traced_from plan ending done output stop = record {
  ending = ending;
  done = done;
  output = output;
  state = state_of plan.calls ending done output;
  stop = stop;
}

-- of the run of a test on a tree with this layout of its bits
abbrev pub traced_by : Layout → Tree → Plan → Traced
traced_by layout tree plan =
    let r = run_of tree plan in
    traced_from plan r.ending r.done r.state.output
    (stop_of r.ending (after_bits layout r.events none_open))

-- of each test
abbrev pub all_traced : Layout → Tree → List Plan → List Traced
all_traced layout tree plans = map (traced_by layout tree) plans
