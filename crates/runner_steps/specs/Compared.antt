-- Tests that are compared with what is expected of them, call by call.
use Rattle.std.specs.Prelude.{Bool, ◌&&◌, List, map}
use Rattle.mc_typed.specs.Plans.{plan_call_of}
use Rattle.mc_steps.specs.Tests.{CallDone}
use Rattle.mc_meaning.specs.Tests.{are_met}
use Rattle.runner_steps.specs.declared.comparison.Comparison.{Comparison}

-- Whether each call meets what is expected of it, where these calls returned after those that are
-- compared already.
abbrev pub is_met_with : Comparison → List CallDone → Bool
is_met_with c done =
    c.are_met && are_met (map plan_call_of c.calls.now) done c.begin c.output.now
