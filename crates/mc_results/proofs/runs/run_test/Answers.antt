use Rattle.std.proofs.Common.{◌≡◌, ◌∙◌, ap, subst}
use Rattle.std.specs.Prelude.{IfOk}
use Rattle.interp_trail.specs.Layouts.{after_bits}
use Rattle.interp_trail.specs.Stops.{stop_of}
use Rattle.interp_trail.specs.Trails.{none_open}
use Rattle.mc_interp.specs.Machines.{Machine}
use Rattle.mc_probe.specs.Tests.{run_of}
use Rattle.mc_probe.specs.Trees.{tree_of}
use Rattle.mc_typed.specs.declared.plans.Ending.{Ending}
use Rattle.mc_typed.specs.Plans.{Plan, plan_of}
use Rattle.interp_trail.specs.Seen.{trace_of}
use Rattle.interp_trail.specs.Traced.{Traced}
use Rattle.mc_results.proofs.Stopped.{same_trace, stop_is}
use Rattle.mc_results.proofs.runs.run_test.Goals as goal

pub returns-clause-told : goal.returns-clause-told
returns-clause-told c =
    let layout = c.args.trail.now.layout in
    let plan : Plan = plan_of c.args.plan.now in
    let r = run_of (tree_of c.args.machine.now.program) plan in
    let m : Machine = c.run-ending.new.self in
    let e : Ending = c.run-ending.result in
    let trail = after_bits layout r.events none_open in
    let ending : e ≡ r.ending = c.run-ending.ensures.ending in
    let stop = stop_is layout r.events e c.start.new.self c.run-ending.new.probe c.in_ok-stop.stop c.start.ensures c.run-ending.ensures.led c.in_ok-stop.ensures in
    let same =
    same_trace plan e r.ending m.done r.done m.output r.state.output c.in_ok-stop.stop (stop_of r.ending trail) ending
    (ap (λ (x : Machine). x.done) c.run-ending.ensures.left) (ap (λ (x : Machine). x.output) c.run-ending.ensures.left)
    (stop ∙ ap (λ (x : Ending). stop_of x trail) ending) in
    subst (λ (x : Traced). IfOk c.told.result (λ t. trace_of t ≡ x)) same c.told.ensures
