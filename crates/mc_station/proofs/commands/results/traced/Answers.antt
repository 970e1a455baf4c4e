use Rattle.std.proofs.Common.{◌∙◌, ap, map}
use Rattle.interp_trail.specs.Seen.{trace_of}
use Rattle.mc_probe.specs.BitMaps.{map_of}
use Rattle.mc_probe.specs.Trees.{tree_of}
use Rattle.mc_results.proofs.Plain.{traces_are_plain}
use Rattle.mc_runner.proofs.Standing.{events_are_of}
use Rattle.mc_tests.specs.Seen.{seen_plans}
use Rattle.mc_typed.specs.Views.{program_of}
use Rattle.mc_station.proofs.Instrumenting.{plans_fit, ready}
use Rattle.mc_station.proofs.commands.results.traced.Goals as goal

pub trace_tests-requires-clause-fit : goal.trace_tests-requires-clause-fit
trace_tests-requires-clause-fit g c κs within = plans_fit c.args.accepted.now c.args.plans.now c.requires.instrumented c.requires.planned

pub told-requires-clause-traces : goal.told-requires-clause-traces
told-requires-clause-traces g c =
    let a = c.args.accepted.now in
    let p = program_of a.tree.program in
    let is = c.requires.instrumented in
    ap (map trace_of) c.deref.ensures.value ∙ c.in_ok-traces.ensures
    ∙ traces_are_plain p (map_of a.map) (tree_of a.tree) (seen_plans c.args.plans.now) is.sound is.tree (ready a c.args.plans.now is c.requires.planned).fit (λ plan. events_are_of p (map_of a.map) is.tree.is_map is.sound plan)
