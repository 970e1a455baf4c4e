use Rattle.std.proofs.Common.{◌∙◌}
use Rattle.mc_station.proofs.Instrumenting.{plans_fit, shape_is}
use Rattle.mc_station.proofs.Recorded.{closed, run_gathered}
use Rattle.mc_station.proofs.ran.run_all.Goals as goal

pub run_tests-requires-clause-shape : goal.run_tests-requires-clause-shape
run_tests-requires-clause-shape g c κs within =
    c.requires.opened.shape ∙ shape_is c.args.accepted.now c.args.plans.now c.requires.instrumented c.requires.planned

pub run_tests-requires-clause-fit : goal.run_tests-requires-clause-fit
run_tests-requires-clause-fit g c κs within = plans_fit c.args.accepted.now c.args.plans.now c.requires.instrumented c.requires.planned

pub returns-in-Ok : goal.returns-in-Ok
returns-in-Ok g c =
    let a = c.args.accepted.now in
    let plans = c.args.plans.now in
    let skipped = g.C.Closer.skipped c.args.means.closer.now in
    let made = c.close-matrix.result in
    let closing = c.close-matrix.ensures in
    let ran = c.gathered.ensures in
    let recorded =
    closed skipped a plans c.args.opened c.in-Ok.pass made c.requires.instrumented c.requires.planned c.requires.opened c.in-Ok.ensures.pass closing.shape closing.pairs in
    run_gathered skipped a plans made c.in-Ok.results c.gathered.result c.requires.instrumented c.requires.planned recorded c.in-Ok.ensures.results ran.matrix ran.results ran.names ran.states
