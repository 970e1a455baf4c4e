use Rattle.std.proofs.Common.{◌∙◌}
use Rattle.mc_station.proofs.Instrumenting.{plans_fit, shape_is}
use Rattle.mc_station.proofs.Watching.{looked, watched_run}
use Rattle.mc_station.proofs.commands.watch.run_watched.Goals as goal

pub watch_tests-requires-clause-shape : goal.watch_tests-requires-clause-shape
watch_tests-requires-clause-shape g c κs within =
    c.requires.opened.shape ∙ shape_is c.args.accepted.now c.args.plans.now c.requires.instrumented c.requires.planned

pub watch_tests-requires-clause-fit : goal.watch_tests-requires-clause-fit
watch_tests-requires-clause-fit g c κs within = plans_fit c.args.accepted.now c.args.plans.now c.requires.instrumented c.requires.planned

pub returns-in_ok-ran-in-Ok-clause-run : goal.returns-in_ok-ran-in-Ok-clause-run
returns-in_ok-ran-in-Ok-clause-run g c =
    let made = c.close-matrix.result in
    let closing = c.close-matrix.ensures in
    let ran = c.in_ok-ran-in-Ok.ensures in
    watched_run c.args.accepted.now c.args.plans.now c.args.opened c.in-Ok.pass made c.in_ok-ran-in-Ok.ran closing.shape closing.pairs ran.matrix c.in-Ok.results c.requires.instrumented c.requires.planned c.requires.opened
    c.in-Ok.ensures.pass c.in-Ok.ensures.results ran.results ran.names ran.states

pub returns-in_ok-ran-in-Ok-clause-looked : goal.returns-in_ok-ran-in-Ok-clause-looked
returns-in_ok-ran-in-Ok-clause-looked g c =
    let made = c.close-matrix.result in
    let closing = c.close-matrix.ensures in
    looked c.args.accepted.now c.args.plans.now c.args.opened c.in-Ok.pass made c.in_ok-ran-in-Ok.ran closing.shape closing.pairs c.in_ok-ran-in-Ok.ensures.matrix c.args.opened.cover.shape c.args.looks c.in-Ok.counts.items
    c.in-Ok.ensures.watched
