use Rattle.mc_tests.specs.Seen.{seen_plans}
use Rattle.mc_station.specs.Seen.{seen_accepted}
use Rattle.mc_station.proofs.Reported.{are_told, run_sums}
use Rattle.mc_station.proofs.commands.selfload.opened.Goals as goal

pub summary-requires-clause-told : goal.summary-requires-clause-told
summary-requires-clause-told g c =
    are_told (g.C.Closer.skipped c.args.means.closer.now) (seen_accepted c.args.accepted) (seen_plans c.args.plans.now) c.in-Ok.ran c.in-Ok.ensures c.requires.planned.named

pub returns-in-Ok : goal.returns-in-Ok
returns-in-Ok g c =
    run_sums (g.C.Closer.skipped c.args.means.closer.now) (seen_accepted c.args.accepted) (seen_plans c.args.plans.now) c.in-Ok.ran c.in-Ok.ensures c.args.load.count c.summary.result c.summary.ensures
