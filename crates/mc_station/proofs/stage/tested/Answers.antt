use Rattle.std.proofs.Common.{◌≤◌, subst}
use Rattle.mc_limits.specs.Limits.{most_words}
use Rattle.mc_core.specs.Shape.{word_count}
use Rattle.mc_core.specs.declared.shape.Shape.{Shape}
use Rattle.mc_tests.specs.Seen.{seen_plans}
use Rattle.mc_station.specs.Seen.{seen_accepted}
use Rattle.mc_station.proofs.Recording.{can_be_kept}
use Rattle.mc_station.proofs.Reported.{are_told}
use Rattle.mc_station.proofs.stage.tested.Goals as goal

pub tell-requires-clause-told : goal.tell-requires-clause-told
tell-requires-clause-told g c =
    are_told (g.C.Closer.skipped c.args.means.closer.now) (seen_accepted c.args.accepted) (seen_plans c.args.plans.now) c.in-Ok.ran c.in-Ok.ensures c.requires.planned.named

pub tell-requires-clause-kept : goal.tell-requires-clause-kept
tell-requires-clause-kept g c =
    can_be_kept (g.C.Closer.skipped c.args.means.closer.now) c.args.accepted c.args.plans.now c.in-Ok.ran c.requires.instrumented c.requires.planned
    (subst (λ (s : Shape). word_count s ≤ most_words) c.requires.opened.shape c.requires.opened.small) c.in-Ok.ensures

pub returns-in-Ok : goal.returns-in-Ok
returns-in-Ok g c = c.tell.ensures (g.C.Closer.skipped c.args.means.closer.now) c.in-Ok.ensures
