use Rattle.std.proofs.Common.{◌≤◌, ◌∙◌, ℕ, List, length, subst, sym}
use Rattle.mc_limits.specs.Limits.{most_source_bytes}
use Rattle.mc_station.specs.Seen.{seen_accepted}
use Rattle.mc_station.proofs.Loading.{loads_not, loads_on}
use Rattle.mc_station.proofs.Short.{source_short}
use Rattle.mc_station.proofs.commands.selfload.selfload.Goals as goal

pub judge_source-requires : goal.judge_source-requires
judge_source-requires g c =
    subst (λ (text : List ℕ). length text ≤ most_source_bytes) (sym (c.deref.ensures.value ∙ c.in_ok-source.ensures.source)) (source_short c.args.load.count c.requires.count.1)

pub returns-in-Ok : goal.returns-in-Ok
returns-in-Ok g c =
    let skipped = g.C.Closer.skipped c.args.means.closer.now in
    loads_on skipped c.args.load.count c.deref.result.now c.deref-in-Ok.result.now (seen_accepted c.in-Ok.accepted) c.loaded.result
    (c.deref.ensures.value ∙ c.in_ok-source.ensures.source)
    (c.deref-in-Ok.ensures.value ∙ c.in_ok-source.ensures.tests)
    c.in-Ok.ensures.judges c.loaded.ensures

pub returns : goal.returns
returns g c =
    let skipped = g.C.Closer.skipped c.args.means.closer.now in
    loads_not skipped c.args.load.count c.deref.result.now c.in-Err.stop c.of_stop.result
    (c.deref.ensures.value ∙ c.in_ok-source.ensures.source) c.in-Err.ensures.judges c.of_stop.ensures
