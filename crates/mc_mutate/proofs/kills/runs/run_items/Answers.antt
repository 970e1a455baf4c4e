use Rattle.std.proofs.Common.{◌∙◌, ap, sym}
use Rattle.mc_cover.specs.Model.{CoverView}
use Rattle.mc_mutate.specs.Runs.{worker_does}
use Rattle.mc_mutate.proofs.Worked.{none_drawn}
use Rattle.mc_mutate.proofs.kills.runs.run_items.Goals as goal

pub returns-clause-come : goal.returns-clause-come
returns-clause-come g c =
    let inv = c.loop-next.invariant in
    none_drawn (worker_does c.args.task.now) c.loop-next.recorder c.claim.new.self inv.at_work (inv.shape ∙ ap (λ (x : CoverView). x.shape) (sym inv.cover)) c.in_default.ensures.none
