use Rattle.std.proofs.Common.{◌<◌, sym, ap, ◌∙◌, subst, arith}
use Rattle.atomic_table.specs.Table.{Splits}
use Rattle.mc_limits.specs.Limits.{most_workers}
use Rattle.mc_core.specs.declared.shape.Shape.{Shape}
use Rattle.mc_cover.specs.Rule.{IsKept}
use Rattle.mc_cover.specs.Views.{after_fork, worker}
use Rattle.mc_cover.specs.Model.{CoverView, PassView}
use Rattle.mc_cover.proofs.Joins.{forks}
use Rattle.mc_cover.proofs.calls.fork.Goals as goal

pub split_seat-requires : goal.split_seat-requires
split_seat-requires c =
    let k = c.cover.inside.shape in
    let p = c.pass.inside.seat in
    let sized = c.cover.invariant.words in
    let s = c.pass.view_is in (
      ap (λ (x : PassView). x.cover) s ∙ c.requires.own ∙ sym (ap (λ (x : CoverView). x.cover) c.cover.view_is),
      omega arith,
      subst (λ (key : Shape). Splits (IsKept key) p.id p.me.0 (after_fork p.me.0) (worker p.me.0)) (sym c.cover.invariant.keyed)
          (forks k p.id p.me.0 (ap (λ (x : PassView). x.view.role) s ∙ c.requires.opener) (subst (λ (x : PassView). x.view.forks < most_workers) (sym s) c.requires.forks)),
    )
