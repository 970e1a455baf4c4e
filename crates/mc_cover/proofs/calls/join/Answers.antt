use Rattle.std.proofs.Common.{sym, ap, ◌∙◌, subst, arith}
use mathlib.Core.Option.{none}
use Rattle.atomic_table.specs.Table.{step, Allows, Joins}
use Rattle.mc_core.specs.declared.shape.Shape.{Shape}
use Rattle.mc_cover.specs.Rule.{IsKept}
use Rattle.mc_cover.specs.Views.{after_join, spent}
use Rattle.mc_cover.specs.Tells.{settle_is}
use Rattle.mc_cover.specs.Model.{CoverView, PassView}
use Rattle.mc_cover.proofs.Joins.{joins}
use Rattle.mc_cover.proofs.Ends.{settles}
use Rattle.mc_cover.proofs.calls.join.Goals as goal

pub join_seat-requires : goal.join_seat-requires
join_seat-requires c =
    let k = c.cover.inside.shape in
    let p = c.pass.inside.seat in
    let o = c.other.inside.seat in
    let sized = c.cover.invariant.words in
    let here = sym (ap (λ (x : CoverView). x.cover) c.cover.view_is) in (
      ap (λ (x : PassView). x.cover) c.pass.view_is ∙ c.requires.own.0 ∙ here,
      ap (λ (x : PassView). x.cover) c.other.view_is ∙ c.requires.own.1 ∙ here,
      c.other.invariant.0,
      omega arith,
      subst (λ (key : Shape). Joins (IsKept key) p.id p.me.0 o.id o.me.0 (after_join p.me.0 o.me.0) spent) (sym c.cover.invariant.keyed)
          (joins k p.id p.me.0 o.id o.me.0 (ap (λ (x : PassView). x.view.role) c.pass.view_is ∙ c.requires.opener) (ap (λ (x : PassView). x.view.role) c.other.view_is ∙ c.requires.worker)),
    )

pub load-requires : goal.load-requires
load-requires c =
    let k = c.cover.inside.shape in
    let z = c.cover.inside.table.shared.table_id in
    let p = c.join_seat.new.seat in
    let sized = c.cover.invariant.words in
    let here = sym (ap (λ (x : CoverView). x.cover) c.cover.view_is) in (
      c.join_seat.ensures.0 ∙ (ap (λ (x : PassView). x.cover) c.pass.view_is ∙ c.requires.own.0 ∙ here),
      omega arith,
      subst (λ (key : Shape). Allows (IsKept key) z.slots p.id p.me 0 (λ n. n) (settle_is (step z.slots 0 0 0 none) p.me)) (sym c.cover.invariant.keyed)
          (settles k z.slots p.id p.me),
    )
