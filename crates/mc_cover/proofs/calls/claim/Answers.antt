use Rattle.std.proofs.Common.{◌+◌, ◌^◌, ◌%◌, sym, ap, ◌∙◌, subst, arith}
use mathlib.Core.Option.{none}
use Rattle.atomic_table.specs.Table.{step, Allows}
use Rattle.mc_core.specs.declared.shape.Shape.{Shape}
use Rattle.mc_cover.specs.Rule.{IsKept}
use Rattle.mc_cover.specs.Tells.{claim_is}
use Rattle.mc_cover.specs.Model.{CoverView, PassView}
use Rattle.mc_cover.proofs.Claims.{claims}
use Rattle.mc_cover.proofs.calls.claim.Goals as goal

pub fetch_add-drawn-requires : goal.fetch_add-drawn-requires
fetch_add-drawn-requires c =
    let k = c.cover.inside.shape in
    let z = c.cover.inside.table.shared.table_id in
    let p = c.pass.inside.seat in
    let sized = c.cover.invariant.words in
    let s = c.pass.view_is in
    let shape = ap (λ (x : PassView). x.view.shape) s ∙ c.requires.own.1 ∙ sym (ap (λ (x : CoverView). x.shape) c.cover.view_is) in (
      ap (λ (x : PassView). x.cover) s ∙ c.requires.own.0 ∙ sym (ap (λ (x : CoverView). x.cover) c.cover.view_is),
      omega arith,
      subst (λ (key : Shape). Allows (IsKept key) z.slots p.id p.me 0 (λ m. (m + 1) % 2 ^ 64) (claim_is (step z.slots 0 1 0 none) p.me)) (sym c.cover.invariant.keyed)
          (claims k z.slots p.id p.me (omega arith) (ap (λ (x : PassView). x.view.role) s ∙ c.requires.worker) (ap (λ (x : PassView). x.view.over) s ∙ c.requires.running) shape),
    )
