use Rattle.std.proofs.Common.{◌<◌, Bool, None, arith, refl, sym, subst}
use Rattle.std.specs.Prelude.{IsTrue, ◌↔◌, slice_index_or}
use Rattle.mc_cond.specs.Tree.{tree_of}
use Rattle.mc_paths.specs.Paths.{IsInUse}
use Rattle.mc_paths.specs.steps.Masked.{IsEntry}
use Rattle.mc_paths.proofs.Masking.{entry_at, entry_used}
use Rattle.mc_paths.proofs.Numbers.{in_use_below}
use Rattle.mc_paths.proofs.numbering.Numbering.in_use.Goals as goal

pub returns-then-path-self : goal.returns-then-path-self
returns-then-path-self c =
    let t = tree_of c.self.inside.tree in
    let lt : c.args.path < c.self.inside.count = grind (arith, c.if-path-self.true) in
    let P : Bool → Type 0 = λ b. IsTrue b ↔ IsInUse t c.args.path in
    let entry : IsEntry t c.args.path (slice_index_or c.as_slice-masks.result.now c.args.path None) = rw c.as_slice-masks.ensures.value (entry_at t c.self.inside.count c.args.path c.self.inside.masks.items (slice_index_or c.self.inside.masks.items c.args.path None) c.self.invariant.words lt refl) in
    rw (← c.self.view_is) (subst P (sym c.is_some.ensures) (entry_used t c.args.path (slice_index_or c.as_slice-masks.result.now c.args.path None) entry))

pub returns-else-path-self : goal.returns-else-path-self
returns-else-path-self c =
    let t = tree_of c.self.inside.tree in
    rw (← c.self.view_is)
    (λ h. cc, λ used. absurd (grind (arith, c.if-path-self.false, in_use_below t c.args.path used, c.self.invariant.total)))
