use Rattle.std.proofs.Common.{None, arith, refl}
use Rattle.std.specs.Prelude.{slice_index_or}
use Rattle.mc_cond.specs.Tree.{tree_of}
use Rattle.mc_paths.specs.Paths.{IsInUse}
use Rattle.mc_paths.specs.steps.Masked.{IsEntry}
use Rattle.mc_paths.proofs.Masking.{entry_at, entry_some, entry_words}
use Rattle.mc_paths.proofs.Numbers.{in_use_below}
use Rattle.mc_paths.proofs.numbering.Numbering.masks.Goals as goal

pub bounds-masks-path : goal.bounds-masks-path
bounds-masks-path c =
    let t = tree_of c.self.inside.tree in
    let used : IsInUse t c.args.path = rw (← c.self.view_is) at c.requires in
    rw c.as_slice-masks.ensures.value (omega (arith, in_use_below t c.args.path used, c.self.invariant.total, c.self.invariant.words.many))

pub unwrap-requires : goal.unwrap-requires
unwrap-requires c =
    let t = tree_of c.self.inside.tree in
    let used : IsInUse t c.args.path = rw (← c.self.view_is) at c.requires in
    let entry : IsEntry t c.args.path (slice_index_or c.as_slice-masks.result.now c.args.path None) = rw c.as_slice-masks.ensures.value (entry_at t c.self.inside.count c.args.path c.self.inside.masks.items (slice_index_or c.self.inside.masks.items c.args.path None) c.self.invariant.words (omega (arith, in_use_below t c.args.path used, c.self.invariant.total)) refl) in
    entry_some t c.args.path (slice_index_or c.as_slice-masks.result.now c.args.path None) entry used

pub returns : goal.returns
returns c =
    let t = tree_of c.self.inside.tree in
    let used : IsInUse t c.args.path = rw (← c.self.view_is) at c.requires in
    let entry : IsEntry t c.args.path (slice_index_or c.as_slice-masks.result.now c.args.path None) = rw c.as_slice-masks.ensures.value (entry_at t c.self.inside.count c.args.path c.self.inside.masks.items (slice_index_or c.self.inside.masks.items c.args.path None) c.self.invariant.words (omega (arith, in_use_below t c.args.path used, c.self.invariant.total)) refl) in
    rw (← c.self.view_is) (entry_words t c.args.path (slice_index_or c.as_slice-masks.result.now c.args.path None) c.unwrap.result entry c.unwrap.ensures)
