use Rattle.std.proofs.Common.{◌≡◌, ◌++◌, None, refl}
use Rattle.mc_record.specs.Merged.{same_test}
use Rattle.mc_record.specs.Seen.{kept_of}
use Rattle.mc_record.proofs.Merging.{merged_kept}
use Rattle.mc_record.proofs.joined.merge_records.Goals as goal

pub returns-clause-kept : goal.returns-clause-kept
returns-clause-kept c =
    let left = c.args.left.now in
    let right = c.args.right.now in
    let none : same_test left.names.items right.names.items ≡ None = cc (c.in_ok-left.ensures, c.in_default.is, c.deref.ensures.value, c.deref-2.ensures.value) in
    let names : c.in_ok-names.names.items ≡ left.names.items ++ right.names.items = cc (c.in_ok-names.ensures, c.deref-3.ensures.value, c.deref-4.ensures.value) in
    let states : c.in_ok-states.states.items ≡ left.states.items ++ right.states.items = cc (c.in_ok-states.ensures, c.deref-5.ensures.value, c.deref-6.ensures.value) in
    merged_kept (kept_of left) (kept_of right) _ c.requires.left c.requires.right none c.in_ok-matrix.ensures.fits record {
      digest = refl;
      names = names;
      states = states;
      shape = c.in_ok-matrix.ensures.shape;
      pairs = c.in_ok-matrix.ensures.pairs;
    }
