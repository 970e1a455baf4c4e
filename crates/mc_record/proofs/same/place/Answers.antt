use Rattle.std.proofs.lemmas.Map.Text.{is_eq-slice_cmp}
use Rattle.mc_record.proofs.same.place.Goals as goal

pub returns : goal.returns
returns c = λ q. rw (is_eq-slice_cmp c.args.name.now q) at (c.in_ok-insert.ensures.updates.0 (record { ref_ptr = (0, 0); now = q }))
