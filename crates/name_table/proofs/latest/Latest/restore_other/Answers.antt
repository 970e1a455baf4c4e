use Rattle.std.proofs.Common.{◌∙◌, ap, sym, if◌then◌else◌}
use Rattle.std.specs.Str.{bytes_eq}
use Rattle.std.proofs.lemmas.Map.Text.{is_eq-slice_cmp}
use Rattle.name_table.specs.Latest.{other_of}
use Rattle.name_table.proofs.latest.Latest.restore_other.Goals as goal

pub returns-in-Ok-clause-others : goal.returns-in-Ok-clause-others
returns-in-Ok-clause-others c = λ q.
    rw (is_eq-slice_cmp c.args.name.now q) at (c.in-Ok.ensures.updates.0 (record { ref_ptr = (0, 0); now = q }))
    ∙ ap (λ o. if bytes_eq c.args.name.now q then o else other_of c.args.self.now q) (sym c.in-Some.is)

pub returns-in-None-clause-others : goal.returns-in-None-clause-others
returns-in-None-clause-others c = λ q.
    rw (is_eq-slice_cmp c.args.name.now q) at (c.remove.ensures.updates.0 (record { ref_ptr = (0, 0); now = q }))
    ∙ ap (λ o. if bytes_eq c.args.name.now q then o else other_of c.args.self.now q) (sym c.in-None.is)
