use Rattle.std.proofs.Common.{map}
use Rattle.std.specs.Prelude.{slice_get}
use Rattle.mc_probe.specs.Mapped.{mapped_of}
use Rattle.mc_report.proofs.Texts.{path_is_text}
use Rattle.mc_report.proofs.json_form.obligations.push_path.Goals as goal

pub text_of-requires : goal.text_of-requires
text_of-requires c =
    rw (c.as_slice.ensures.value, c.in_ok-vector.ensures) (path_is_text (slice_get (map mapped_of c.args.decisions.now) c.args.d) c.args.path)
