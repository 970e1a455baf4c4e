use Rattle.std.proofs.Common.{map}
use Rattle.std.specs.Prelude.{codes, slice_get}
use Rattle.serde_json.specs.Data.{string}
use Rattle.mc_probe.specs.Mapped.{mapped_of}
use Rattle.mc_report.specs.Lines.{path_vector}
use Rattle.mc_report.proofs.Members.{object_of_two}
use Rattle.mc_report.proofs.json_form.obligations.push_vector.Goals as goal

pub returns : goal.returns
returns c =
    object_of_two
    c.args.line.now.items
    c.push.new.self.items
    c.push_string.new.line.items
    c.push_path.new.line.items
    c.push-2.new.self.items
    (codes "test")
    (codes "vector")
    (string c.args.name.now)
    (string (path_vector (slice_get (map mapped_of c.args.decisions.now) c.args.d) c.args.path))
    c.in_ok-push.ensures.items
    c.in_ok-push_string.ensures
    c.in_ok-push_path.ensures
    c.in_ok-push-2.ensures.items
