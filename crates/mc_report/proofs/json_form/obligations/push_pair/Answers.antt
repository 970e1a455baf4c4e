use Rattle.std.proofs.Common.{map}
use Rattle.std.specs.Prelude.{slice_get}
use Rattle.serde_json.specs.Data.{string}
use Rattle.mc_probe.specs.Mapped.{mapped_of}
use Rattle.mc_report.specs.Json.{by_data}
use Rattle.mc_report.specs.Lines.{name_of, path_vector}
use Rattle.mc_report.proofs.Members.{array_of_two}
use Rattle.mc_report.proofs.json_form.obligations.push_pair.Goals as goal

pub returns : goal.returns
returns c =
    let decision = slice_get (map mapped_of c.args.decisions.now) c.args.pair.d in
    array_of_two c.args.line.now.items c.push.new.self.items c.push_vector.new.line.items c.push-2.new.self.items c.push_vector-2.new.line.items c.push-3.new.self.items
    (by_data (name_of c.args.names.now c.args.pair.first_test) (string (path_vector decision c.args.pair.first)))
    (by_data (name_of c.args.names.now c.args.pair.second_test) (string (path_vector decision c.args.pair.second)))
    c.in_ok-push.ensures.items
    (rw c.name_text-first.ensures at c.in_ok-push_vector.ensures)
    c.in_ok-push-2.ensures.items
    (rw c.name_text-second.ensures at c.in_ok-push_vector-2.ensures)
    c.in_ok-push-3.ensures.items
