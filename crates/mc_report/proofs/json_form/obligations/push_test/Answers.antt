use Rattle.std.specs.Prelude.{codes}
use Rattle.serde_json.specs.Data.{null, string}
use Rattle.mc_report.proofs.Members.{object_of_two}
use Rattle.mc_report.proofs.json_form.obligations.push_test.Goals as goal

pub returns : goal.returns
returns c =
    object_of_two
    c.args.line.now.items
    c.push.new.self.items
    c.push_string.new.line.items
    c.push_null.new.line.items
    c.push-2.new.self.items
    (codes "test")
    (codes "vector")
    (string c.args.name.now)
    null
    c.in_ok-push.ensures.items
    c.in_ok-push_string.ensures
    c.in_ok-push_null.ensures
    c.in_ok-push-2.ensures.items
