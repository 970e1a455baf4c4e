use Rattle.serde_json.specs.Data.{null}
use Rattle.mc_report.specs.Json.{by_data}
use Rattle.mc_report.proofs.Members.{array_of_one}
use Rattle.mc_report.proofs.json_form.obligations.push_one.Goals as goal

pub returns : goal.returns
returns c =
    array_of_one c.args.line.now.items c.push.new.self.items c.push_test.new.line.items c.push-2.new.self.items (by_data c.args.name.now null)
    c.in_ok-push.ensures.items
    c.in_ok-push_test.ensures
    c.in_ok-push-2.ensures.items
