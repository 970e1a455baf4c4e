use Rattle.std.proofs.lemmas.Result.{on_ok_weaker}
use Rattle.serde_json.specs.View.{items_of}
use Rattle.mc_report.specs.Json.{obligations_data}
use Rattle.mc_report.specs.Seen.{report_of}
use Rattle.mc_report.proofs.Members.{array_is}
use Rattle.mc_report.proofs.json_form.obligations.push_obligations.Goals as goal

pub returns : goal.returns
returns c =
    let r = report_of c.args.report.now in
    on_ok_weaker c.push_all.result
    (array_is c.args.line.now.items c.push.new.self.items c.push_all.new.line.items (items_of (obligations_data r r.obligations r.verdicts)) c.in_ok-push.ensures.items)
    c.push_all.ensures
