use Rattle.std.proofs.Common.{◌≡◌, ◌++◌, false, length}
use Rattle.serde_json.specs.View.{items_of}
use Rattle.serde_json.specs.Written.{items_text}
use Rattle.mc_report.specs.Json.{obligations_data}
use Rattle.mc_report.specs.Report.{AreJudged}
use Rattle.mc_report.specs.Seen.{report_of}
use Rattle.mc_report.proofs.json_form.obligations.push_all.Given as goal

abbrev pub invariant-loop-obligations : goal.invariant-loop-obligations
invariant-loop-obligations l = record {
  same : l.line.items ++ items_text l.later (items_of (obligations_data (report_of l.report) l.obligations l.verdicts)) ≡ l.initial.line.items ++ items_text false (items_of (obligations_data (report_of l.report) (report_of l.report).obligations (report_of l.report).verdicts));
  judged : AreJudged (length (report_of l.report).names) (report_of l.report).decisions l.obligations l.verdicts;
}

abbrev pub decreases-loop-obligations : goal.decreases-loop-obligations
decreases-loop-obligations l = length l.obligations
