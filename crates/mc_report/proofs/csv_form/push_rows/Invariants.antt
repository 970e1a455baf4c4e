use Rattle.std.proofs.Common.{◌≡◌, ◌++◌, length}
use Rattle.mc_report.specs.Csv.{csv_rows}
use Rattle.mc_report.specs.Report.{AreJudged}
use Rattle.mc_report.specs.Seen.{bytes_of, report_of}
use Rattle.mc_report.proofs.csv_form.push_rows.Given as goal

abbrev pub invariant-loop-obligations : goal.invariant-loop-obligations
invariant-loop-obligations l = record {
  same : bytes_of l.lines.items ++ csv_rows (report_of l.report) l.obligations l.verdicts ≡ bytes_of l.initial.lines.items ++ csv_rows (report_of l.report) (report_of l.report).obligations (report_of l.report).verdicts;
  judged : AreJudged (length (report_of l.report).names) (report_of l.report).decisions l.obligations l.verdicts;
}

abbrev pub decreases-loop-obligations : goal.decreases-loop-obligations
decreases-loop-obligations l = length l.obligations
