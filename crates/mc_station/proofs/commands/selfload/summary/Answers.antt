use Rattle.std.proofs.Common.{◌≡◌, ◌∙◌, [], subst}
use Rattle.report_options.specs.declared.mode.Mode.TheVariants.{Masking}
use Rattle.mc_core.specs.Matrix.{MatrixView}
use Rattle.mc_oblige.specs.Shown.{HasEvent}
use Rattle.mc_port.specs.Lines.{bytes_of}
use Rattle.mc_report.specs.Seen.{report_of}
use Rattle.mc_report.specs.Summary.{summary_lines}
use Rattle.station_replies.specs.Reply.{written}
use Rattle.mc_station.specs.Ran.{seen_ran}
use Rattle.mc_station.specs.Seen.{seen_accepted}
use Rattle.mc_station.specs.Tests.{Tested}
use Rattle.mc_station.specs.commands.Report.{IsReportOn}
use Rattle.mc_station.proofs.commands.selfload.summary.Goals as goal

pub returns : goal.returns
returns c =
    let a = seen_accepted c.args.accepted in
    let r = report_of c.in_ok-report.report in
    let matrix = c.into_parts-matrix.result.0 in
    let parts = c.into_parts-matrix.ensures in
    let lines : bytes_of c.in_ok-lines.field-0.items ≡ summary_lines c.args.count r = c.in_ok-lines.ensures in
    let on = subst (λ (t : Tested). IsReportOn (HasEvent a.map matrix) Masking a t [] r) parts.tests c.in_ok-report.ensures.made in
    (r, subst (λ (m : MatrixView). IsReportOn (HasEvent a.map m) Masking a (seen_ran c.args.ran) [] r) parts.matrix on, c.of_lines.ensures ∙ (λ i. written 0 (lines i)))
