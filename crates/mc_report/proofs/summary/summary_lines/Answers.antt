use Rattle.std.proofs.Common.{length, ap}
use Rattle.mc_report.specs.Counts.{count_lines}
use Rattle.mc_report.specs.Seen.{bytes_of, report_of}
use Rattle.mc_report.specs.Status.{status_of}
use Rattle.mc_report.specs.Summary.{load_line, passed_line}
use Rattle.mc_report.specs.Text.{status_line}
use Rattle.mc_report.proofs.Turns.{judged_length, summed}
use Rattle.mc_report.proofs.summary.summary_lines.Goals as goal

pub push_counts-requires : goal.push_counts-requires
push_counts-requires c =
    let r = report_of c.args.report.now in
    judged_length (length r.names) r.decisions r.obligations r.verdicts c.requires.judged

pub returns : goal.returns
returns c =
    let r = report_of c.args.report.now in
    summed
    (bytes_of c.new-lines.result.items)
    (bytes_of c.push_load.new.lines.items)
    (bytes_of c.push_passed.new.lines.items)
    (bytes_of c.push_counts.new.lines.items)
    (bytes_of c.push_status.new.lines.items)
    (load_line c.args.functions)
    (passed_line r.states)
    (count_lines r.obligations r.verdicts)
    (status_line (status_of r))
    (ap bytes_of c.new-lines.ensures.items)
    c.in_ok-push_load.ensures
    c.in_ok-push_passed.ensures
    c.in_ok-push_counts.ensures
    c.in_ok-push_status.ensures
