use Rattle.std.proofs.Common.{length, ap}
use Rattle.mc_report.specs.Counts.{count_lines}
use Rattle.mc_report.specs.Lines.{test_lines, verdict_lines}
use Rattle.mc_report.specs.Seen.{bytes_of, report_of}
use Rattle.mc_report.specs.Status.{status_of}
use Rattle.mc_report.specs.Text.{digest_line, mode_line, status_line}
use Rattle.mc_report.proofs.Turns.{judged_length, whole_text}
use Rattle.mc_report.proofs.text.report_lines.Goals as goal

pub push_counts-requires : goal.push_counts-requires
push_counts-requires c =
    let r = report_of c.args.report.now in
    judged_length (length r.names) r.decisions r.obligations r.verdicts c.requires.judged

pub returns : goal.returns
returns c =
    let r = report_of c.args.report.now in
    whole_text
    (bytes_of c.new-lines.result.items)
    (bytes_of c.push_mode.new.lines.items)
    (bytes_of c.push_digest.new.lines.items)
    (bytes_of c.push_tests.new.lines.items)
    (bytes_of c.push_verdicts.new.lines.items)
    (bytes_of c.push_counts.new.lines.items)
    (bytes_of c.push_status.new.lines.items)
    (mode_line r.mode)
    (digest_line r.digest)
    (test_lines r.names r.states r.results)
    (verdict_lines r r.obligations r.verdicts)
    (count_lines r.obligations r.verdicts)
    (status_line (status_of r))
    (ap bytes_of c.new-lines.ensures.items)
    c.in_ok-push_mode.ensures
    c.in_ok-push_digest.ensures
    c.in_ok-push_tests.ensures
    c.in_ok-push_verdicts.ensures
    c.in_ok-push_counts.ensures
    c.in_ok-push_status.ensures
