use Rattle.std.proofs.lemmas.Result.{on_ok_weaker}
use Rattle.mc_report.specs.Counts.{count_line}
use Rattle.mc_report.specs.Seen.{bytes_of, report_of}
use Rattle.mc_report.specs.declared.kind.Kind.TheVariants.{Entries, Exits, Statements, Labels, Outcomes, Conditions}
use Rattle.mc_report.proofs.Turns.{six_lines}
use Rattle.mc_report.proofs.counts.push_counts.Goals as goal

pub returns : goal.returns
returns c =
    let r = report_of c.args.report.now in
    on_ok_weaker c.push_count-6.result
    (six_lines
    (bytes_of c.args.lines.now.items)
    (bytes_of c.push_count.new.lines.items)
    (bytes_of c.push_count-2.new.lines.items)
    (bytes_of c.push_count-3.new.lines.items)
    (bytes_of c.push_count-4.new.lines.items)
    (bytes_of c.push_count-5.new.lines.items)
    (bytes_of c.push_count-6.new.lines.items)
    (count_line Entries r.obligations r.verdicts)
    (count_line Exits r.obligations r.verdicts)
    (count_line Statements r.obligations r.verdicts)
    (count_line Labels r.obligations r.verdicts)
    (count_line Outcomes r.obligations r.verdicts)
    (count_line Conditions r.obligations r.verdicts)
    c.in_ok-push_count.ensures
    c.in_ok-push_count-2.ensures
    c.in_ok-push_count-3.ensures
    c.in_ok-push_count-4.ensures
    c.in_ok-push_count-5.ensures)
    c.push_count-6.ensures
