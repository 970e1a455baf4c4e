use Rattle.std.proofs.Common.{◌≡◌, ◌++◌, length}
use Rattle.needs_lines.specs.Report.{AreOf}
use Rattle.needs_lines.specs.Seen.{report_of}
use Rattle.needs_lines.proofs.Joined.{asked_bytes}
use Rattle.needs_lines.proofs.lines.push_asked.Given as goal

abbrev pub invariant-loop-obligations : goal.invariant-loop-obligations
invariant-loop-obligations l =
    let r = report_of l.report in
    record {
      same : l.text.items ++ asked_bytes r l.obligations l.asked l.needs ≡ l.fn.text.items ++ asked_bytes r r.obligations r.asked r.needs.each;
      each : AreOf (length r.names) r.decisions l.obligations l.asked l.needs;
    }

abbrev pub decreases-loop-obligations : goal.decreases-loop-obligations
decreases-loop-obligations l = length l.obligations
