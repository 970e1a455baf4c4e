use Rattle.std.proofs.Common.{◌<◌, length, arith}
use Rattle.needs_lines.specs.Seen.{report_of}
use Rattle.needs_lines.proofs.Joined.{asked_done}
use Rattle.needs_lines.proofs.lines.push_asked.Goals as goal

pub returns : goal.returns
returns c =
    let r = report_of c.args.report.now in
    let loop = c.loop-obligations in
    let below = c.in_default.len_below in
    let none : length loop.obligations.now < 1 = omega (arith, below) in
    asked_done r loop.obligations.now r.obligations loop.asked.now r.asked loop.needs.now r.needs.each loop.text.items c.args.text.now.items none loop.invariant.same
