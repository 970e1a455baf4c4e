use Rattle.std.proofs.Common.{length}
use Rattle.mc_list.proofs.Marking.{worst_is}
use Rattle.mc_list.proofs.line_mark.line_mark.Goals as goal

pub returns-clause-mark : goal.returns-clause-mark
returns-clause-mark c =
    let line = c.args.line.now in
    let table = c.reach.new.self in
    let reached = c.reach.ensures in
    worst_is table.from c.args.obligations.now c.args.verdicts.now table.marks reached.marks line.start (length line.bytes.now) reached.low reached.high c.worst.result c.worst.ensures
