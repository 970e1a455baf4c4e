use Rattle.std.proofs.Common.{◌<◌, length, ap, arith, rules}
use Rattle.mc_list.proofs.Splitting.{placed_line}
use Rattle.mc_list.proofs.line.LinesIterator.next.Goals as goal

pub returns-clause-steps : goal.returns-clause-steps
returns-clause-steps c =
    let left = c.args.self.now in
    let some : 0 < length left.left.now = search rules in
    let split = c.split_line in
    placed_line left.number left.start left.left.now split.result.0.now split.result.1.now some split.ensures.line split.ensures.later

pub returns-clause-goes : goal.returns-clause-goes
returns-clause-goes c =
    let left = c.args.self.now in
    let some : 0 < length left.left.now = search rules in
    let split = c.split_line in
    let shorter = ap length (placed_line left.number left.start left.left.now split.result.0.now split.result.1.now some split.ensures.line split.ensures.later) in
    search (rules, arith)
