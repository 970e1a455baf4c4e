use Rattle.std.proofs.Common.{◌<◌, length, ap, arith, rules}
use Rattle.mc_list.proofs.Splitting.{stripped_line}
use Rattle.mc_list.proofs.margins.StripIterator.next.Goals as goal

pub returns-clause-steps : goal.returns-clause-steps
returns-clause-steps c =
    let text = c.args.self.now.left.now in
    let some : 0 < length text = search rules in
    let split = c.split_line in
    stripped_line text split.result.0.now split.result.1.now c.without_margin.result.now some split.ensures.line split.ensures.later c.without_margin.ensures

pub returns-clause-goes : goal.returns-clause-goes
returns-clause-goes c =
    let text = c.args.self.now.left.now in
    let some : 0 < length text = search rules in
    let split = c.split_line in
    let shorter = ap length (stripped_line text split.result.0.now split.result.1.now c.without_margin.result.now some split.ensures.line split.ensures.later c.without_margin.ensures) in
    search (rules, arith)
