use Rattle.std.proofs.Common.{arith}
use Rattle.mutate_lines.proofs.Told.{all_told}
use Rattle.mutate_lines.proofs.sums.sum_line.Goals as goal

pub overflow_sub-killed : goal.overflow_sub-killed
overflow_sub-killed c =
    let told = all_told c.args.killers.now in
    let same = c.survived-survived.ensures in
    omega (arith, told, same)
