use Rattle.std.proofs.Common.{◌≡◌, ◌+◌, length, rules, arith}
use Rattle.mutate_lines.specs.Killers.{IsRecorded}
use Rattle.mutate_lines.proofs.Least.{one_more}
use Rattle.mutate_lines.proofs.search.killers.Goals as goal

pub loop-mutant-preserved : goal.loop-mutant-preserved
loop-mutant-preserved c =
    let m = c.args.matrix.now in
    let tests = c.args.tests in
    let inv = c.loop-mutant.invariant in
    let at : c.loop-mutant.mutant ≡ 0 + length c.loop-mutant.all.items = omega (arith, inv.count) in
    let more = one_more (IsRecorded m tests) tests 0 c.loop-mutant.mutant c.loop-mutant.all.items c.killer.result at inv.each c.killer.ensures in
    rw c.in_ok-push.ensures.items (record { each = more; count = search rules })
