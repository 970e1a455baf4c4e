use Rattle.std.proofs.Common.{◌-◌, ◌+◌, arith, refl, codes}
use Rattle.mc_gen.specs.Tests.{lines_of}
use Rattle.mc_gen.proofs.Turns.{one_more_line}
use Rattle.mc_gen.proofs.test_lines.tests.Goals as goal

pub loop-function-preserved : goal.loop-function-preserved
loop-function-preserved c =
    let k = c.loop-function.function in
    one_more_line lines_of 1 (k - 1) k (k + 1 - 1) (codes "test,call,arguments,inputs,expect,output\n") c.loop-function.text.items (lines_of k) c.push_tests.new.text.items (omega arith) (omega arith) c.loop-function.invariant refl c.in_ok-push_tests.ensures
