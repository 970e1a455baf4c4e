use Rattle.std.proofs.Common.{◌+◌, ◌∙◌, arith, refl}
use Rattle.mc_gen.specs.Tests.{test_line}
use Rattle.mc_gen.proofs.Turns.{one_more_line}
use Rattle.mc_gen.proofs.test_lines.push_tests.Goals as goal

pub loop-test-preserved : goal.loop-test-preserved
loop-test-preserved c =
    let j = c.loop-test.test in
    one_more_line (test_line c.args.function) 0 j j (j + 1) c.args.text.now.items c.loop-test.text.items c.as_bytes.result.now c.extend_from_slice.new.self.items (omega arith) refl c.loop-test.invariant (c.as_bytes.ensures.value ∙ c.in_ok-line.ensures) c.in_ok-extend_from_slice.ensures.items
