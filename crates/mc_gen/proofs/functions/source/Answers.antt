use Rattle.std.proofs.Common.{◌-◌, ◌+◌, ◌∙◌, [], arith}
use Rattle.mc_gen.specs.Source.{function_line}
use Rattle.mc_gen.proofs.Turns.{one_more_line}
use Rattle.mc_gen.proofs.functions.source.Goals as goal

pub loop-number-preserved : goal.loop-number-preserved
loop-number-preserved c =
    let k = c.loop-number.number in
    one_more_line function_line 1 (k - 1) k (k + 1 - 1) [] c.loop-number.text.items c.as_bytes.result.now c.extend_from_slice.new.self.items (omega arith) (omega arith) c.loop-number.invariant (c.as_bytes.ensures.value ∙ c.in_ok-line.ensures) c.in_ok-extend_from_slice.ensures.items
