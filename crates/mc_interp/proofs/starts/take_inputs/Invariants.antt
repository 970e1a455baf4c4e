use Rattle.std.proofs.Common.{◌≡◌, ◌+◌, ◌++◌, drop, length}
use Rattle.mc_interp.proofs.starts.take_inputs.Given as goal

-- the inputs so far stand after the others
abbrev pub invariant-loop-number : goal.invariant-loop-number
invariant-loop-number l =
    (l.inputs.items ++ drop l.number-index l.numbers ≡ l.fn.inputs.items ++ l.numbers)
    × (l.inputs.limit ≡ l.fn.inputs.limit)
    × (length l.inputs.items ≡ length l.fn.inputs.items + l.number-index)
