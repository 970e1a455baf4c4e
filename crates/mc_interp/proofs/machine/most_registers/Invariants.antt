use Rattle.std.proofs.Common.{◌≡◌, drop, map, max}
use Rattle.mc_probe.specs.Views as view
use Rattle.mc_interp.specs.Frames.{most_registers}
use Rattle.mc_interp.proofs.machine.most_registers.Given as goal

-- the most so far, with those that are still to come, is the most of all
abbrev pub invariant-loop-function : goal.invariant-loop-function
invariant-loop-function l =
    max l.most (most_registers (map view.function_of (drop l.function-index l.functions))) ≡ most_registers (map view.function_of l.functions)
