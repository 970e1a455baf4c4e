use Rattle.std.proofs.Common.{◌≡◌, ◌++◌, drop, map}
use Rattle.mc_typed.specs.Views as plain
use Rattle.mc_interp.specs.Frames.{shape_of, taken_of}
use Rattle.mc_interp.specs.Machines.{AreFramed}
use Rattle.mc_interp.proofs.machine.shapes_of.Given as goal

-- the shapes so far, with those that are still to come, are all
abbrev pub invariant-loop-function : goal.invariant-loop-function
invariant-loop-function l =
    (map taken_of l.shapes.items ++ map shape_of (drop l.function-index l.functions) ≡ map shape_of l.functions)
    × AreFramed (map plain.function_of (drop l.function-index l.functions))
