-- The sum so far, with the cells still to come, is the frame.
use Rattle.std.proofs.Common.{◌≡◌, ◌+◌, sum, map, drop}
use Rattle.mc_typed.specs.Tree.{Object}
use Rattle.mc_typed.specs.Frames.{frame_of}
use Rattle.mc_typed.specs.Views.{object_of, function_of}
use Rattle.mc_typed.proofs.frames.frame_cells.Given as goal

abbrev pub invariant-loop-object : goal.invariant-loop-object
invariant-loop-object l = l.total + sum (map (λ (o : Object). o.cells) (map object_of (drop l.object-index l.function.objects.items))) ≡ frame_of (function_of l.function)
