-- What is copied, with what is still to come, is the whole.
use Rattle.mc_typed.specs.Views as plain
use Rattle.mc_probe.specs.Views as probed
use Rattle.reread_put_back.specs.Back.{back_argument}
use Rattle.reread_put_back.specs.steps.Views.{pen_of}
use Rattle.reread_put_back.proofs.Lists.{Left}
use Rattle.reread_put_back.proofs.expressions.+back.Given as goal

abbrev pub invariant-arguments-loop-tree : goal.invariant-arguments-loop-tree
invariant-arguments-loop-tree l =
    Left (back_argument l.walk.registers) plain.argument_of probed.argument_of l.copies.items (pen_of l.pen) l.trees l.tree-index (pen_of l.fn.pen)
