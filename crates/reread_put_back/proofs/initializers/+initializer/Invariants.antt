-- What is copied, with what is still to come, is the whole.
use Rattle.mc_typed.specs.Views as plain
use Rattle.mc_probe.specs.Views as probed
use Rattle.reread_put_back.specs.Back.{back_initializer}
use Rattle.reread_put_back.specs.steps.Views.{pen_of}
use Rattle.reread_put_back.proofs.Lists.{Left}
use Rattle.reread_put_back.proofs.initializers.+initializer.Given as goal

abbrev pub invariant-initializers-loop-tree : goal.invariant-initializers-loop-tree
invariant-initializers-loop-tree l =
    Left (back_initializer l.walk.registers) plain.initializer_of probed.initializer_of l.copies.items (pen_of l.pen) l.trees l.tree-index (pen_of l.fn.pen)
