-- What is copied, with what is still to come, is the whole.
use Rattle.mc_typed.specs.Views as plain
use Rattle.mc_probe.specs.Views as probed
use Rattle.reread_put_back.specs.Back.{back_declarator}
use Rattle.reread_put_back.specs.steps.Views.{pen_of}
use Rattle.reread_put_back.proofs.Lists.{Left}
use Rattle.reread_put_back.proofs.initializers.declarators.Given as goal

abbrev pub invariant-loop-tree : goal.invariant-loop-tree
invariant-loop-tree l =
    Left (back_declarator l.walk.registers) plain.declarator_of probed.declarator_of l.copies.items (pen_of l.pen) l.trees l.tree-index (pen_of l.fn.pen)
