-- What is copied, with what is still to come, is the whole.
use Rattle.mc_typed.specs.Views as plain
use Rattle.mc_probe.specs.Views as probed
use Rattle.reread_put_back.specs.Back.{back_statement}
use Rattle.reread_put_back.specs.steps.Views.{pen_of}
use Rattle.reread_put_back.proofs.Lists.{Left}
use Rattle.reread_put_back.proofs.statements.+statement.Given as goal

abbrev pub invariant-statements-loop-tree : goal.invariant-statements-loop-tree
invariant-statements-loop-tree l =
    Left (back_statement l.walk.registers) plain.statement_of probed.statement_of l.copies.items (pen_of l.pen) l.trees l.tree-index (pen_of l.fn.pen)
