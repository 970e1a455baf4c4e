-- What is seen so far, with what is still to come, is as high as the whole list.
use Rattle.std.proofs.Common.{◌≡◌, max, drop, map}
use Rattle.mc_typed.specs.Levels.{height_statements, limited_more}
use Rattle.mc_typed.specs.Views.{statement_of, statements_from}
use Rattle.mc_typed.proofs.heights.statements.+statement.Given as goal

abbrev pub invariant-statements-loop-tree : goal.invariant-statements-loop-tree
invariant-statements-loop-tree l = max l.tallest (height_statements limited_more (statements_from (map statement_of (drop l.tree-index l.trees)))) ≡ height_statements limited_more (statements_from (map statement_of l.trees))
