-- Statements with several parts: the first node outside of the one and of the rest.
use Rattle.std.proofs.Common.{arith}
use Rattle.mc_subset.proofs.Order.{first_of_statement, lists}
use Rattle.mc_subset.proofs.Trees.{statements, block_items}
use Rattle.mc_subset.proofs.statements.+check.Goals as goal

pub parts_of_statement-returns-in-If : goal.parts_of_statement-returns-in-If
parts_of_statement-returns-in-If t c = grind (arith, statements)

pub parts_of_statement-returns-in-IfElse : goal.parts_of_statement-returns-in-IfElse
parts_of_statement-returns-in-IfElse t c = grind (arith, statements)

pub parts_of_statement-returns-in-Switch : goal.parts_of_statement-returns-in-Switch
parts_of_statement-returns-in-Switch t c = grind (arith, statements)

pub parts_of_statement-returns-in-While : goal.parts_of_statement-returns-in-While
parts_of_statement-returns-in-While t c = grind (arith, statements)

pub parts_of_statement-returns-in-DoWhile : goal.parts_of_statement-returns-in-DoWhile
parts_of_statement-returns-in-DoWhile t c = grind (arith, statements)

pub parts_of_statement-returns-in-For : goal.parts_of_statement-returns-in-For
parts_of_statement-returns-in-For t c = grind (arith, statements)

pub parts_of_statement-returns-in-Case : goal.parts_of_statement-returns-in-Case
parts_of_statement-returns-in-Case t c = grind (arith, statements)

pub statement-returns : goal.statement-returns
statement-returns t c = grind (arith, first_of_statement)

pub block_item-returns-in-Local : goal.block_item-returns-in-Local
block_item-returns-in-Local t c = grind (arith, block_items)

pub block_item-returns-in-Statement : goal.block_item-returns-in-Statement
block_item-returns-in-Statement t c = grind (arith, block_items)

-- the loop
pub block-loop-tree-preserved : goal.block-loop-tree-preserved
block-loop-tree-preserved t c = grind (arith, lists)

pub block-returns-in-Some : goal.block-returns-in-Some
block-returns-in-Some t c = grind (arith, lists)
