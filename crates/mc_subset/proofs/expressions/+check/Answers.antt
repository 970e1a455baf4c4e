-- Expressions with several parts: the first node outside of the one and of the rest.
use Rattle.std.proofs.Common.{arith, rules}
use Rattle.mc_subset.specs.Forms.{form_of}
use Rattle.mc_subset.proofs.Order.{first_of_both, first_of_expression, lists}
use Rattle.mc_subset.proofs.Trees.{expression_of-Cast, expressions, declarations, lengths}
use Rattle.mc_subset.proofs.expressions.+check.Goals as goal

-- its tree has a `Vec` beside another part
pub parts_of_expression-returns-in-Cast : goal.parts_of_expression-returns-in-Cast
parts_of_expression-returns-in-Cast t c =
    let w = c.in-Cast in
    rw (w.is, expression_of-Cast w.words w.stars w.type_span w.operand w.span, first_of_both, ← c.deref-in-Cast.ensures.value) (search rules)

pub parts_of_expression-returns-in-Index : goal.parts_of_expression-returns-in-Index
parts_of_expression-returns-in-Index t c = grind (arith, expressions)

pub parts_of_expression-returns-in-Binary : goal.parts_of_expression-returns-in-Binary
parts_of_expression-returns-in-Binary t c = grind (arith, expressions)

pub parts_of_expression-returns-in-Conditional : goal.parts_of_expression-returns-in-Conditional
parts_of_expression-returns-in-Conditional t c = grind (arith, expressions)

pub parts_of_expression-returns-in-Assignment : goal.parts_of_expression-returns-in-Assignment
parts_of_expression-returns-in-Assignment t c = grind (arith, expressions)

pub expression-returns : goal.expression-returns
expression-returns t c = grind (arith, first_of_expression)

-- the loops
pub declarators-loop-tree-preserved : goal.declarators-loop-tree-preserved
declarators-loop-tree-preserved t c = grind (arith, lists)

pub enumerators-loop-tree-preserved : goal.enumerators-loop-tree-preserved
enumerators-loop-tree-preserved t c = grind (arith, lists)

pub expressions-loop-tree-preserved : goal.expressions-loop-tree-preserved
expressions-loop-tree-preserved t c = grind (arith, lists)

pub lengths-loop-tree-preserved : goal.lengths-loop-tree-preserved
lengths-loop-tree-preserved t c = grind (arith, lists)

pub members-loop-tree-preserved : goal.members-loop-tree-preserved
members-loop-tree-preserved t c = grind (arith, lists)

pub parameters-loop-tree-preserved : goal.parameters-loop-tree-preserved
parameters-loop-tree-preserved t c = grind (arith, lists)

pub specifiers-loop-tree-preserved : goal.specifiers-loop-tree-preserved
specifiers-loop-tree-preserved t c = grind (arith, lists)

pub declarators-returns-in-Some : goal.declarators-returns-in-Some
declarators-returns-in-Some t c = grind (arith, lists)

pub enumerators-returns-in-Some : goal.enumerators-returns-in-Some
enumerators-returns-in-Some t c = grind (arith, lists)

pub expressions-returns-in-Some : goal.expressions-returns-in-Some
expressions-returns-in-Some t c = grind (arith, lists)

pub lengths-returns-in-Some : goal.lengths-returns-in-Some
lengths-returns-in-Some t c = grind (arith, lists)

pub members-returns-in-Some : goal.members-returns-in-Some
members-returns-in-Some t c = grind (arith, lists)

pub parameters-returns-in-Some : goal.parameters-returns-in-Some
parameters-returns-in-Some t c = grind (arith, lists)

pub specifiers-returns-in-Some : goal.specifiers-returns-in-Some
specifiers-returns-in-Some t c = grind (arith, lists)

-- other nodes: the form of the node, and the first node outside in its parts
pub type_name-returns : goal.type_name-returns
unfolding form_of
type_name-returns t c = grind (arith, first_of_both)

pub member-returns : goal.member-returns
unfolding form_of
member-returns t c = grind (arith, declarations)

pub parameter-returns : goal.parameter-returns
unfolding form_of
parameter-returns t c = grind (arith, declarations)

pub length-returns-in-Given : goal.length-returns-in-Given
length-returns-in-Given t c = grind (arith, lengths)
