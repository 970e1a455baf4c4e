-- The parts of a tree are smaller than the tree, so that a walk over it ends.
use Rattle.std.proofs.Common.{◌≡◌, ℕ, ◌+◌, ◌*◌, ◌<◌, Option, Box, ap, arith}
use Rattle.std.specs.Global.{Global}
use Rattle.mc_span.specs.declared.span.Span.{Span}
use Rattle.mc_tree.specs.declared.identifier.Identifier.{Identifier}
use Rattle.mc_tree.specs.declared.expressions.assignment_operator.AssignmentOperator.{AssignmentOperator}
use Rattle.mc_tree.specs.declared.expressions.binary_operator.BinaryOperator.{BinaryOperator}
use Rattle.mc_tree.specs.declared.expressions.step_operator.StepOperator.{StepOperator}
use Rattle.mc_tree.specs.declared.expressions.unary_operator.UnaryOperator.{UnaryOperator}
use Rattle.mc_tree.specs.declared.expressions.expression.Expression.{Expression, size-Expression}
use Rattle.mc_tree.specs.declared.expressions.expression.Expression.TheVariants as node
use Rattle.mc_tree.specs.declared.declarations.array_length.ArrayLength.TheViews.{sized-Assignment, sized-Binary, sized-Conditional, sized-Index, sized-Member, sized-Parenthesized, sized-PostfixStep, sized-PrefixStep, sized-Unary}
use Rattle.mc_tree.specs.declared.statements.for_start.ForStart.{ForStart}
use Rattle.mc_tree.specs.declared.statements.statement.Statement.{Statement, size-Statement}
use Rattle.mc_tree.specs.declared.statements.statement.Statement.TheVariants as code
use Rattle.mc_tree.specs.declared.statements.block_item.BlockItem.TheViews.{sized-Case, sized-Default, sized-DoWhile, sized-For, sized-If, sized-IfElse, sized-Label, sized-Switch, sized-While}

-- ---- statements

abbrev Test : Type 0
Test = Box Expression Global

abbrev Body : Type 0
Body = Box Statement Global

pub if_chosen : (test : Test) (chosen : Body) (span : Span)
    → size-Statement chosen.value < size-Statement (code.If test chosen span)
if_chosen test chosen span = omega (arith, sized-If test chosen span)

pub if_else_chosen : (test : Test) (chosen other : Body) (span : Span)
    → size-Statement chosen.value < size-Statement (code.IfElse test chosen other span)
if_else_chosen test chosen other span = omega (arith, sized-IfElse test chosen other span)

pub if_else_other : (test : Test) (chosen other : Body) (span : Span)
    → size-Statement other.value < size-Statement (code.IfElse test chosen other span)
if_else_other test chosen other span = omega (arith, sized-IfElse test chosen other span)

pub switch_body : (value : Test) (body : Body) (span : Span)
    → size-Statement body.value < size-Statement (code.Switch value body span)
switch_body value body span = omega (arith, sized-Switch value body span)

pub while_body : (test : Test) (body : Body) (span : Span)
    → size-Statement body.value < size-Statement (code.While test body span)
while_body test body span = omega (arith, sized-While test body span)

pub do_body : (body : Body) (test : Test) (span : Span)
    → size-Statement body.value < size-Statement (code.DoWhile body test span)
do_body body test span = omega (arith, sized-DoWhile body test span)

pub for_body : (start : Box ForStart Global) (test step : Option Test) (body : Body) (span : Span)
    → size-Statement body.value < size-Statement (code.For start test step body span)
for_body start test step body span = omega (arith, sized-For start test step body span)

pub case_body : (value : Test) (label : Span) (body : Body) (span : Span)
    → size-Statement body.value < size-Statement (code.Case value label body span)
case_body value label body span = omega (arith, sized-Case value label body span)

pub default_body : (label : Span) (body : Body) (span : Span)
    → size-Statement body.value < size-Statement (code.Default label body span)
default_body label body span = omega (arith, sized-Default label body span)

pub label_body : (name : Identifier) (body : Body) (span : Span)
    → size-Statement body.value < size-Statement (code.Label name body span)
label_body name body span = omega (arith, sized-Label name body span)

-- from a statement on to a block of its own, and to a statement
pub to_inner : (e x q y : Statement) (t : ℕ) → e ≡ x → q ≡ y
    → size-Statement x < size-Statement y → 3 * size-Statement q + 0 ≡ t
    → 3 * size-Statement e + 2 < t
to_inner e x q y t at is h d = omega (arith, ap size-Statement at, ap size-Statement is, h, d)

pub to_statement : (e x q y : Statement) (t : ℕ) → e ≡ x → q ≡ y
    → size-Statement x < size-Statement y → 3 * size-Statement q + 0 ≡ t
    → 3 * size-Statement e + 1 < t
to_statement e x q y t at is h d = omega (arith, ap size-Statement at, ap size-Statement is, h, d)

pub to_same : (e : Statement) (t : ℕ) → 3 * size-Statement e + 2 ≡ t
    → 3 * size-Statement e + 1 < t
to_same e t d = omega (arith, d)

pub to_any_statement : (e : Statement) (t : ℕ) → 3 * size-Statement e + 1 ≡ t
    → 3 * size-Statement e + 0 < t
to_any_statement e t d = omega (arith, d)

-- ---- expressions

abbrev Part : Type 0
Part = Box Expression Global

pub parenthesized_inner : (inner : Part) (span : Span)
    → size-Expression inner.value < size-Expression (node.Parenthesized inner span)
parenthesized_inner inner span = omega (arith, sized-Parenthesized inner span)

pub index_array : (array index : Part) (span : Span)
    → size-Expression array.value < size-Expression (node.Index array index span)
index_array array index span = omega (arith, sized-Index array index span)

pub index_index : (array index : Part) (span : Span)
    → size-Expression index.value < size-Expression (node.Index array index span)
index_index array index span = omega (arith, sized-Index array index span)

pub member_object : (object : Part) (name : Identifier) (span : Span)
    → size-Expression object.value < size-Expression (node.Member object name span)
member_object object name span = omega (arith, sized-Member object name span)

pub postfix_operand : (operator : StepOperator) (operand : Part) (span : Span)
    → size-Expression operand.value < size-Expression (node.PostfixStep operator operand span)
postfix_operand operator operand span = omega (arith, sized-PostfixStep operator operand span)

pub prefix_operand : (operator : StepOperator) (operand : Part) (span : Span)
    → size-Expression operand.value < size-Expression (node.PrefixStep operator operand span)
prefix_operand operator operand span = omega (arith, sized-PrefixStep operator operand span)

pub unary_operand : (operator : UnaryOperator) (operand : Part) (span : Span)
    → size-Expression operand.value < size-Expression (node.Unary operator operand span)
unary_operand operator operand span = omega (arith, sized-Unary operator operand span)

pub binary_left : (operator : BinaryOperator) (left right : Part) (span : Span)
    → size-Expression left.value < size-Expression (node.Binary operator left right span)
binary_left operator left right span = omega (arith, sized-Binary operator left right span)

pub binary_right : (operator : BinaryOperator) (left right : Part) (span : Span)
    → size-Expression right.value < size-Expression (node.Binary operator left right span)
binary_right operator left right span = omega (arith, sized-Binary operator left right span)

pub conditional_test : (test chosen other : Part) (span : Span)
    → size-Expression test.value < size-Expression (node.Conditional test chosen other span)
conditional_test test chosen other span = omega (arith, sized-Conditional test chosen other span)

pub conditional_chosen : (test chosen other : Part) (span : Span)
    → size-Expression chosen.value < size-Expression (node.Conditional test chosen other span)
conditional_chosen test chosen other span = omega (arith, sized-Conditional test chosen other span)

pub conditional_other : (test chosen other : Part) (span : Span)
    → size-Expression other.value < size-Expression (node.Conditional test chosen other span)
conditional_other test chosen other span = omega (arith, sized-Conditional test chosen other span)

pub assignment_target : (operator : AssignmentOperator) (target value : Part) (span : Span)
    → size-Expression target.value < size-Expression (node.Assignment operator target value span)
assignment_target operator target value span = omega (arith, sized-Assignment operator target value span)

pub assignment_value : (operator : AssignmentOperator) (target value : Part) (span : Span)
    → size-Expression value.value < size-Expression (node.Assignment operator target value span)
assignment_value operator target value span = omega (arith, sized-Assignment operator target value span)

-- from an expression on to an operand, and to one that follows others
pub to_operand : (e x q y : Expression) (t : ℕ) → e ≡ x → q ≡ y
    → size-Expression x < size-Expression y → 4 * size-Expression q + 0 ≡ t
    → 4 * size-Expression e + 1 < t
to_operand e x q y t at is h d = omega (arith, ap size-Expression at, ap size-Expression is, h, d)

pub to_later : (e x q y : Expression) (t : ℕ) → e ≡ x → q ≡ y
    → size-Expression x < size-Expression y → 4 * size-Expression q + 0 ≡ t
    → 4 * size-Expression e + 2 < t
to_later e x q y t at is h d = omega (arith, ap size-Expression at, ap size-Expression is, h, d)

-- the same from where names and constants are told apart
pub from_operand : (e x q y : Expression) (t : ℕ) → e ≡ x → q ≡ y
    → size-Expression x < size-Expression y → 4 * size-Expression q + 1 ≡ t
    → 4 * size-Expression e + 1 < t
from_operand e x q y t at is h d = omega (arith, ap size-Expression at, ap size-Expression is, h, d)

pub from_first : (e x q y : Expression) (t : ℕ) → e ≡ x → q ≡ y
    → size-Expression x < size-Expression y → 4 * size-Expression q + 1 ≡ t
    → 4 * size-Expression e + 2 < t
from_first e x q y t at is h d = omega (arith, ap size-Expression at, ap size-Expression is, h, d)

pub from_later : (e : Expression) (t : ℕ) → 4 * size-Expression e + 2 ≡ t
    → 4 * size-Expression e + 1 < t
from_later e t d = omega (arith, d)

pub to_any_expression : (e : Expression) (t : ℕ) → 4 * size-Expression e + 1 ≡ t
    → 4 * size-Expression e + 0 < t
to_any_expression e t d = omega (arith, d)
