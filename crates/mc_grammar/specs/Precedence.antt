-- The precedence of expressions: the number of the section of C17 6.5 in which an expression
-- stands. What binds closer stands in an earlier section, and each says of which its operands are.
use Rattle.std.specs.Prelude.{ℕ, ◌-◌, ◌≤◌}
use Rattle.mc_tree.specs.declared.expressions.binary_operator.BinaryOperator.{BinaryOperator}
use Rattle.mc_tree.specs.declared.expressions.binary_operator.BinaryOperator.TheVariants as binary
use Rattle.mc_tree.specs.Tree.{Expression, Expressions}
use Rattle.mc_tree.specs.Tree as tree

-- C17 6.5.5 to 6.5.14
abbrev pub section : BinaryOperator → ℕ
section binary.Multiply = 5
section binary.Divide = 5
section binary.Remainder = 5
section binary.Add = 6
section binary.Subtract = 6
section binary.ShiftLeft = 7
section binary.ShiftRight = 7
section binary.Less = 8
section binary.Greater = 8
section binary.LessOrEqual = 8
section binary.GreaterOrEqual = 8
section binary.Equal = 9
section binary.Unequal = 9
section binary.BitAnd = 10
section binary.BitXor = 11
section binary.BitOr = 12
section binary.And = 13
section binary.Or = 14

-- The expression is of this section or of an earlier one, and so is each operand of the section
-- that C17 wants there. The right operand of a binary operator is of an earlier section than the
-- operator, since within a section they group to the left.
abbrev mutual
  pub Within : ℕ → Expression → Type 0
  -- C17 6.5.1
  Within limit (tree.Named name) = 1 ≤ limit
  Within limit (tree.Constant value decimal unsigned longs span) = 1 ≤ limit
  Within limit (tree.Character value span) = 1 ≤ limit
  Within limit (tree.Parenthesized a span) = (1 ≤ limit) × Within 17 a
  -- C17 6.5.2
  Within limit (tree.Call name arguments span) = (2 ≤ limit) × AllWithin 16 arguments
  Within limit (tree.Index a b span) = (2 ≤ limit) × Within 2 a × Within 17 b
  Within limit (tree.Member a name span) = (2 ≤ limit) × Within 2 a
  Within limit (tree.PostfixStep operator a span) = (2 ≤ limit) × Within 2 a
  -- C17 6.5.3
  Within limit (tree.PrefixStep operator a span) = (3 ≤ limit) × Within 3 a
  Within limit (tree.Unary operator a span) = (3 ≤ limit) × Within 4 a
  -- C17 6.5.4
  Within limit (tree.Cast type a span) = (4 ≤ limit) × Within 4 a
  -- C17 6.5.5 to 6.5.14
  Within limit (tree.Binary operator a b span) =
      (section operator ≤ limit) × Within (section operator) a × Within (section operator - 1) b
  -- C17 6.5.15
  Within limit (tree.Conditional a b c span) = (15 ≤ limit) × Within 14 a × Within 17 b × Within
      15 c
  -- C17 6.5.16
  Within limit (tree.Assignment operator a b span) = (16 ≤ limit) × Within 3 a × Within 16 b
  -- C17 6.5.17
  Within limit (tree.Comma operands span) = (17 ≤ limit) × AllWithin 16 operands

  pub AllWithin : ℕ → Expressions → Type 0
  AllWithin limit tree.no_expressions = Unit {0}
  AllWithin limit (tree.expressions a rest) = Within limit a × AllWithin limit rest
