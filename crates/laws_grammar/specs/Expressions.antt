-- The readers of expressions, over what reads their parts: trees of fewer than `room` levels.
use Rattle.std.specs.Prelude.{ℕ, zero, suc, ◌+◌, Bool, nat_le, if◌then◌else◌, List, [], ◌∷◌, Option, Some, None, codes}
use Rattle.mc_lex.specs.declared.token.TokenKind.{TokenKind}
use Rattle.mc_lex.specs.declared.token.TokenKind.TheVariants as kind
use Rattle.mc_span.specs.declared.span.Span.{Span}
use Rattle.mc_tree.specs.declared.expressions.unary_operator.UnaryOperator.{UnaryOperator}
use Rattle.mc_tree.specs.declared.expressions.step_operator.StepOperator.{StepOperator}
use Rattle.mc_tree.specs.declared.expressions.binary_operator.BinaryOperator.{BinaryOperator}
use Rattle.mc_tree.specs.declared.expressions.assignment_operator.AssignmentOperator.{AssignmentOperator}
use Rattle.mc_tree.specs.Tree.{Expression, TypeName, Specifiers, span_of}
use Rattle.mc_tree.specs.Tree as tree
use Rattle.mc_tree.specs.Height.{height}
use Rattle.mc_tree.specs.Views.{expressions_from}
use Rattle.mc_grammar.specs.Words.{Lexeme, is_name, next_is, sees_specifiers, sees_cast}
use Rattle.mc_grammar.specs.Places.{at, name_at, to, end_of_expressions, end_of_specifiers}
use Rattle.mc_grammar.specs.Operators.{operator_next, is_suffix}
use Rattle.mc_grammar.specs.Counts.{for_type}
use Rattle.mc_grammar.specs.Expressions.{is_unary}
use Rattle.mc_grammar.specs.Nonterminal.{Nonterminal, Level, operand}
use Rattle.mc_grammar.specs.Nonterminal as nonterminal
use Rattle.mc_grammar.specs.steps.Parsers.{Parser, ◌>>=◌, pure, refuse, ask, see, take, accept, expect, first, only}
use Rattle.mc_grammar.specs.steps.Next.{assignment_next, step_next, unary_next, up_to}
use Rattle.laws_grammar.specs.Lists.{comma_list, listed}

-- what reads the parts: expressions, and specifiers that meet a test
pub record Parts : Type 1 where
  pub expression : Nonterminal → Parser Expression
  pub specifiers : (Specifiers → Bool) → Parser Specifiers

-- how many `*`, and the place of the last token read
pub record Stars : Type 0 where
  pub count : ℕ
  pub end : Span

abbrev pub stars_turn : (ℕ → Span → Parser Stars) → ℕ → Span → Parser Stars
stars_turn go count before = do
  more ← see (codes "*")
  if more then (do
    x ← take
    go (suc count) (at x)) else pure (record { count = count; end = before })

unfoldable pub stars_loop : ℕ → ℕ → Span → Parser Stars
stars_loop zero count before = refuse
stars_loop (suc turns) count before = stars_turn (stars_loop turns) count before

abbrev pub stars_of : Span → Parser Stars
stars_of before = listed (λ turns. stars_loop turns 0 before)

-- the arguments of a call, or the operands of a comma, after these
abbrev pub expressions_after : Parts → List Expression → Parser (List Expression)
expressions_after parts before =
    listed (λ turns. comma_list turns (parts.expression nonterminal.assign) before)

unfoldable pub type_name_of : Parts → Parser TypeName
type_name_of parts = do
  start ← first
  s ← parts.specifiers for_type
  stars ← stars_of (end_of_specifiers start s)
  pure (tree.type_name s stars.count (to start stars.end))

-- ---- primary and postfix

abbrev pub arguments_of : Parts → Lexeme → Parser Expression
arguments_of parts x = do
  empty ← see (codes ")")
  if empty then (do
    z ← take
    pure (tree.Call (name_at x) tree.no_expressions (to (at x) (at z)))) else (do
      all ← expressions_after parts []
      z ← expect (codes ")")
      pure (tree.Call (name_at x) (expressions_from all) (to (at x) (at z))))

unfoldable pub named_of : Parts → Parser Expression
named_of parts = do
  x ← take
  calls ← see (codes "(")
  if calls then (do
    y ← take
    arguments_of parts x) else pure (tree.Named (name_at x))

unfoldable pub parenthesized_of : Parts → Parser Expression
parenthesized_of parts = do
  x ← take
  types ← ask sees_specifiers
  if types then refuse else (do
    a ← parts.expression nonterminal.comma
    y ← expect (codes ")")
    pure (tree.Parenthesized a (to (at x) (at y))))

-- by the kind of the next token
abbrev pub primary_by : Parts → TokenKind → Parser Expression
primary_by parts (kind.Constant value decimal unsigned longs) = do
  x ← take
  pure (tree.Constant value decimal unsigned longs (at x))
primary_by parts (kind.Character value) = do
  x ← take
  pure (tree.Character value (at x))
primary_by parts kind.Identifier = do
  names ← ask (next_is is_name)
  if names then named_of parts else refuse
primary_by parts kind.Punctuator = do
  opens ← see (codes "(")
  if opens then parenthesized_of parts else refuse
primary_by parts kind.Keyword = refuse

unfoldable pub primary_of : Parts → Parser Expression
primary_of parts [] = None
primary_of parts (x ∷ ts) = primary_by parts x.token.kind (x ∷ ts)

abbrev pub index_of : Parts → Expression → Parser Expression
index_of parts a = do
  x ← take
  b ← parts.expression nonterminal.comma
  y ← expect (codes "]")
  pure (tree.Index a b (to (span_of a) (at y)))

abbrev pub member_of : Expression → Parser Expression
member_of a = do
  x ← take
  y ← accept is_name
  pure (tree.Member a (name_at y) (to (span_of a) (at y)))

abbrev pub stepped : Expression → Option StepOperator → Parser Expression
stepped a None = refuse
stepped a (Some operator) = do
  x ← take
  pure (tree.PostfixStep operator a (to (span_of a) (at x)))

-- a tree that may be a part
abbrev pub fits : Expression → ℕ → Bool
fits a room = nat_le (height a + 1) room

-- one suffix
unfoldable pub suffix_of : Parts → ℕ → Expression → Parser Expression
suffix_of parts room a = only (fits a room) (do
  indexes ← see (codes "[")
  if indexes then index_of parts a else (do
    selects ← see (codes ".")
    if selects then member_of a else (do
      operator ← ask step_next
      stepped a operator)))

abbrev pub suffixes_turn : (Expression → Parser Expression) → Parts → ℕ → Expression
    → Parser Expression
suffixes_turn go parts room a = do
  more ← ask (next_is is_suffix)
  if more then (do
    b ← suffix_of parts room a
    go b) else pure a

unfoldable pub suffixes_loop : ℕ → Parts → ℕ → Expression → Parser Expression
suffixes_loop zero parts room a = refuse
suffixes_loop (suc turns) parts room a = suffixes_turn (suffixes_loop turns parts room) parts room a

unfoldable pub postfix_of : Parts → ℕ → Parser Expression
postfix_of parts room = do
  a ← primary_of parts
  listed (λ turns. suffixes_loop turns parts room a)

-- ---- prefix operators and casts

abbrev pub operated : Parts → ℕ → Option UnaryOperator → Parser Expression
operated parts room None = postfix_of parts room
operated parts room (Some operator) = do
  x ← take
  a ← parts.expression nonterminal.cast
  pure (tree.Unary operator a (to (at x) (span_of a)))

abbrev pub prefixed : Parts → ℕ → Option StepOperator → Parser Expression
prefixed parts room None = do
  operator ← ask unary_next
  operated parts room operator
prefixed parts room (Some operator) = do
  x ← take
  a ← parts.expression nonterminal.unary
  pure (tree.PrefixStep operator a (to (at x) (span_of a)))

unfoldable pub unary_of : Parts → ℕ → Parser Expression
unary_of parts room = do
  operator ← ask step_next
  prefixed parts room operator

unfoldable pub cast_to_of : Parts → Parser Expression
cast_to_of parts = do
  x ← take
  type ← type_name_of parts
  y ← expect (codes ")")
  a ← parts.expression nonterminal.cast
  pure (tree.Cast type a (to (at x) (span_of a)))

unfoldable pub cast_of : Parts → ℕ → Parser Expression
cast_of parts room = do
  casts ← ask sees_cast
  if casts then cast_to_of parts else unary_of parts room

-- ---- operators between two operands

-- one operator and its right operand
unfoldable pub operation_of : Parts → ℕ → Level → BinaryOperator → Expression → Parser Expression
operation_of parts room k operator a = only (fits a room) (do
  x ← take
  b ← parts.expression (operand k)
  pure (tree.Binary operator a b (to (span_of a) (span_of b))))

abbrev pub operations_by : (Expression → Parser Expression) → Parts → ℕ → Level → Expression
    → Option BinaryOperator → Parser Expression
operations_by go parts room k a None = pure a
operations_by go parts room k a (Some operator) = do
  b ← operation_of parts room k operator a
  go b

abbrev pub operations_turn : (Expression → Parser Expression) → Parts → ℕ → Level → Expression
    → Parser Expression
operations_turn go parts room k a = do
  operator ← ask (operator_next k)
  operations_by go parts room k a operator

unfoldable pub operations_loop : ℕ → Parts → ℕ → Level → Expression → Parser Expression
operations_loop zero parts room k a = refuse
operations_loop (suc turns) parts room k a =
    operations_turn (operations_loop turns parts room k) parts room k a

abbrev pub operations_of : Parts → ℕ → Level → Expression → Parser Expression
operations_of parts room k a = listed (λ turns. operations_loop turns parts room k a)

-- the operators of these levels, one level after the other
unfoldable pub climb : Parts → ℕ → List Level → Expression → Parser Expression
climb parts room [] a = pure a
climb parts room (k ∷ levels) a = do
  b ← operations_of parts room k a
  climb parts room levels b

unfoldable pub level_of : Parts → ℕ → Level → Parser Expression
level_of parts room k = do
  a ← cast_of parts room
  climb parts room (up_to k) a

-- ---- conditional expressions, assignments and commas

unfoldable pub conditional_of : Parts → ℕ → Expression → Parser Expression
conditional_of parts room a = only (fits a room) (do
  x ← take
  b ← parts.expression nonterminal.comma
  y ← expect (codes ":")
  c ← parts.expression nonterminal.cond
  pure (tree.Conditional a b c (to (span_of a) (span_of c))))

unfoldable pub cond_of : Parts → ℕ → Parser Expression
cond_of parts room = do
  a ← level_of parts room nonterminal.lor
  asks ← see (codes "?")
  if asks then conditional_of parts room a else pure a

unfoldable pub assignment_of : Parts → ℕ → AssignmentOperator → Expression → Parser Expression
assignment_of parts room operator a = only (fits a room) (do
  x ← take
  b ← parts.expression nonterminal.assign
  pure (tree.Assignment operator a b (to (span_of a) (span_of b))))

abbrev pub assign_by : Parts → ℕ → Expression → Option AssignmentOperator → Parser Expression
assign_by parts room a None = pure a
assign_by parts room a (Some operator) =
    if is_unary a then assignment_of parts room operator a else pure a

unfoldable pub assign_of : Parts → ℕ → Parser Expression
assign_of parts room = do
  a ← cond_of parts room
  operator ← ask assignment_next
  assign_by parts room a operator

unfoldable pub operands_of : Parts → ℕ → Expression → Parser Expression
operands_of parts room a = only (fits a room) (do
  x ← take
  all ← expressions_after parts (a ∷ [])
  pure (tree.Comma (expressions_from all)
      (to (span_of a) (end_of_expressions (span_of a) (expressions_from all)))))

unfoldable pub comma_of : Parts → ℕ → Parser Expression
comma_of parts room = do
  a ← assign_of parts room
  more ← see (codes ",")
  if more then operands_of parts room a else pure a

-- ---- each nonterminal that stands as a part

abbrev pub expression_by : Parts → ℕ → Nonterminal → Parser Expression
expression_by parts room nonterminal.comma = comma_of parts room
expression_by parts room nonterminal.assign = assign_of parts room
expression_by parts room nonterminal.cond = cond_of parts room
expression_by parts room nonterminal.cast = cast_of parts room
expression_by parts room nonterminal.unary = unary_of parts room
expression_by parts room nonterminal.postfix = postfix_of parts room
expression_by parts room nonterminal.primary = primary_of parts
expression_by parts room (nonterminal.level k) = level_of parts room k
expression_by parts room (nonterminal.operations k a) = operations_of parts room k a
expression_by parts room (nonterminal.suffixes a) = listed
    (λ turns. suffixes_loop turns parts room a)

-- no expression has no level
unfoldable pub expression_of : Parts → ℕ → Nonterminal → Parser Expression
expression_of parts zero m = refuse
expression_of parts (suc room) m = expression_by parts (suc room) m
