-- An operator that evaluates both of its operands, whether it is a full operator or none.
use Rattle.std.proofs.Common.{◌≡◌, ◌∙◌, refl, sym, ap, Bool, true, false, ◌&&◌, Option, Some, None, Box}
use Rattle.std.specs.Global.{Global}
use Rattle.mc_span.specs.declared.span.Span.{Span}
use Rattle.mc_value.specs.declared.int_type.IntType.{IntType}
use Rattle.mc_typed.specs.declared.operators.Operator.{Operator}
use Rattle.mc_typed.specs.declared.expressions.Expression.{Expression}
use Rattle.mc_typed.specs.declared.expressions.Expression.TheVariants as code
use Rattle.mc_typed.specs.declared.expressions.Argument.TheOpen.{Expression-F}
use Rattle.mc_typed.specs.declared.expressions.Argument.TheFolds.{fold-roll-Expression}
use Rattle.mc_typed.specs.Tree as t
use Rattle.mc_typed.specs.Views as plain
use Rattle.mc_typed.specs.Views.{expression_of}
use Rattle.decide_rules.specs.declared.operators.FullOperator.{FullOperator}
use Rattle.decide_rules.specs.Nodes.{Node, evaluates_both, expression, full_operator}
use Rattle.decide_rules.specs.Roots.{is_constant}

-- ---- its node

pub plain_binary : (tree : Expression) (operator : Operator) (a : IntType) (x y : Box Expression Global) (span : Span) → tree ≡ code.Binary operator a x y span → expression_of tree ≡ t.Binary operator a (expression_of x.value) (expression_of y.value) span
plain_binary tree operator a x y span is =
    ap expression_of is
    ∙ (ap expression_of (sym (code.rolls-Binary operator a x y span))
    ∙ fold-roll-Expression t.Argument t.Expression t.Place t.StructureValue t.FunctionCall plain.node_argument plain.node_expression plain.node_place plain.node_structure plain.node_call (Expression-F.Binary operator a x y span))

pub both_node : (tree : Expression) (operator : Operator) (a : IntType) (x y : Box Expression Global) (span : Span) (full : Option FullOperator) → tree ≡ code.Binary operator a x y span → full_operator operator (expression_of x.value) (expression_of y.value) ≡ full → expression (expression_of tree) ≡ evaluates_both full operator (expression (expression_of x.value)) (expression (expression_of y.value)) span
both_node tree operator a x y span full is found =
    ap expression (plain_binary tree operator a x y span is)
    ∙ ap (λ (which : Option FullOperator). evaluates_both which operator (expression (expression_of x.value)) (expression (expression_of y.value)) span) found

-- ---- it is constant where both operands are

and_more : (p q : Bool) → (p && (q && true)) ≡ (p && q)
and_more true true = refl
and_more true false = refl
and_more false q = refl

both_constant : (full : Option FullOperator) (operator : Operator) (a b : Node) (span : Span) → is_constant (evaluates_both full operator a b span) ≡ (is_constant a && is_constant b)
both_constant (Some f) operator a b span = refl
both_constant None operator a b span = and_more (is_constant a) (is_constant b)

pub binary_constant : (tree left right : Expression) (operator : Operator) (a : IntType) (x y : Box Expression Global) (span : Span) → tree ≡ code.Binary operator a x y span → left ≡ x.value → right ≡ y.value → is_constant (expression (expression_of tree)) ≡ (is_constant (expression (expression_of left)) && is_constant (expression (expression_of right)))
binary_constant tree left right operator a x y span is first second =
    let full : Option FullOperator = full_operator operator (expression_of x.value) (expression_of y.value) in
    ap is_constant (both_node tree operator a x y span full is refl)
    ∙ (both_constant full operator (expression (expression_of x.value)) (expression (expression_of y.value)) span
    ∙ (ap (λ (e : Expression). is_constant (expression (expression_of e)) && is_constant (expression (expression_of y.value))) (sym first)
    ∙ ap (λ (e : Expression). is_constant (expression (expression_of left)) && is_constant (expression (expression_of e))) (sym second)))
