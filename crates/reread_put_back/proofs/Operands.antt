-- The greatest sums of an operand with an operator on top, as the tree of the code has it.
use Rattle.std.proofs.Common.{◌≡◌, ◌∙◌, sym, ap, ℕ, Option, Some, Box}
use Rattle.std.specs.Global.{Global}
use Rattle.mc_span.specs.declared.span.Span.{Span}
use Rattle.mc_value.specs.declared.int_type.IntType.{IntType}
use Rattle.mc_typed.specs.declared.operators.Operator.{Operator}
use Rattle.mc_typed.specs.declared.operators.LogicOperator.{LogicOperator}
use Rattle.mc_typed.specs.declared.expressions.Expression.{Expression}
use Rattle.mc_typed.specs.declared.expressions.Expression.TheVariants as code
use Rattle.mc_typed.specs.declared.expressions.Argument.TheOpen.{Expression-F}
use Rattle.mc_typed.specs.declared.expressions.Argument.TheFolds.{fold-roll-Expression}
use Rattle.decide_rules.specs.declared.operators.FullOperator.{FullOperator}
use Rattle.decide_rules.specs.Nodes.{bitwise}
use Rattle.mc_probe.specs.Tree as tree
use Rattle.mc_probe.specs.Views as probed
use Rattle.mc_probe.specs.Views.{expression_of}
use Rattle.reread_put_back.specs.declared.sums.Greatest.{Greatest}
use Rattle.reread_put_back.specs.Sums.{paths, where_full}
use Rattle.reread_put_back.specs.steps.Greatest.{greatest_of}
use Rattle.reread_put_back.specs.steps.Greatest as steps
use Rattle.reread_put_back.proofs.Ends.{both_is, joined_is}

logic_seen : (x left right : Expression) (operator : LogicOperator) (y z : Box Expression Global) (span : Span) → x ≡ code.Logic operator y z span → left ≡ y.value → right ≡ z.value → expression_of x ≡ tree.Logic operator (expression_of left) (expression_of right) span
logic_seen x left right operator y z span is first second =
    ap expression_of is
    ∙ (ap expression_of (sym (code.rolls-Logic operator y z span))
    ∙ (fold-roll-Expression tree.Argument tree.Expression tree.Place tree.StructureValue tree.FunctionCall probed.node_argument probed.node_expression probed.node_place probed.node_structure probed.node_call (Expression-F.Logic operator y z span)
    ∙ (λ i. tree.Logic operator (expression_of (sym first i)) (expression_of (sym second i)) span)))

pub logic_found : (r : ℕ) (x left right : Expression) (operator : LogicOperator) (y z : Box Expression Global) (span : Span) (a b found : Greatest) → x ≡ code.Logic operator y z span → left ≡ y.value → right ≡ z.value → a ≡ greatest_of (paths r (expression_of left)) → b ≡ greatest_of (paths r (expression_of right)) → found ≡ steps.joined operator a b → found ≡ greatest_of (paths r (expression_of x))
logic_found r x left right operator y z span a b found is first second one two all =
    all
    ∙ ((λ i. steps.joined operator (one i) (two i))
    ∙ (joined_is operator r (expression_of left) (expression_of right)
    ∙ ap (λ (e : tree.Expression). greatest_of (paths r e)) (sym (logic_seen x left right operator y z span is first second))))

binary_seen : (x left right : Expression) (operator : Operator) (of : IntType) (y z : Box Expression Global) (span : Span) → x ≡ code.Binary operator of y z span → left ≡ y.value → right ≡ z.value → expression_of x ≡ tree.Binary operator of (expression_of left) (expression_of right) span
binary_seen x left right operator of y z span is first second =
    ap expression_of is
    ∙ (ap expression_of (sym (code.rolls-Binary operator of y z span))
    ∙ (fold-roll-Expression tree.Argument tree.Expression tree.Place tree.StructureValue tree.FunctionCall probed.node_argument probed.node_expression probed.node_place probed.node_structure probed.node_call (Expression-F.Binary operator of y z span)
    ∙ (λ i. tree.Binary operator of (expression_of (sym first i)) (expression_of (sym second i)) span)))

pub full_found : (r : ℕ) (x left right : Expression) (operator : Operator) (full : FullOperator) (of : IntType) (y z : Box Expression Global) (span : Span) (a b found : Greatest) → x ≡ code.Binary operator of y z span → left ≡ y.value → right ≡ z.value → bitwise operator ≡ Some full → a ≡ greatest_of (paths r (expression_of left)) → b ≡ greatest_of (paths r (expression_of right)) → found ≡ steps.both full a b → found ≡ greatest_of (paths r (expression_of x))
full_found r x left right operator full of y z span a b found is first second which one two all =
    all
    ∙ ((λ i. steps.both full (one i) (two i))
    ∙ (both_is full r (expression_of left) (expression_of right)
    ∙ (ap (λ (o : Option FullOperator). greatest_of (where_full o (paths r (expression_of left)) (paths r (expression_of right)))) (sym which)
    ∙ ap (λ (e : tree.Expression). greatest_of (paths r e)) (sym (binary_seen x left right operator of y z span is first second)))))
