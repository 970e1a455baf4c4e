-- An operator between two operands, as the code reads it.
use Rattle.std.proofs.Common.{◌≡◌, ◌∙◌, sym, ap, Option, Box}
use Rattle.std.specs.Global.{Global}
use Rattle.mc_span.specs.declared.span.Span.{Span}
use Rattle.mc_value.specs.declared.int_type.IntType.{IntType}
use Rattle.mc_typed.specs.declared.operators.Operator.{Operator}
use Rattle.mc_typed.specs.declared.expressions.Expression.{Expression}
use Rattle.mc_typed.specs.declared.expressions.Expression.TheVariants as code
use Rattle.mc_typed.specs.declared.expressions.Argument.TheOpen.{Expression-F}
use Rattle.mc_typed.specs.declared.expressions.Argument.TheFolds.{fold-roll-Expression}
use Rattle.mc_typed.specs.Tree as t
use Rattle.mc_typed.specs.Views as plain
use Rattle.mc_typed.specs.Views.{expression_of}
use Rattle.decide_rules.specs.declared.operators.FullOperator.{FullOperator}
use Rattle.decide_rules.specs.declared.role.Role.{Role}
use Rattle.decide_rules.specs.Nodes as n
use Rattle.mc_mutate.specs.declared.search.sought.Sought.{Sought}
use Rattle.mc_mutate.specs.Mutants.{under}
use Rattle.mc_mutate.specs.steps.Search.{inside, searched}
use Rattle.mc_mutate.proofs.Decided.{both_inside}

plain_binary : (operator : Operator) (a : IntType) (x y : Box Expression Global) (span : Span) → expression_of (code.Binary operator a x y span) ≡ t.Binary operator a (expression_of x.value) (expression_of y.value) span
plain_binary operator a x y span =
    ap expression_of (sym (code.rolls-Binary operator a x y span))
    ∙ fold-roll-Expression t.Argument t.Expression t.Place t.StructureValue t.FunctionCall plain.node_argument plain.node_expression plain.node_place plain.node_structure plain.node_call (Expression-F.Binary operator a x y span)

pub binary_tree : (tree left right : Expression) (operator : Operator) (a : IntType) (x y : Box Expression Global) (span : Span) → tree ≡ code.Binary operator a x y span → left ≡ x.value → right ≡ y.value → expression_of tree ≡ t.Binary operator a (expression_of left) (expression_of right) span
binary_tree tree left right operator a x y span is first second =
    ap expression_of is
    ∙ (plain_binary operator a x y span
    ∙ (ap (λ (e : Expression). t.Binary operator a (expression_of e) (expression_of y.value) span) (sym first)
    ∙ ap (λ (e : Expression). t.Binary operator a (expression_of left) (expression_of e) span) (sym second)))

-- its node, by whether it is a full operator
pub binary_node : (found : Option FullOperator) (tree left right : Expression) (operator : Operator) (a : IntType) (x y : Box Expression Global) (span : Span) → tree ≡ code.Binary operator a x y span → left ≡ x.value → right ≡ y.value → n.full_operator operator (expression_of left) (expression_of right) ≡ found → n.expression (expression_of tree) ≡ n.evaluates_both found operator (n.expression (expression_of left)) (n.expression (expression_of right)) span
binary_node found tree left right operator a x y span is first second full =
    ap n.expression (binary_tree tree left right operator a x y span is first second)
    ∙ ap (λ (o : Option FullOperator). n.evaluates_both o operator (n.expression (expression_of left)) (n.expression (expression_of right)) span) full

-- the search in both operands, each of which the code reads twice
pub binary_inside : (tree left right l r : Expression) (operator : Operator) (a : IntType) (x y : Box Expression Global) (span : Span) (found : Option FullOperator) (role : Role) (s after end : Sought) → tree ≡ code.Binary operator a x y span → left ≡ x.value → right ≡ y.value → l ≡ x.value → r ≡ y.value → found ≡ n.full_operator operator (expression_of left) (expression_of right) → role ≡ under found → after ≡ searched role (n.expression (expression_of l)) s → end ≡ searched role (n.expression (expression_of r)) after → end ≡ inside (n.expression (expression_of tree)) s
binary_inside tree left right l r operator a x y span found role s after end is first second third fourth full stands one two =
    two
    ∙ (ap (λ (u : Sought). searched role (n.expression (expression_of r)) u) one
    ∙ (ap (λ (o : Role). searched o (n.expression (expression_of r)) (searched o (n.expression (expression_of l)) s)) stands
    ∙ (ap (λ (e : Expression). searched (under found) (n.expression (expression_of e)) (searched (under found) (n.expression (expression_of l)) s)) (fourth ∙ sym second)
    ∙ (ap (λ (e : Expression). searched (under found) (n.expression (expression_of right)) (searched (under found) (n.expression (expression_of e)) s)) (third ∙ sym first)
    ∙ (both_inside found operator (n.expression (expression_of left)) (n.expression (expression_of right)) span s
    ∙ sym (ap (λ (m : n.Node). inside m s) (binary_node found tree left right operator a x y span is first second (sym full))))))))
