-- The two definitions of an integer constant expression agree.
use Rattle.std.proofs.Common.{◌≡◌, ◌∙◌, refl, ap, Bool, true, false, ◌&&◌, Option, Some, None}
use Rattle.mc_span.specs.declared.span.Span.{Span}
use Rattle.mc_typed.specs.declared.operators.Operator.{Operator}
use Rattle.mc_typed.specs.Tree.{Expression}
use Rattle.mc_typed.specs.Tree as t
use Rattle.decide_rules.specs.declared.operators.FullOperator.{FullOperator}
use Rattle.decide_rules.specs.Nodes.{Node}
use Rattle.decide_rules.specs.Nodes as n
use Rattle.decide_rules.specs.Roots as roots
use Rattle.mc_steps.specs.Points.{is_constant}
use Rattle.mc_meaning.specs.Laws.{ConstantsAgree}

with_true : (b : Bool) → b ≡ (b && true)
with_true true = refl
with_true false = refl

three : (a b c : Bool) → (a && b && c) ≡ (a && (b && (c && true)))
three true true true = refl
three true true false = refl
three true false true = refl
three true false false = refl
three false true true = refl
three false true false = refl
three false false true = refl
three false false false = refl

abbrev of_node : Expression → Bool
of_node e = roots.is_constant (n.expression e)

of_both : (which : Option FullOperator) (operator : Operator) (a b : Node) (span : Span) → (roots.is_constant a && roots.is_constant b) ≡ roots.is_constant (n.evaluates_both which operator a b span)
of_both (Some full) operator a b span = refl
of_both None operator a b span = ap (λ (x : Bool). roots.is_constant a && x) (with_true (roots.is_constant b))

pub constants_agree : ConstantsAgree
constants_agree (t.Constant v a span) = refl
constants_agree (t.Read place a) = refl
constants_agree (t.Unary operator a e span) = constants_agree e ∙ with_true (of_node e)
constants_agree (t.Convert a written e span) = constants_agree e ∙ with_true (of_node e)
constants_agree (t.Not e span) = constants_agree e
constants_agree (t.Binary operator a e f span) =
    ap (λ (b : Bool). b && is_constant f) (constants_agree e)
    ∙ (ap (λ (b : Bool). of_node e && b) (constants_agree f)
    ∙ of_both (n.full_operator operator e f) operator (n.expression e) (n.expression f) span)
constants_agree (t.Logic operator e f span) =
    ap (λ (b : Bool). b && is_constant f) (constants_agree e)
    ∙ ap (λ (b : Bool). of_node e && b) (constants_agree f)
constants_agree (t.Choice e f g a span) =
    ap (λ (b : Bool). b && is_constant f && is_constant g) (constants_agree e)
    ∙ (ap (λ (b : Bool). of_node e && b && is_constant g) (constants_agree f)
    ∙ (ap (λ (b : Bool). of_node e && of_node f && b) (constants_agree g)
    ∙ three (of_node e) (of_node f) (of_node g)))
constants_agree (t.Call k a) = refl
constants_agree (t.Input span) = refl
