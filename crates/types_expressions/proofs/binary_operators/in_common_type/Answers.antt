use Rattle.std.proofs.Common.{◌≡◌, ◌∙◌, Some, ap}
use Rattle.mc_span.specs.declared.span.Span.{Span}
use Rattle.mc_value.specs.declared.int_type.IntType.{IntType}
use Rattle.mc_value.specs.Conversions.{common_of}
use Rattle.mc_typed.specs.declared.operators.Operator.{Operator}
use Rattle.mc_typed.specs.declared.operators.Operator.TheVariants.{Binary}
use Rattle.mc_typed.specs.Sound.{type_of}
use Rattle.mc_typed.specs.Tree as t
use Rattle.mc_typed.specs.Views.{expression_of}
use Rattle.types_rules.specs.Values.{Number}
use Rattle.types_rules.specs.Expressions.{convert_to}
use Rattle.types_expressions.proofs.binary_operators.in_common_type.Goals as goal

in_common : (o : Operator) (a m n : IntType) (e f x y : t.Expression) (span : Span) → a ≡ common_of m n
    → m ≡ type_of e → n ≡ type_of f → x ≡ convert_to a e → y ≡ convert_to a f
    → t.Binary o a x y span ≡ t.Binary o (common_of (type_of e) (type_of f)) (convert_to (common_of (type_of e) (type_of f)) e)
    (convert_to (common_of (type_of e) (type_of f)) f) span
in_common o a m n e f x y span h p q ex fy = cc

pub returns-in-Ok : goal.returns-in-Ok
returns-in-Ok c =
    ap Some (c.applied.ensures
    ∙ ap Number (in_common (Binary c.args.operator) _ _ _ (expression_of c.args.left) (expression_of c.args.right) _ _ c.args.span
    c.common-of.ensures.value c.integer_type.ensures c.integer_type-2.ensures c.in-Ok.ensures.left c.in-Ok.ensures.right))
