use Rattle.std.proofs.Common.{◌≡◌, ◌∙◌, Some, ap}
use Rattle.mc_span.specs.declared.span.Span.{Span}
use Rattle.mc_value.specs.declared.int_type.IntType.{IntType}
use Rattle.mc_value.specs.Conversions.{common_of}
use Rattle.mc_typed.specs.Sound.{type_of}
use Rattle.mc_typed.specs.Tree as t
use Rattle.mc_typed.specs.Views.{expression_of}
use Rattle.types_rules.specs.Values.{Number}
use Rattle.types_rules.specs.Expressions.{convert_to}
use Rattle.types_expressions.proofs.conditionals.choice_of.Goals as goal

in_common : (a m n : IntType) (e f g x y z : t.Expression) (span : Span) → a ≡ common_of m n → m ≡ type_of f → n ≡ type_of g
    → x ≡ e → y ≡ convert_to a f → z ≡ convert_to a g
    → t.Choice x y z a span ≡ t.Choice e (convert_to (common_of (type_of f) (type_of g)) f)
    (convert_to (common_of (type_of f) (type_of g)) g) (common_of (type_of f) (type_of g)) span
in_common a m n e f g x y z span h p q ex fy gz = cc

pub returns-in-Ok-boxed : goal.returns-in-Ok-boxed
returns-in-Ok-boxed c =
    ap Some (c.choice.ensures
    ∙ ap Number (in_common _ _ _ (expression_of c.args.test) (expression_of c.args.chosen) (expression_of c.args.other) _ _ _ c.args.span
    c.common-of.ensures.value c.integer_type.ensures c.integer_type-2.ensures (ap expression_of c.in-Ok-boxed.ensures)
    c.in-Ok.ensures.left c.in-Ok.ensures.right))
