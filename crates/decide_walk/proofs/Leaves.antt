-- Expressions that are no operators of a decision's tree.
use Rattle.std.proofs.Common.{◌≡◌, ◌∙◌, refl, sym, ap, ℕ, ℤ, Bool, false, [], ◌∷◌, ◌⊎◌, inl, inr, Option, None, Box}
use Rattle.std.specs.Global.{Global}
use Rattle.mc_span.specs.declared.span.Span.{Span}
use Rattle.mc_value.specs.declared.int_type.IntType.{IntType}
use Rattle.mc_value.specs.declared.operators.UnOp.{UnOp}
use Rattle.mc_typed.specs.declared.operators.Operator.{Operator}
use Rattle.mc_typed.specs.declared.expressions.Expression.{Expression}
use Rattle.mc_typed.specs.declared.expressions.Expression.TheVariants as code
use Rattle.mc_typed.specs.declared.expressions.Place.{Place}
use Rattle.mc_typed.specs.declared.expressions.FunctionCall.{FunctionCall}
use Rattle.mc_cond.specs.Tree.{Leaf}
use Rattle.mc_typed.specs.Views.{expression_of}
use Rattle.decide_rules.specs.declared.operators.FullOperator.{FullOperator}
use Rattle.decide_rules.specs.Nodes as n
use Rattle.decide_rules.specs.Roots.{is_boolean}
use Rattle.decide_rules.specs.Conditions.{is_operator, tree_from, width}
use Rattle.decide_rules.specs.steps.Walk.{spans}
use Rattle.decide_walk.proofs.Shapes.{node, constant_node, read_node, unary_node, convert_node, binary_node, choice_node, call_node, input_node}

-- ---- a node that is no operator is a condition

pub leaf_width : (a : n.Node) → is_operator a ≡ false → width a ≡ 1
leaf_width (n.Constant span) plain = refl
leaf_width (n.Not a span) plain = absurd (cc)
leaf_width (n.Logic operator a b span) plain = absurd (cc)
leaf_width (n.Expression top ps span) plain = refl
leaf_width (n.Whole ps) plain = refl

pub leaf_tree : (first : ℕ) (a : n.Node) → is_operator a ≡ false → tree_from first a ≡ Leaf first
leaf_tree first (n.Constant span) plain = refl
leaf_tree first (n.Not a span) plain = absurd (cc)
leaf_tree first (n.Logic operator a b span) plain = absurd (cc)
leaf_tree first (n.Expression top ps span) plain = refl
leaf_tree first (n.Whole ps) plain = refl

pub leaf_spans : (a : n.Node) → is_operator a ≡ false → spans a ≡ n.span_of a ∷ []
leaf_spans (n.Constant span) plain = refl
leaf_spans (n.Not a span) plain = absurd (cc)
leaf_spans (n.Logic operator a b span) plain = absurd (cc)
leaf_spans (n.Expression top ps span) plain = refl
leaf_spans (n.Whole ps) plain = refl

-- ---- which expressions are

abbrev IsConstant : Expression → Type 0
IsConstant e = (v : ℤ) × (a : IntType) × (span : Span) × (e ≡ code.Constant v a span)

abbrev IsRead : Expression → Type 0
IsRead e = (object : Place) × (a : IntType) × (e ≡ code.Read object a)

abbrev IsUnary : Expression → Type 0
IsUnary e =
    (operator : UnOp) × (a : IntType) × (x : Box Expression Global) × (span : Span)
    × (e ≡ code.Unary operator a x span)

abbrev IsConvert : Expression → Type 0
IsConvert e =
    (a : IntType) × (written : Bool) × (x : Box Expression Global) × (span : Span)
    × (e ≡ code.Convert a written x span)

abbrev IsChoice : Expression → Type 0
IsChoice e =
    (x : Box Expression Global) × (y : Box Expression Global) × (z : Box Expression Global)
    × (a : IntType) × (span : Span) × (e ≡ code.Choice x y z a span)

abbrev IsCall : Expression → Type 0
IsCall e = (k : FunctionCall) × (a : IntType) × (e ≡ code.Call k a)

abbrev IsInput : Expression → Type 0
IsInput e = (span : Span) × (e ≡ code.Input span)

abbrev pub IsOther : Expression → Type 0
IsOther e =
    IsConstant e ⊎ (IsRead e ⊎ (IsUnary e ⊎ (IsConvert e ⊎ (IsChoice e ⊎ (IsCall e ⊎ IsInput e)))))

seen : (e f : Expression) (a : n.Node) → e ≡ f → node f ≡ a → is_operator a ≡ false → is_operator (node e) ≡ false
seen e f a is there plain = ap (λ (x : Expression). is_operator (node x)) is ∙ (ap is_operator there ∙ plain)

pub leaf : (e : Expression) → IsOther e → is_operator (node e) ≡ false
leaf e (inl (v, a, span, is)) = seen e _ _ is (constant_node v a span) refl
leaf e (inr (inl (object, a, is))) = seen e _ _ is (read_node object a) refl
leaf e (inr (inr (inl (operator, a, x, span, is)))) = seen e _ _ is (unary_node operator a x span) refl
leaf e (inr (inr (inr (inl (a, written, x, span, is))))) = seen e _ _ is (convert_node a written x span) refl
leaf e (inr (inr (inr (inr (inl (x, y, z, a, span, is)))))) = seen e _ _ is (choice_node x y z a span) refl
leaf e (inr (inr (inr (inr (inr (inl (k, a, is))))))) = seen e _ _ is (call_node k a) refl
leaf e (inr (inr (inr (inr (inr (inr (span, is))))))) = seen e _ _ is (input_node span) refl

-- `&`, `|` and `^` between other operands, and each other operator between two
pub binary_leaf : (e left right : Expression) (operator : Operator) (a : IntType) (x y : Box Expression Global) (span : Span) → e ≡ code.Binary operator a x y span → left ≡ x.value → right ≡ y.value → n.full_operator operator (expression_of left) (expression_of right) ≡ None → is_operator (node e) ≡ false
binary_leaf e left right operator a x y span is there other none =
    seen e _ _ is
    (binary_node operator a x y span
    ∙ ap (λ (o : Option FullOperator). n.evaluates_both o operator (node x.value) (node y.value) span)
    (ap (λ (f : Expression). n.full_operator operator (expression_of f) (expression_of y.value)) (sym there)
    ∙ (ap (λ (f : Expression). n.full_operator operator (expression_of left) (expression_of f)) (sym other) ∙ none)))
    refl

-- ---- and which are no operator of decisions at all

unlike : (e f : Expression) (a : n.Node) → e ≡ f → node f ≡ a → false ≡ is_boolean a → false ≡ is_boolean (node e)
unlike e f a is there plain = plain ∙ sym (ap (λ (x : Expression). is_boolean (node x)) is ∙ ap is_boolean there)

pub other : (e : Expression) → IsOther e → false ≡ is_boolean (node e)
other e (inl (v, a, span, is)) = unlike e _ _ is (constant_node v a span) refl
other e (inr (inl (object, a, is))) = unlike e _ _ is (read_node object a) refl
other e (inr (inr (inl (operator, a, x, span, is)))) = unlike e _ _ is (unary_node operator a x span) refl
other e (inr (inr (inr (inl (a, written, x, span, is))))) = unlike e _ _ is (convert_node a written x span) refl
other e (inr (inr (inr (inr (inl (x, y, z, a, span, is)))))) = unlike e _ _ is (choice_node x y z a span) refl
other e (inr (inr (inr (inr (inr (inl (k, a, is))))))) = unlike e _ _ is (call_node k a) refl
other e (inr (inr (inr (inr (inr (inr (span, is))))))) = unlike e _ _ is (input_node span) refl
