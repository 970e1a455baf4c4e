-- The node of an expression, by the operands that the code reads.
use Rattle.std.proofs.Common.{◌≡◌, ◌∙◌, refl, sym, ap, Bool, true, false, ◌&&◌, ◌⊎◌, inl, inr, Option, Some, None, Box, Result, Ok, Err, IfOk}
use Rattle.std.specs.Global.{Global}
use Rattle.mc_span.specs.declared.span.Span.{Span}
use Rattle.mc_value.specs.declared.int_type.IntType.{IntType}
use Rattle.mc_value.specs.declared.operators.UnOp.{UnOp}
use Rattle.mc_typed.specs.declared.operators.Operator.{Operator}
use Rattle.mc_typed.specs.declared.operators.LogicOperator.{LogicOperator}
use Rattle.mc_typed.specs.declared.probes.Probe.{Probe}
use Rattle.mc_typed.specs.declared.expressions.Expression.{Expression}
use Rattle.mc_typed.specs.declared.expressions.Expression.TheVariants as code
use Rattle.decide_rules.specs.declared.role.Role.{Role}
use Rattle.decide_rules.specs.declared.role.Role.TheVariants.{Plain}
use Rattle.mc_typed.specs.Views.{expression_of}
use Rattle.decide_rules.specs.declared.operators.FullOperator.{FullOperator}
use Rattle.decide_rules.specs.declared.operators.Junction.TheVariants.{Short}
use Rattle.decide_rules.specs.Nodes as n
use Rattle.decide_rules.specs.Roots.{is_constant}
use Rattle.decide_walk.specs.steps.Gathering.{Gathered, inside, role_under, visited}
use Rattle.decide_walk.proofs.Shapes.{node, unary_node, convert_node, not_node, binary_node, logic_node, choice_node, probe_node}

pub is_not : (e inner : Expression) (x : Box Expression Global) (span : Span) → e ≡ code.Not x span → inner ≡ x.value → node e ≡ n.Not (node inner) span
is_not e inner x span is there =
    ap node is ∙ (not_node x span ∙ ap (λ (f : Expression). n.Not (node f) span) (sym there))

pub is_binary : (e left right : Expression) (operator : Operator) (a : IntType) (x y : Box Expression Global) (span : Span) → e ≡ code.Binary operator a x y span → left ≡ x.value → right ≡ y.value → node e ≡ n.evaluates_both (n.full_operator operator (expression_of left) (expression_of right)) operator (node left) (node right) span
is_binary e left right operator a x y span is there other =
    ap node is ∙ (binary_node operator a x y span
    ∙ (ap (λ (f : Expression). n.evaluates_both (n.full_operator operator (expression_of f) (expression_of y.value)) operator (node f) (node y.value) span) (sym there)
    ∙ ap (λ (f : Expression). n.evaluates_both (n.full_operator operator (expression_of left) (expression_of f)) operator (node left) (node f) span) (sym other)))

-- what stands in an operator that evaluates both of its operands
both_found : (full : Option FullOperator) (operator : Operator) (a b : n.Node) (span : Span) (g : Gathered) → inside (n.evaluates_both full operator a b span) g ≡ visited (role_under full) b (visited (role_under full) a g)
both_found (Some f) operator a b span g = refl
both_found None operator a b span g = refl

and_more : (p q : Bool) → (p && (q && true)) ≡ (p && q)
and_more true true = refl
and_more true false = refl
and_more false q = refl

both_constant_of : (full : Option FullOperator) (operator : Operator) (a b : n.Node) (span : Span) → is_constant (n.evaluates_both full operator a b span) ≡ (is_constant a && is_constant b)
both_constant_of (Some f) operator a b span = refl
both_constant_of None operator a b span = and_more (is_constant a) (is_constant b)

pub same_full : (operator : Operator) (left right x y : Expression) → left ≡ x → right ≡ y → n.full_operator operator (expression_of left) (expression_of right) ≡ n.full_operator operator (expression_of x) (expression_of y)
same_full operator left right x y e f =
    ap (λ (z : Expression). n.full_operator operator (expression_of z) (expression_of right)) e
    ∙ ap (λ (z : Expression). n.full_operator operator (expression_of x) (expression_of z)) f

-- and what it is at the end of a walk over the two
pub both_walked : {A E : Type 0} (r : Result A E) (full : Option FullOperator) (role : Role) (operator : Operator) (whole a b : n.Node) (span : Span) (old middle new : Gathered) → whole ≡ n.evaluates_both full operator a b span → role ≡ role_under full → middle ≡ visited role a old → IfOk r (λ _. new ≡ visited role b middle) → IfOk r (λ _. new ≡ inside whole old)
both_walked (Ok x) full role operator whole a b span old middle new is how first h =
    h ∙ (ap (visited role b) first
    ∙ (ap (λ (i : Role). visited i b (visited i a old)) how
    ∙ sym (ap (λ (m : n.Node). inside m old) is ∙ both_found full operator a b span old)))
both_walked (Err f) full role operator whole a b span old middle new is how first h = tt

pub both_settled : {E : Type 0} (r : Result Bool E) (full : Option FullOperator) (operator : Operator) (whole a b : n.Node) (span : Span) (x : Bool) → whole ≡ n.evaluates_both full operator a b span → x ≡ is_constant a → IfOk r (λ c. c ≡ (x && is_constant b)) → IfOk r (λ c. c ≡ is_constant whole)
both_settled (Ok c) full operator whole a b span x is first h =
    h ∙ (ap (λ (p : Bool). p && is_constant b) first
    ∙ sym (ap is_constant is ∙ both_constant_of full operator a b span))
both_settled (Err f) full operator whole a b span x is first h = tt

pub is_logic : (e left right : Expression) (operator : LogicOperator) (x y : Box Expression Global) (span : Span) → e ≡ code.Logic operator x y span → left ≡ x.value → right ≡ y.value → node e ≡ n.Logic (Short operator) (node left) (node right) span
is_logic e left right operator x y span is there other =
    ap node is ∙ (logic_node operator x y span
    ∙ (ap (λ (f : Expression). n.Logic (Short operator) (node f) (node y.value) span) (sym there)
    ∙ ap (λ (f : Expression). n.Logic (Short operator) (node left) (node f) span) (sym other)))

pub is_choice : (e test chosen other : Expression) (x y z : Box Expression Global) (a : IntType) (span : Span) → e ≡ code.Choice x y z a span → test ≡ x.value → chosen ≡ y.value → other ≡ z.value → node e ≡ n.Expression (n.Operator false) (n.controlling (node test) (n.part (node chosen) (n.part (node other) n.no_parts))) span
is_choice e test chosen other x y z a span is e0 e1 e2 =
    ap node is ∙ (choice_node x y z a span
    ∙ (ap (λ (f : Expression). n.Expression (n.Operator false) (n.controlling (node f) (n.part (node y.value) (n.part (node z.value) n.no_parts))) span) (sym e0)
    ∙ (ap (λ (f : Expression). n.Expression (n.Operator false) (n.controlling (node test) (n.part (node f) (n.part (node z.value) n.no_parts))) span) (sym e1)
    ∙ ap (λ (f : Expression). n.Expression (n.Operator false) (n.controlling (node test) (n.part (node chosen) (n.part (node f) n.no_parts))) span) (sym e2))))

pub is_probe : (e inner : Expression) (probe : Probe) (x : Box Expression Global) → e ≡ code.Probe probe x → inner ≡ x.value → node e ≡ node inner
is_probe e inner probe x is there = ap node is ∙ (probe_node probe x ∙ ap node (sym there))

-- ---- an operator with one operand, or a conversion

abbrev IsUnary : Expression → Box Expression Global → Type 0
IsUnary e x = (operator : UnOp) × (a : IntType) × (span : Span) × (e ≡ code.Unary operator a x span)

abbrev IsConvert : Expression → Box Expression Global → Type 0
IsConvert e x = (a : IntType) × (written : Bool) × (span : Span) × (e ≡ code.Convert a written x span)

pub carried_found : (e inner : Expression) (x : Box Expression Global) (g : Gathered) → IsUnary e x ⊎ IsConvert e x → inner ≡ x.value → visited Plain (node inner) g ≡ inside (node e) g
carried_found e inner x g (inl (operator, a, span, is)) there =
    ap (λ (f : Expression). visited Plain (node f) g) there
    ∙ sym (ap (λ (f : Expression). inside (node f) g) is ∙ ap (λ (m : n.Node). inside m g) (unary_node operator a x span))
carried_found e inner x g (inr (a, written, span, is)) there =
    ap (λ (f : Expression). visited Plain (node f) g) there
    ∙ sym (ap (λ (f : Expression). inside (node f) g) is ∙ ap (λ (m : n.Node). inside m g) (convert_node a written x span))

pub carried_constant : (e inner : Expression) (x : Box Expression Global) → IsUnary e x ⊎ IsConvert e x → inner ≡ x.value → (is_constant (node inner) && true) ≡ is_constant (node e)
carried_constant e inner x (inl (operator, a, span, is)) there =
    ap (λ (f : Expression). is_constant (node f) && true) there
    ∙ sym (ap (λ (f : Expression). is_constant (node f)) is ∙ ap is_constant (unary_node operator a x span))
carried_constant e inner x (inr (a, written, span, is)) there =
    ap (λ (f : Expression). is_constant (node f) && true) there
    ∙ sym (ap (λ (f : Expression). is_constant (node f)) is ∙ ap is_constant (convert_node a written x span))
