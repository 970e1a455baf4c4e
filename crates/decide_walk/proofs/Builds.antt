-- The tree of a part and the places of its conditions, from those of its operands.
use Rattle.std.proofs.Common.{◌≡◌, ◌∙◌, sym, ap, ℕ, ◌+◌, false, List, [], ◌∷◌, ◌++◌, append_assoc, Option, Some, Box, Result, Ok, Err, IfOk, arith}
use Rattle.std.specs.Global.{Global}
use Rattle.mc_span.specs.declared.span.Span.{Span}
use Rattle.mc_cond.specs.declared.tree.CondTree.{CondTree}
use Rattle.mc_cond.specs.Tree.{tree_of, Leaf}
use Rattle.mc_cond.specs.Tree as c
use Rattle.mc_typed.specs.declared.operators.LogicOperator.{LogicOperator}
use Rattle.mc_typed.specs.declared.probes.Probe.{Probe}
use Rattle.mc_typed.specs.declared.expressions.Expression.{Expression}
use Rattle.mc_typed.specs.declared.expressions.Expression.TheVariants as code
use Rattle.mc_value.specs.declared.int_type.IntType.{IntType}
use Rattle.mc_typed.specs.declared.operators.Operator.{Operator}
use Rattle.mc_typed.specs.Views.{expression_of}
use Rattle.decide_rules.specs.declared.operators.FullOperator.{FullOperator}
use Rattle.decide_rules.specs.declared.operators.Junction.{Junction}
use Rattle.decide_rules.specs.declared.operators.Junction.TheVariants.{Short, Full}
use Rattle.decide_rules.specs.Nodes.{Node, Not, Logic, span_of}
use Rattle.decide_rules.specs.Nodes as n
use Rattle.decide_rules.specs.Conditions.{is_operator, joined, tree_from, width}
use Rattle.decide_rules.specs.steps.Walk.{spans}
use Rattle.decide_walk.proofs.Shapes.{node, not_node, binary_node, logic_node, probe_node}
use Rattle.decide_walk.proofs.Leaves.{leaf_tree, leaf_width, leaf_spans}

-- ---- the nodes of operators, by the operands that the code reads

pub is_not : (e inner : Expression) (x : Box Expression Global) (span : Span) → e ≡ code.Not x span → inner ≡ x.value → node e ≡ Not (node inner) span
is_not e inner x span is there =
    ap node is ∙ (not_node x span ∙ ap (λ (f : Expression). Not (node f) span) (sym there))

pub is_logic : (e left right : Expression) (operator : LogicOperator) (x y : Box Expression Global) (span : Span) → e ≡ code.Logic operator x y span → left ≡ x.value → right ≡ y.value → node e ≡ Logic (Short operator) (node left) (node right) span
is_logic e left right operator x y span is there other =
    ap node is ∙ (logic_node operator x y span
    ∙ (ap (λ (f : Expression). Logic (Short operator) (node f) (node y.value) span) (sym there)
    ∙ ap (λ (f : Expression). Logic (Short operator) (node left) (node f) span) (sym other)))

pub is_full : (e left right : Expression) (operator : Operator) (a : IntType) (full : FullOperator) (x y : Box Expression Global) (span : Span) → e ≡ code.Binary operator a x y span → left ≡ x.value → right ≡ y.value → n.full_operator operator (expression_of left) (expression_of right) ≡ Some full → node e ≡ Logic (Full full) (node left) (node right) span
is_full e left right operator a full x y span is there other some =
    ap node is ∙ (binary_node operator a x y span
    ∙ (ap (λ (f : Expression). n.evaluates_both (n.full_operator operator (expression_of f) (expression_of y.value)) operator (node f) (node y.value) span) (sym there)
    ∙ (ap (λ (f : Expression). n.evaluates_both (n.full_operator operator (expression_of left) (expression_of f)) operator (node left) (node f) span) (sym other)
    ∙ ap (λ (o : Option FullOperator). n.evaluates_both o operator (node left) (node right) span) some)))

pub is_probe : (e inner : Expression) (probe : Probe) (x : Box Expression Global) → e ≡ code.Probe probe x → inner ≡ x.value → node e ≡ node inner
is_probe e inner probe x is there = ap node is ∙ (probe_node probe x ∙ ap node (sym there))

-- ---- whatever came before the last step

pub if_any : {A E P : Type 0} (r : Result A E) → P → IfOk r (λ _. P)
if_any (Ok x) h = h
if_any (Err e) h = tt

-- ---- a condition

pub condition_tree : {E : Type 0} (r : Result CondTree E) (first : ℕ) (a : Node) → is_operator a ≡ false → IfOk r (λ t. tree_of t ≡ Leaf first) → IfOk r (λ t. tree_of t ≡ tree_from first a)
condition_tree (Ok t) first a plain h = h ∙ sym (leaf_tree first a plain)
condition_tree (Err e) first a plain h = tt

pub condition_count : {E : Type 0} (r : Result CondTree E) (old new : ℕ) (a : Node) → is_operator a ≡ false → IfOk r (λ _. new ≡ old + 1) → IfOk r (λ _. new ≡ old + width a)
condition_count (Ok t) old new a plain h = h ∙ ap (λ (k : ℕ). old + k) (sym (leaf_width a plain))
condition_count (Err e) old new a plain h = tt

pub condition_spans : {E : Type 0} (r : Result CondTree E) (span : Span) (old new : List Span) (a : Node) → is_operator a ≡ false → span ≡ span_of a → IfOk r (λ _. new ≡ old ++ span ∷ []) → IfOk r (λ _. new ≡ old ++ spans a)
condition_spans (Ok t) span old new a plain there h =
    h ∙ ap (λ (xs : List Span). old ++ xs)
    (ap (λ (s : Span). s ∷ []) there ∙ sym (leaf_spans a plain))
condition_spans (Err e) span old new a plain there h = tt

-- ---- `!`

pub not_tree : {E : Type 0} (r : Result CondTree E) (x : CondTree) (first : ℕ) (whole a : Node) (span : Span) → whole ≡ Not a span → tree_of x ≡ tree_from first a → IfOk r (λ t. tree_of t ≡ c.Not (tree_of x)) → IfOk r (λ t. tree_of t ≡ tree_from first whole)
not_tree (Ok t) x first whole a span e there h =
    h ∙ (ap c.Not there ∙ ap (tree_from first) (sym e))
not_tree (Err f) x first whole a span e there h = tt

-- ---- the operators between two operands

pub logic_tree : {E : Type 0} (r : Result CondTree E) (operator : Junction) (x y : CondTree) (first middle : ℕ) (whole a b : Node) (span : Span) → whole ≡ Logic operator a b span → tree_of x ≡ tree_from first a → tree_of y ≡ tree_from middle b → middle ≡ first + width a → IfOk r (λ t. tree_of t ≡ joined operator (tree_of x) (tree_of y)) → IfOk r (λ t. tree_of t ≡ tree_from first whole)
logic_tree (Ok t) operator x y first middle whole a b span e left right between h =
    h ∙ (ap (λ (u : c.Tree). joined operator u (tree_of y)) left
    ∙ (ap (joined operator (tree_from first a)) (right ∙ ap (λ (k : ℕ). tree_from k b) between)
    ∙ ap (tree_from first) (sym e)))
logic_tree (Err f) operator x y first middle whole a b span e left right between h = tt

pub logic_count : (old middle new : ℕ) (operator : Junction) (whole a b : Node) (span : Span) → whole ≡ Logic operator a b span → middle ≡ old + width a → new ≡ middle + width b → new ≡ old + width whole
logic_count old middle new operator whole a b span e left right =
    let wide : width whole ≡ width a + width b = ap width e in omega (arith, left, right, wide)

pub logic_spans : (old middle new : List Span) (operator : Junction) (whole a b : Node) (span : Span) → whole ≡ Logic operator a b span → middle ≡ old ++ spans a → new ≡ middle ++ spans b → new ≡ old ++ spans whole
logic_spans old middle new operator whole a b span e left right =
    right ∙ (ap (λ (xs : List Span). xs ++ spans b) left
    ∙ (append_assoc old (spans a) (spans b) ∙ ap (λ (w : Node). old ++ spans w) (sym e)))
