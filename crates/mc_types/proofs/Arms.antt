-- What is found at a node, from what is found of its parts one after another: of the faults of each
-- the least alone is kept.
use Rattle.std.proofs.Common.{◌≡◌, ◌≤◌, ◌∙◌, ℕ, ◌+◌, false, List, [], ◌∷◌, length, map, Option, Some, None, refl, sym, ap, arith}
use Rattle.mc_span.specs.declared.span.Span.{Span}
use Rattle.mc_tree.specs.declared.expressions.unary_operator.UnaryOperator.{UnaryOperator}
use Rattle.mc_tree.specs.declared.expressions.step_operator.StepOperator.{StepOperator}
use Rattle.mc_tree.specs.declared.expressions.binary_operator.BinaryOperator.{BinaryOperator}
use Rattle.mc_tree.specs.declared.expressions.assignment_operator.AssignmentOperator.{AssignmentOperator}
use Rattle.mc_tree.specs.declared.expressions.expression.Expression as written
use Rattle.mc_tree.specs.Views.{expression_of, expressions_from}
use Rattle.mc_tree.specs.Tree.{span_of}
use Rattle.mc_tree.specs.Tree as t
use Rattle.mc_typed.specs.Tree.{Argument, Arguments}
use Rattle.types_faults.specs.declared.fault.Fault.{Fault}
use Rattle.types_rules.specs.Profile.{most_summed, sum_of}
use Rattle.types_rules.specs.Types.{CType, ParameterKind}
use Rattle.types_rules.specs.Scopes.{Meaning, Scope, meaning_of}
use Rattle.types_rules.specs.Values.{Judged, Found, lift2}
use Rattle.types_rules.specs.Calls.{Given, judged_given, argument_judged, first_of, rest_of, arguments_judged, parameters_of, argument_count, call_found, comma_found}
use Rattle.types_rules.specs.Expressions.{operator_after, operator_before, index_found, member_found, step_found, unary_found, cast_found, binary_found, conditional_found, assignment_found}
use Rattle.types_rules.specs.Judgement.{judge, judge_arguments, judge_specifiers, typed_by}
use Rattle.types_faults.specs.Kept.{listed, least}
use Rattle.types_rules.proofs.Sums.{start_most, sum_first}
use Rattle.types_scopes.specs.steps.Squeezed.{squeezed, squeezed_part}
use Rattle.types_expressions.specs.steps.Gathered.{squeezed_given, before, gathered, with_last, extended}
use Rattle.types_expressions.proofs.Nodes.{index_node, member_node, step_node, unary_node, cast_node, binary_node, conditional_node, assignment_node, argument_node, call_node, comma_node}
use Rattle.types_scopes.proofs.Squeezed.{least_back, least_least}
use Rattle.types_expressions.proofs.Gathered.{gathered_step}
use Rattle.mc_types.proofs.Turns.{turn}

-- ---- any node

-- of one part
pub one_arm : {X Z : Type 0} (sx : X → X) (sz : Z → Z) (make : X → Z)
    → ((x : X) → sz (make (sx x)) ≡ sz (make x))
    → (p x : X) → x ≡ sx p → sz (make x) ≡ sz (make p)
one_arm sx sz make node p x e = ap (λ v. sz (make v)) e ∙ node p

-- of two parts, the second in the scope after the first one
pub two_arm : {X Y Z : Type 0} (sx : X → X) (sy : Y → Y) (sz : Z → Z) (left : X → Scope)
    (moved : X → Scope → X) (make : X → Y → Z)
    → ((x : X) (y : Y) (s : Scope) → sz (make (moved (sx x) s) (sy y)) ≡ sz (make x y))
    → (p : X) (next : Scope → Y) (x : X) (y : Y) (s : Scope)
    → x ≡ sx p → y ≡ sy (next (left x)) → left (sx p) ≡ left p
    → sz (make (moved x s) y) ≡ sz (make p (next (left p)))
two_arm {Y = Y} sx sy sz left moved make node p next x y s e f g =
    let same : y ≡ sy (next (left p)) = f ∙ ap (λ u. sy (next u)) (ap left e ∙ g) in
    ap (λ v. sz (make (moved v s) y)) e ∙ ap (λ v. sz (make (moved (sx p) s) v)) same
    ∙ node p (next (left p)) s

-- of three parts
pub three_arm : {X Y V Z : Type 0} (sx : X → X) (sy : Y → Y) (sv : V → V) (sz : Z → Z)
    (left : X → Scope) (moved : X → Scope → X) (left_y : Y → Scope) (moved_y : Y → Scope → Y)
    (make : X → Y → V → Z)
    → ((x : X) (y : Y) (v : V) (s u : Scope)
    → sz (make (moved (sx x) s) (moved_y (sy y) u) (sv v)) ≡ sz (make x y v))
    → (p : X) (next : Scope → Y) (last : Scope → V) (x : X) (y : Y) (v : V) (s u : Scope)
    → x ≡ sx p → y ≡ sy (next (left x)) → v ≡ sv (last (left_y y))
    → left (sx p) ≡ left p → ((q : Y) → left_y (sy q) ≡ left_y q)
    → sz (make (moved x s) (moved_y y u) v)
    ≡ sz (make p (next (left p)) (last (left_y (next (left p)))))
three_arm sx sy sv sz left moved left_y moved_y make node p next last x y v s u e f h g k =
    let q : y ≡ sy (next (left p)) = f ∙ ap (λ w. sy (next w)) (ap left e ∙ g) in
    let r : v ≡ sv (last (left_y (next (left p)))) =
    h ∙ ap (λ w. sv (last w)) (ap left_y q ∙ k (next (left p))) in
    ap (λ w. sz (make (moved w s) (moved_y y u) v)) e
    ∙ ap (λ w. sz (make (moved (sx p) s) (moved_y w u) v)) q
    ∙ ap (λ w. sz (make (moved (sx p) s) (moved_y (sy (next (left p))) u) w)) r
    ∙ node p (next (left p)) (last (left_y (next (left p)))) s u

abbrev after : Found → Scope
after x = x.scope

abbrev moved : Found → Scope → Found
moved x s = record x { scope = s }

abbrev after_part : {A : Type 0} → Judged A → Scope
after_part x = x.scope

abbrev moved_part : {A : Type 0} → Judged A → Scope → Judged A
moved_part x s = record x { scope = s }

-- ---- expressions

pub in_member : (name : t.Name) (span : Span) (a : t.Expression) (s : Scope) (x : Found)
    → x ≡ squeezed (judge a s)
    → squeezed (member_found name span x) ≡ squeezed (judge (t.Member a name span) s)
in_member name span a s x e =
    one_arm squeezed squeezed (member_found name span) (λ v. member_node name span v) (judge a s) x e

pub in_unary : (o : UnaryOperator) (span : Span) (a : t.Expression) (s : Scope) (x : Found)
    → x ≡ squeezed (judge a s)
    → squeezed (unary_found o span x) ≡ squeezed (judge (t.Unary o a span) s)
in_unary o span a s x e =
    one_arm squeezed squeezed (unary_found o span) (λ v. unary_node o span v) (judge a s) x e

pub in_postfix : (o : StepOperator) (span : Span) (a : t.Expression) (s : Scope) (x : Found)
    → x ≡ squeezed (judge a s)
    → squeezed (step_found o (operator_after span) span x)
    ≡ squeezed (judge (t.PostfixStep o a span) s)
in_postfix o span a s x e =
    one_arm squeezed squeezed (step_found o (operator_after span) span)
    (λ v. step_node o (operator_after span) span v) (judge a s) x e

pub in_prefix : (o : StepOperator) (span : Span) (a : t.Expression) (s : Scope) (x : Found)
    → x ≡ squeezed (judge a s)
    → squeezed (step_found o (operator_before span) span x)
    ≡ squeezed (judge (t.PrefixStep o a span) s)
in_prefix o span a s x e =
    one_arm squeezed squeezed (step_found o (operator_before span) span)
    (λ v. step_node o (operator_before span) span v) (judge a s) x e

pub in_index : (span : Span) (a b : t.Expression) (s : Scope) (x y : Found)
    → x ≡ squeezed (judge a s) → y ≡ squeezed (judge b x.scope)
    → squeezed (index_found span (record x { scope = y.scope }) y)
    ≡ squeezed (judge (t.Index a b span) s)
in_index span a b s x y e f =
    two_arm squeezed squeezed squeezed after moved (index_found span)
    (λ v w u. index_node span v w u) (judge a s) (λ u. judge b u) x y y.scope e f refl

pub in_binary : (o : BinaryOperator) (span : Span) (a b : t.Expression) (s : Scope) (x y : Found)
    → x ≡ squeezed (judge a s) → y ≡ squeezed (judge b x.scope)
    → squeezed (binary_found o span (record x { scope = y.scope }) y)
    ≡ squeezed (judge (t.Binary o a b span) s)
in_binary o span a b s x y e f =
    two_arm squeezed squeezed squeezed after moved (binary_found o span)
    (λ v w u. binary_node o span v w u) (judge a s) (λ u. judge b u) x y y.scope e f refl

pub in_assignment : (o : AssignmentOperator) (span : Span) (a b : t.Expression) (s : Scope)
    (x y : Found)
    → x ≡ squeezed (judge a s) → y ≡ squeezed (judge b x.scope)
    → squeezed (assignment_found o span (record x { scope = y.scope }) y)
    ≡ squeezed (judge (t.Assignment o a b span) s)
in_assignment o span a b s x y e f =
    two_arm squeezed squeezed squeezed after moved (assignment_found o span)
    (λ v w u. assignment_node o span v w u) (judge a s) (λ u. judge b u) x y y.scope e f refl

pub in_cast : (span : Span) (all : t.Specifiers) (stars : ℕ) (type_span : Span) (a : t.Expression)
    (s : Scope) (x : Judged CType) (y : Found)
    → x ≡ squeezed_part (typed_by type_span.start all (judge_specifiers false all s))
    → y ≡ squeezed (judge a x.scope)
    → squeezed (cast_found span (record x { scope = y.scope }) a y)
    ≡ squeezed (judge (t.Cast (t.type_name all stars type_span) a span) s)
in_cast span all stars type_span a s x y e f =
    two_arm squeezed_part squeezed squeezed after_part moved_part (λ v w. cast_found span v a w)
    (λ v w u. cast_node span v a w u) (typed_by type_span.start all (judge_specifiers false all s))
    (λ u. judge a u) x y y.scope e f refl

pub in_conditional : (span : Span) (a b c : t.Expression) (s : Scope) (x y z : Found)
    → x ≡ squeezed (judge a s) → y ≡ squeezed (judge b x.scope) → z ≡ squeezed (judge c y.scope)
    → squeezed (conditional_found span (record x { scope = z.scope }) (record y { scope = z.scope }) z)
    ≡ squeezed (judge (t.Conditional a b c span) s)
in_conditional span a b c s x y z e f g =
    three_arm squeezed squeezed squeezed squeezed after moved after moved (conditional_found span)
    (λ v w q u r. conditional_node span v w q u r) (judge a s) (λ u. judge b u) (λ u. judge c u)
    x y z z.scope z.scope e f g refl (λ q. refl)

pub in_call : (name : t.Name) (count : ℕ) (span : Span) (given : t.Expressions) (s : Scope)
    (callee : Option Meaning) (ps : List ParameterKind) (x : Given Arguments)
    → count ≡ argument_count given → ps ≡ parameters_of callee
    → parameters_of callee ≡ parameters_of (meaning_of name s)
    → ((n : t.Name) (k : ℕ) (at : Span) (v : Given Arguments)
    → call_found n k at callee v ≡ call_found n k at (meaning_of name s) v)
    → x ≡ squeezed_given (judge_arguments given ps s)
    → squeezed (call_found name count span callee x)
    ≡ squeezed (judge (t.Call name given span) s)
in_call name count span given s callee ps x h p q f e =
    ap (λ (k : ℕ). squeezed (call_found name k span callee x)) h
    ∙ ap squeezed (f name (argument_count given) span x)
    ∙ ap (λ (v : Given Arguments).
    squeezed (call_found name (argument_count given) span (meaning_of name s) v)) e
    ∙ call_node name (argument_count given) span (meaning_of name s) (judge_arguments given ps s)
    ∙ ap (λ (all : List ParameterKind).
    squeezed (call_found name (argument_count given) span (meaning_of name s)
    (judge_arguments given all s))) (p ∙ q)

pub in_comma : (span : Span) (given : t.Expressions) (s : Scope) (x : Given Arguments)
    → x ≡ squeezed_given (judge_arguments given [] s)
    → squeezed (comma_found span.start x) ≡ squeezed (judge (t.Comma given span) s)
in_comma span given s x e =
    one_arm squeezed_given squeezed (comma_found span.start) (λ v. comma_node span.start v)
    (judge_arguments given [] s) x e

-- ---- arguments

abbrev after_given : {A : Type 0} → Given A → Scope
after_given x = x.scope

extended_node : (x : Given (List Argument)) (y : Given Argument) (s : Scope)
    → squeezed_given (extended (record x { scope = s }) (squeezed_given y))
    ≡ squeezed_given (extended x y)
extended_node x y s =
    ap (λ (fs : List Fault).
    judged_given fs (lift2 with_last x.value y.value) (sum_of x.copied y.copied) y.scope)
    (least_back x.faults (least y.faults) y.faults (ap listed (least_least y.faults)))

pub argument_turn : (p : Option ParameterKind) (e : t.Expression) (s u : Scope) (f : Found)
    (x n : Given (List Argument)) (o : Given Argument) (ps : List ParameterKind)
    (rest : t.Expressions)
    → f ≡ squeezed (judge e s)
    → o ≡ squeezed_given (argument_judged (span_of e).start p f)
    → n ≡ squeezed_given (extended (record x { scope = o.scope }) o)
    → first_of ps ≡ p
    → squeezed_given (gathered n (judge_arguments rest (rest_of ps) o.scope))
    ≡ squeezed_given (gathered x (judge_arguments (t.expressions e rest) ps s))
argument_turn p e s u f x n o ps rest hf ho hn hp =
    let one : Given Argument = argument_judged (span_of e).start (first_of ps) (judge e s) in
    let same : o ≡ squeezed_given one =
    ho ∙ ap (λ (v : Found). squeezed_given (argument_judged (span_of e).start p v)) hf
    ∙ argument_node (span_of e).start p (judge e s)
    ∙ ap (λ (q : Option ParameterKind).
    squeezed_given (argument_judged (span_of e).start q (judge e s))) (sym hp) in
    turn squeezed_given squeezed_given squeezed_given after_given
    (λ (v : Given (List Argument)) (w : Scope). record v { scope = w }) extended gathered
    arguments_judged extended_node (λ v w y. gathered_step v w y) x one
    (λ (w : Scope). judge_arguments rest (rest_of ps) w) o n same refl hn

before_none : (v : Option Arguments) → lift2 before (Some []) v ≡ v
before_none None = refl
before_none (Some given) = refl

pub copied_few : (es : t.Expressions) (ps : List ParameterKind) (s : Scope)
    → (judge_arguments es ps s).copied ≤ most_summed
copied_few t.no_expressions ps s = omega arith
copied_few (t.expressions e rest) ps s =
    let x = argument_judged (span_of e).start (first_of ps) (judge e s) in
    start_most most_summed (x.copied + (judge_arguments rest (rest_of ps) x.scope).copied)

-- no arguments before these
pub none_before : (s : Scope) (y : Given Arguments) → y.copied ≤ most_summed
    → squeezed_given (gathered (judged_given [] (Some []) 0 s) y) ≡ squeezed_given y
none_before s y few =
    ap (λ (v : Option Arguments). judged_given (least y.faults) v (sum_of 0 y.copied) y.scope)
    (before_none y.value)
    ∙ ap (λ (n : ℕ). judged_given (least y.faults) y.value n y.scope) (sum_first y.copied few)

pub count_listed : (all : List written.Expression)
    → length all ≡ argument_count (expressions_from (map expression_of all))
count_listed [] = refl
count_listed (e ∷ rest) = omega (arith, count_listed rest)
