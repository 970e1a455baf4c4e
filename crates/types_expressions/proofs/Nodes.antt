-- What is found at a node of parts of which the least faults alone are kept, is the same with the
-- least fault alone. The scope of a part before the last one does not count.
use Rattle.std.proofs.Common.{◌≡◌, ◌∙◌, ℕ, List, pos, false, ◌&&◌, Option, Some, None, ap, option_map, option_and_then}
use Rattle.mc_span.specs.declared.span.Span.{Span}
use Rattle.mc_tree.specs.declared.expressions.unary_operator.UnaryOperator.{UnaryOperator}
use Rattle.mc_tree.specs.declared.expressions.step_operator.StepOperator.{StepOperator}
use Rattle.mc_tree.specs.declared.expressions.binary_operator.BinaryOperator.{BinaryOperator}
use Rattle.mc_tree.specs.declared.expressions.assignment_operator.AssignmentOperator.{AssignmentOperator}
use Rattle.mc_tree.specs.declared.expressions.assignment_operator.AssignmentOperator.TheVariants as assign
use Rattle.mc_tree.specs.Tree.{Name, Expression}
use Rattle.mc_value.specs.declared.int_type.IntType.TheVariants as the
use Rattle.types_faults.specs.declared.fault.Fault.{Fault}
use Rattle.types_rules.specs.Types.{CType}
use Rattle.types_rules.specs.Scopes.{Scope}
use Rattle.types_rules.specs.Values.{Judged, Number, Found, found, part, kind_found, number_found, lift2}
use Rattle.types_rules.specs.Expressions.{literal, index_faults, index_value, index_found, member_faults, member_of, member_found, unary_faults, typed_unary, is_arithmetic, unary_found, cast_faults, cast_value, may_cast_to_integer, cast_found, operands_faults, typed_binary, binary_found, conditional_faults, conditional_value, conditional_found, assign_faults, assign_effect, assignment_value, assign_found, update_faults, update_effect, update_found, assignment_found, step_operator, step_found}
use Rattle.types_rules.specs.Types.{ParameterKind}
use Rattle.types_rules.specs.Scopes.{Meaning, cells_counted, with_counted}
use Rattle.types_rules.specs.Values.{judged}
use Rattle.types_rules.specs.Profile.{sum_of}
use Rattle.types_rules.specs.Calls.{Given, judged_given, argument_faults, argument_value, copy_of, argument_judged, arguments_judged, callee_faults, call_value, after_call, call_found, comma_found}
use Rattle.types_faults.specs.Faults.{fault}
use Rattle.types_faults.specs.declared.fault.FaultKind.TheVariants.{Mismatch}
use Rattle.mc_typed.specs.Tree.{Argument, Arguments}
use Rattle.mc_typed.specs.Tree as t
use Rattle.types_faults.specs.Kept.{listed, least}
use Rattle.types_scopes.specs.steps.Squeezed.{squeezed, squeezed_part}
use Rattle.types_expressions.specs.steps.Gathered.{squeezed_given}
use Rattle.types_scopes.proofs.Squeezed.{one_part, two_parts, three_parts, least_front, least_back, least_least}

pub unary_node : (operator : UnaryOperator) (span : Span) (x : Found)
    → squeezed (unary_found operator span (squeezed x)) ≡ squeezed (unary_found operator span x)
unary_node operator span x =
    ap (found false (is_arithmetic operator && x.constant))
    (one_part (unary_faults operator span.start (kind_found x))
    (option_map Number (option_and_then (typed_unary operator span) (number_found x))) (part x))

pub member_node : (name : Name) (span : Span) (x : Found)
    → squeezed (member_found name span (squeezed x)) ≡ squeezed (member_found name span x)
member_node name span x =
    ap (found x.place false)
    (one_part (member_faults span.start name x.scope.structures x.place (kind_found x))
    (option_and_then (member_of x.scope.structures name span) x.value) (part x))

pub index_node : (span : Span) (x y : Found) (s : Scope)
    → squeezed (index_found span (record (squeezed x) { scope = s }) (squeezed y)) ≡ squeezed (index_found span x y)
index_node span x y s =
    ap (found x.place false)
    (two_parts (index_faults span.start x.place (kind_found x) (kind_found y))
    (index_value y.scope.structures span x.value (number_found y)) (record (part x) { scope = s }) (part y))

pub cast_node : (span : Span) (type : Judged CType) (e : Expression) (x : Found) (s : Scope)
    → squeezed (cast_found span (record (squeezed_part type) { scope = s }) e (squeezed x)) ≡ squeezed (cast_found span type e x)
cast_node span type e x s =
    ap (found false (x.constant && may_cast_to_integer type.value))
    (two_parts (cast_faults span.start e (kind_found x) type.value) (cast_value span type.value x.value)
    (record type { scope = s }) (part x))

pub binary_node : (operator : BinaryOperator) (span : Span) (x y : Found) (s : Scope)
    → squeezed (binary_found operator span (record (squeezed x) { scope = s }) (squeezed y))
    ≡ squeezed (binary_found operator span x y)
binary_node operator span x y s =
    ap (found false (x.constant && y.constant))
    (two_parts (operands_faults span.start (kind_found x) (kind_found y))
    (option_map Number (lift2 (typed_binary operator span) (number_found x) (number_found y)))
    (record (part x) { scope = s }) (part y))

pub conditional_node : (span : Span) (x y z : Found) (s u : Scope)
    → squeezed (conditional_found span (record (squeezed x) { scope = s }) (record (squeezed y) { scope = u }) (squeezed z))
    ≡ squeezed (conditional_found span x y z)
conditional_node span x y z s u =
    ap (found false (x.constant && y.constant && z.constant))
    (three_parts (conditional_faults span.start (kind_found x) (kind_found y) (kind_found z))
    (conditional_value span (number_found x) y.value z.value)
    (record (part x) { scope = s }) (record (part y) { scope = u }) (part z))

pub assign_node : (span : Span) (x y : Found) (s : Scope)
    → squeezed (assign_found span (record (squeezed x) { scope = s }) (squeezed y)) ≡ squeezed (assign_found span x y)
assign_node span x y s =
    ap (found false false)
    (two_parts (assign_faults span.start x.place x.value (kind_found y))
    (assignment_value (assign_effect y.scope.structures span) x.value y.value)
    (record (part x) { scope = s }) (part y))

pub update_node : (operator : AssignmentOperator) (span : Span) (x y : Found) (s : Scope)
    → squeezed (update_found operator span (record (squeezed x) { scope = s }) (squeezed y))
    ≡ squeezed (update_found operator span x y)
update_node operator span x y s =
    ap (found false false)
    (two_parts (update_faults span.start x.place x.value (kind_found y))
    (assignment_value (update_effect operator span) x.value y.value)
    (record (part x) { scope = s }) (part y))

pub assignment_node : (operator : AssignmentOperator) (span : Span) (x y : Found) (s : Scope)
    → squeezed (assignment_found operator span (record (squeezed x) { scope = s }) (squeezed y))
    ≡ squeezed (assignment_found operator span x y)
assignment_node assign.Assign span x y s = assign_node span x y s
assignment_node assign.Multiply span x y s = update_node assign.Multiply span x y s
assignment_node assign.Divide span x y s = update_node assign.Divide span x y s
assignment_node assign.Remainder span x y s = update_node assign.Remainder span x y s
assignment_node assign.Add span x y s = update_node assign.Add span x y s
assignment_node assign.Subtract span x y s = update_node assign.Subtract span x y s
assignment_node assign.ShiftLeft span x y s = update_node assign.ShiftLeft span x y s
assignment_node assign.ShiftRight span x y s = update_node assign.ShiftRight span x y s
assignment_node assign.BitAnd span x y s = update_node assign.BitAnd span x y s
assignment_node assign.BitXor span x y s = update_node assign.BitXor span x y s
assignment_node assign.BitOr span x y s = update_node assign.BitOr span x y s

pub step_node : (operator : StepOperator) (at span : Span) (x : Found)
    → squeezed (step_found operator at span (squeezed x)) ≡ squeezed (step_found operator at span x)
step_node operator at span x =
    update_node (step_operator operator) span x (literal (pos 1) (Some the.Int) at x.scope) x.scope

-- ---- calls

pub argument_node : (at : ℕ) (p : Option ParameterKind) (x : Found)
    → squeezed_given (argument_judged at p (squeezed x)) ≡ squeezed_given (argument_judged at p x)
argument_node at p x =
    let a = argument_value x.scope p x.value in
    let copy = copy_of x.scope p a in
    ap (λ (fs : List Fault). judged_given fs a (cells_counted copy) (with_counted copy x.scope))
    (least_front x.faults (argument_faults at p (kind_found x)))

pub arguments_node : (x : Given Argument) (y : Given Arguments) (s : Scope)
    → squeezed_given (arguments_judged (record (squeezed_given x) { scope = s }) (squeezed_given y))
    ≡ squeezed_given (arguments_judged x y)
arguments_node x y s =
    ap (λ (fs : List Fault). judged_given fs (lift2 t.arguments x.value y.value) (sum_of x.copied y.copied) y.scope)
    (least_front x.faults (least y.faults) ∙ least_back x.faults (least y.faults) y.faults (ap listed (least_least y.faults)))

pub call_node : (name : Name) (count : ℕ) (span : Span) (meaning : Option Meaning) (x : Given Arguments)
    → squeezed (call_found name count span meaning (squeezed_given x)) ≡ squeezed (call_found name count span meaning x)
call_node name count span meaning x =
    let v = call_value name span meaning x.scope x.value in
    ap (λ (fs : List Fault). found false false (judged fs v (after_call v x.copied x.scope)))
    (least_front x.faults (callee_faults name span.start count x.scope meaning))

pub comma_node : (at : ℕ) (x : Given Arguments)
    → squeezed (comma_found at (squeezed_given x)) ≡ squeezed (comma_found at x)
comma_node at x =
    ap (λ (fs : List Fault). found false false (judged fs None x.scope))
    (least_front x.faults (fault Mismatch at))
