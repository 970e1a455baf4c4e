-- Expressions (C17 6.5): what is found at each node, from what is found of its parts.
use Rattle.std.specs.Prelude.{ℕ, ◌+◌, ◌-◌, min, ◌==◌, ℤ, pos, Bool, true, false, not, ◌&&◌, ◌||◌, if◌then◌else◌, List, [], ◌∷◌, ◌++◌, map, slice_get, bytes_eq, Option, Some, None, option_map, option_and_then, is_none}
use Rattle.mc_span.specs.declared.span.Span.{Span}
use Rattle.mc_tree.specs.declared.expressions.unary_operator.UnaryOperator.{UnaryOperator}
use Rattle.mc_tree.specs.declared.expressions.unary_operator.UnaryOperator.TheVariants as unary
use Rattle.mc_tree.specs.declared.expressions.step_operator.StepOperator.{StepOperator}
use Rattle.mc_tree.specs.declared.expressions.step_operator.StepOperator.TheVariants as step
use Rattle.mc_tree.specs.declared.expressions.binary_operator.BinaryOperator.{BinaryOperator}
use Rattle.mc_tree.specs.declared.expressions.binary_operator.BinaryOperator.TheVariants as binary
use Rattle.mc_tree.specs.declared.expressions.assignment_operator.AssignmentOperator.{AssignmentOperator}
use Rattle.mc_tree.specs.declared.expressions.assignment_operator.AssignmentOperator.TheVariants as assign
use Rattle.mc_tree.specs.Tree.{Name, Expression}
use Rattle.mc_value.specs.declared.int_type.IntType.{IntType}
use Rattle.mc_value.specs.declared.int_type.IntType.TheVariants as the
use Rattle.mc_value.specs.declared.operators.BinOp.{BinOp}
use Rattle.mc_value.specs.declared.operators.BinOp.TheVariants as op
use Rattle.mc_value.specs.declared.operators.ShiftOp.TheVariants as shift
use Rattle.mc_value.specs.declared.operators.UnOp.{UnOp}
use Rattle.mc_value.specs.declared.operators.UnOp.TheVariants as un
use Rattle.mc_value.specs.IntTypes.{in_range}
use Rattle.mc_value.specs.Conversions.{promoted, common_of}
use Rattle.mc_typed.specs.declared.operators.Operator.{Operator}
use Rattle.mc_typed.specs.declared.operators.Operator.TheVariants.{Binary, Shift}
use Rattle.mc_typed.specs.declared.operators.LogicOperator.TheVariants.{And, Or}
use Rattle.mc_typed.specs.Layout.{Members, members_from, start}
use Rattle.mc_typed.specs.Sound.{type_of}
use Rattle.mc_typed.specs.Tree.{Place, Effect}
use Rattle.mc_typed.specs.Tree as typed
use Rattle.types_faults.specs.declared.fault.Fault.{Fault}
use Rattle.types_faults.specs.declared.fault.FaultKind.TheVariants.{Undeclared, Mismatch}
use Rattle.types_faults.specs.Faults.{fault, fault_if}
use Rattle.types_rules.specs.Profile.{counted}
use Rattle.types_rules.specs.Types.{Base, Void, Integer, Tagged, CType, Structure, Member, members_of, plain, cells_of, same_integer}
use Rattle.types_rules.specs.Scopes.{Meaning, Automatic, Constant, Function, Typedef, Scope, meaning_of, later_or}
use Rattle.types_rules.specs.Scopes as scope
use Rattle.types_rules.specs.Values.{Judged, Value, Number, Stored, Borrowed, Done, Assigned, Designator, Kind, IsVoid, IsInteger, IsStructure, Found, kind_found, is_integer, is_array, is_structure, fails, integer_faults, discarded_faults, number_in, number_found, discarded_in, lift2, judged_one, judged_two, judged_three, part, found, kind_of, structure_in}
use Rattle.types_rules.specs.Constants.{type_of_constant}

-- ---- conversions (C17 6.3.1)

-- converted where it has another type
abbrev pub convert_to : IntType → typed.Expression → typed.Expression
convert_to a e = if same_integer (type_of e) a then e else typed.Convert a false e (typed.span_of e)

-- the integer promotions (C17 6.3.1.1p2)
abbrev pub promote : typed.Expression → typed.Expression
promote e = convert_to (promoted (type_of e)) e

-- the usual arithmetic conversions (C17 6.3.1.8)
abbrev pub common_type : typed.Expression → typed.Expression → IntType
common_type e f = common_of (type_of e) (type_of f)

-- ---- names and constants (C17 6.5.1)

-- a name without a declaration may be one of anything
abbrev pub is_object : Option Meaning → Bool
is_object None = true
is_object (Some (Automatic slot u)) = true
is_object (Some (scope.Stored slot u)) = true
is_object (Some (scope.Borrowed array element)) = true
is_object (Some _) = false

abbrev pub is_enumerator : Option Meaning → Bool
is_enumerator None = true
is_enumerator (Some (Constant v)) = true
is_enumerator (Some _) = false

abbrev pub name_faults : Option Meaning → ℕ → List Fault
name_faults None at = fault Undeclared at
name_faults (Some (Typedef u)) at = fault Mismatch at
name_faults (Some _) at = []

abbrev pub value_of_name : Span → Meaning → Option Value
value_of_name span (Automatic slot u) = option_map (Stored (typed.Local slot span)) u
value_of_name span (scope.Stored slot u) = option_map (Stored (typed.Static slot span)) u
value_of_name span (scope.Borrowed array element) = Some (Borrowed array element span)
value_of_name span (Constant v) = option_map (λ w. Number (typed.Constant w the.Int span)) v
value_of_name span (Function signature has_body) = Some Designator
value_of_name span (Typedef u) = None

abbrev pub name_found : Name → Scope → Found
name_found name s = record {
  faults = name_faults (meaning_of name s) name.span.start;
  value = option_and_then (value_of_name name.span) (meaning_of name s);
  place = is_object (meaning_of name s);
  constant = is_enumerator (meaning_of name s);
  scope = s;
}

-- No text has a constant without a type, since no such token is read.
abbrev pub literal : ℤ → Option IntType → Span → Scope → Found
literal v a span s = record {
  faults = fault_if (is_none a) Mismatch span.start;
  value = option_map (λ b. Number (typed.Constant v b span)) a;
  place = false;
  constant = true;
  scope = s;
}

abbrev pub constant_literal : ℕ → Bool → Bool → ℕ → Span → Scope → Found
constant_literal v decimal unsigned longs span =
    literal (pos v) (type_of_constant v decimal unsigned longs) span

-- an integer character constant has type int (C17 6.4.4.4p10), which holds its value
abbrev pub character_literal : ℤ → Span → Scope → Found
character_literal v span =
    literal v (if in_range the.Int v then Some the.Int else None) span

-- ---- elements and members (C17 6.5.2.1, 6.5.2.3)

-- `[ ]` needs a place that is an array, and an integer. An element of a place is a place, and so is
-- a member of one.
abbrev pub index_faults : ℕ → Bool → Option Kind → Option Kind → List Fault
index_faults at place k l =
    fault_if (not place || fails is_array k || fails is_integer l) Mismatch at

abbrev pub stored_element : List Structure → Place → CType → List ℕ → typed.Expression → Span
    → Option Value
stored_element all place u [] e span = None
stored_element all place u (n ∷ ns) e span =
    let element = record u { lengths = ns } in
    Some (Stored (typed.Item place n (cells_of all element) e span) element)

abbrev pub element_of : List Structure → Span → Value → typed.Expression → Option Value
element_of all span (Stored place u) e = stored_element all place u u.lengths e span
element_of all span (Borrowed array u name) e =
    Some (Stored (typed.Parameter array (cells_of all u) e span) u)
element_of all span _ e = None

abbrev pub index_value : List Structure → Span → Option Value → Option typed.Expression
    → Option Value
index_value all span v e =
    option_and_then (λ w. option_and_then (element_of all span w) e) v

abbrev pub index_found : Span → Found → Found → Found
index_found span x y =
    found x.place false
    (judged_two (index_faults span.start x.place (kind_found x) (kind_found y))
    (index_value y.scope.structures span x.value (number_found y)) (part x) (part y))

-- A member of a list and its number, counted from k. The names of a complete structure's members
-- differ; of a list where they do not, the last member of a name counts.
pub record Selected : Type 0 where
  pub number : ℕ
  pub member : Member

abbrev pub selected : ℕ → List ℕ → List Member → Option Selected
selected k name [] = None
selected k name (m ∷ ms) =
    later_or (selected (k + 1) name ms)
    (if bytes_eq m.name name then Some (record { number = k; member = m }) else None)

-- `.` needs a place that is a structure (so not what a call returns), and one of its members.
abbrev pub undeclared_member : List Structure → Name → Option Kind → Bool
undeclared_member all name (Some (IsStructure k)) =
    is_none (selected 0 name.text (members_of (slice_get all k)))
undeclared_member all name _ = false

abbrev pub member_faults : ℕ → Name → List Structure → Bool → Option Kind → List Fault
member_faults at name all place k =
    fault_if (not place || fails is_structure k) Mismatch at
    ++ fault_if (undeclared_member all name k) Undeclared name.span.start

-- a part of a `const` structure is `const` (C17 6.5.2.3p3)
abbrev pub member_type : Bool → CType → CType
member_type b u = record u { is_const = u.is_const || b }

abbrev pub layouts_of : List Member → Members
layouts_of members = members_from (map (λ m. m.layout) members)

abbrev pub member_at : List Member → Place → Bool → Span → Selected → Option Value
member_at members place b span one =
    option_map
    (λ u. Stored (typed.Member place (counted one.number)
    (counted (start (layouts_of members) one.number)) span) (member_type b u))
    one.member.member_type

abbrev pub stored_member : List Structure → Name → Span → Place → CType → List ℕ → Base
    → Option Value
stored_member all name span place u [] (Tagged k) =
    let members = members_of (slice_get all k) in
    option_and_then (member_at members place u.is_const span) (selected 0 name.text members)
stored_member all name span place u _ _ = None

abbrev pub member_of : List Structure → Name → Span → Value → Option Value
member_of all name span (Stored place u) = stored_member all name span place u u.lengths u.base
member_of all name span _ = None

abbrev pub member_found : Name → Span → Found → Found
member_found name span x =
    let all = x.scope.structures in
    found x.place false
    (judged_one (member_faults span.start name all x.place (kind_found x))
    (option_and_then (member_of all name span) x.value) (part x))

-- ---- unary operators (C17 6.5.3.3)

-- `+`, `-` and `~` promote their operand
abbrev pub promoting : UnOp → Span → typed.Expression → typed.Expression
promoting operator span e = typed.Unary operator (type_of (promote e)) (promote e) span

abbrev pub typed_unary : UnaryOperator → Span → typed.Expression → Option typed.Expression
typed_unary unary.Plus span e = Some (promoting un.Plus span e)
typed_unary unary.Minus span e = Some (promoting un.Minus span e)
typed_unary unary.Complement span e = Some (promoting un.Flip span e)
typed_unary unary.Not span e = Some (typed.Not e span)
typed_unary unary.Dereference span e = None
typed_unary unary.Address span e = None

-- the operators on pointers are outside forms
abbrev pub is_arithmetic : UnaryOperator → Bool
is_arithmetic unary.Dereference = false
is_arithmetic unary.Address = false
is_arithmetic _ = true

abbrev pub unary_faults : UnaryOperator → ℕ → Option Kind → List Fault
unary_faults operator at k =
    fault_if (not (is_arithmetic operator) || fails is_integer k) Mismatch at

abbrev pub unary_found : UnaryOperator → Span → Found → Found
unary_found operator span x =
    found false (is_arithmetic operator && x.constant)
    (judged_one (unary_faults operator span.start (kind_found x))
    (option_map Number (option_and_then (typed_unary operator span) (number_found x))) (part x))

-- ---- casts (C17 6.5.4)

abbrev pub not_tagged : Base → Option Base
not_tagged Void = Some Void
not_tagged (Integer a) = Some (Integer a)
not_tagged (Tagged k) = None

-- the type of a cast, where it is scalar or void
abbrev pub cast_base : CType → List ℕ → Option Base
cast_base u [] = not_tagged u.base
cast_base u (n ∷ ns) = None

-- A cast is to void, or from an integer to an integer type.
abbrev pub cast_faults_to : ℕ → Expression → Option Kind → Option Base → List Fault
cast_faults_to at e k None = fault Mismatch at
cast_faults_to at e k (Some Void) = discarded_faults e k
cast_faults_to at e k (Some _) = integer_faults at k

abbrev pub cast_faults : ℕ → Expression → Option Kind → Option CType → List Fault
cast_faults at e k None = []
cast_faults at e k (Some u) = cast_faults_to at e k (cast_base u u.lengths)

abbrev pub cast_value_to : Span → Value → Option Base → Option Value
cast_value_to span v (Some Void) =
    option_map (λ effect. Done (typed.Discard effect span)) (discarded_in v)
cast_value_to span v (Some (Integer a)) =
    option_map (λ e. Number (typed.Convert a true e span)) (number_in v)
cast_value_to span v _ = None

abbrev pub cast_value : Span → Option CType → Option Value → Option Value
cast_value span type v =
    option_and_then
    (λ u. option_and_then (λ w. cast_value_to span w (cast_base u u.lengths)) v) type

-- a cast to a type that is missing may be one to an integer type
abbrev pub casts_to_integer : Option Base → Bool
casts_to_integer (Some (Integer a)) = true
casts_to_integer _ = false

abbrev pub may_cast_to_integer : Option CType → Bool
may_cast_to_integer None = true
may_cast_to_integer (Some u) = casts_to_integer (cast_base u u.lengths)

abbrev pub cast_found : Span → Judged CType → Expression → Found → Found
cast_found span type e x =
    found false (x.constant && may_cast_to_integer type.value)
    (judged_two (cast_faults span.start e (kind_found x) type.value)
    (cast_value span type.value x.value) type (part x))

-- ---- binary operators (C17 6.5.5 to 6.5.14)

-- both operands are converted to their common type
abbrev pub in_common_type : BinOp → Span → typed.Expression → typed.Expression → typed.Expression
in_common_type operator span e f =
    let a = common_type e f in
    typed.Binary (Binary operator) a (convert_to a e) (convert_to a f) span

-- each operand of a shift is promoted (C17 6.5.7p3)
abbrev pub shifting : Operator → Span → typed.Expression → typed.Expression → typed.Expression
shifting operator span e f = typed.Binary operator (type_of (promote e)) (promote e) (promote f)
    span

abbrev pub typed_binary : BinaryOperator → Span → typed.Expression → typed.Expression
    → typed.Expression
typed_binary binary.Multiply = in_common_type op.Mul
typed_binary binary.Divide = in_common_type op.Div
typed_binary binary.Remainder = in_common_type op.Rem
typed_binary binary.Add = in_common_type op.Add
typed_binary binary.Subtract = in_common_type op.Sub
typed_binary binary.ShiftLeft = shifting (Shift shift.Left)
typed_binary binary.ShiftRight = shifting (Shift shift.Right)
typed_binary binary.Less = in_common_type op.Lt
typed_binary binary.Greater = in_common_type op.Gt
typed_binary binary.LessOrEqual = in_common_type op.Le
typed_binary binary.GreaterOrEqual = in_common_type op.Ge
typed_binary binary.Equal = in_common_type op.Eq
typed_binary binary.Unequal = in_common_type op.Ne
typed_binary binary.BitAnd = in_common_type op.And
typed_binary binary.BitXor = in_common_type op.Xor
typed_binary binary.BitOr = in_common_type op.Or
typed_binary binary.And = λ span e f. typed.Logic And e f span
typed_binary binary.Or = λ span e f. typed.Logic Or e f span

abbrev pub operands_faults : ℕ → Option Kind → Option Kind → List Fault
operands_faults at k l = fault_if (fails is_integer k || fails is_integer l) Mismatch at

abbrev pub binary_found : BinaryOperator → Span → Found → Found → Found
binary_found operator span x y =
    found false (x.constant && y.constant)
    (judged_two (operands_faults span.start (kind_found x) (kind_found y))
    (option_map Number (lift2 (typed_binary operator span) (number_found x) (number_found y)))
    (part x) (part y))

-- ---- `?:` (C17 6.5.15)

-- what may be an arm, and what may be the other one
abbrev pub is_arm : Kind → Bool
is_arm IsVoid = true
is_arm IsInteger = true
is_arm _ = false

abbrev pub are_arms : Kind → Kind → Bool
are_arms IsVoid IsVoid = true
are_arms IsInteger IsInteger = true
are_arms _ _ = false

abbrev pub arms_fail : Option Kind → Option Kind → Bool
arms_fail (Some k) (Some l) = not (are_arms k l)
arms_fail k None = fails is_arm k
arms_fail None l = fails is_arm l

abbrev pub conditional_faults : ℕ → Option Kind → Option Kind → Option Kind → List Fault
conditional_faults at k l m = fault_if (fails is_integer k || arms_fail l m) Mismatch at

abbrev pub choice_of : Span → typed.Expression → typed.Expression → typed.Expression → Value
choice_of span e f g =
    let a = common_type f g in Number (typed.Choice e (convert_to a f) (convert_to a g) a span)

abbrev pub choice_of_effects : Span → typed.Expression → Effect → Effect → Value
choice_of_effects span e a b = Done (typed.ChoiceEffect e a b span)

abbrev pub arms_value : Span → typed.Expression → Value → Value → Option Value
arms_value span e (Done a) (Done b) = Some (choice_of_effects span e a b)
arms_value span e v w = lift2 (choice_of span e) (number_in v) (number_in w)

abbrev pub conditional_value : Span → Option typed.Expression → Option Value → Option Value
    → Option Value
conditional_value span e v w =
    option_and_then
    (λ f. option_and_then (λ one. option_and_then (arms_value span f one) w) v) e

abbrev pub conditional_found : Span → Found → Found → Found → Found
conditional_found span x y z =
    found false (x.constant && y.constant && z.constant)
    (judged_three
    (conditional_faults span.start (kind_found x) (kind_found y) (kind_found z))
    (conditional_value span (number_found x) y.value z.value) (part x) (part y) (part z))

-- ---- assignments (C17 6.5.16) and steps (6.5.2.4, 6.5.3.1)

-- whether the left side is known to be no object that can be assigned to: an array, void, a
-- function, or `const`
abbrev pub is_assigned : Kind → Bool
is_assigned IsInteger = true
is_assigned (IsStructure k) = true
is_assigned _ = false

abbrev pub is_const_value : Option Value → Bool
is_const_value (Some (Stored place u)) = u.is_const
is_const_value _ = false

abbrev pub target_fails : (Kind → Bool) → Bool → Option Value → Bool
target_fails test place v =
    not place || fails test (option_map kind_of v) || is_const_value v

-- both sides are integers, or structures of one type
abbrev pub sides_fit : Kind → Kind → Bool
sides_fit IsInteger IsInteger = true
sides_fit (IsStructure j) (IsStructure k) = j == k
sides_fit _ _ = false

abbrev pub sides_fail : Option Kind → Option Kind → Bool
sides_fail (Some k) (Some l) = not (sides_fit k l)
sides_fail k None = fails is_assigned k
sides_fail None l = fails is_assigned l

abbrev pub assign_faults : ℕ → Bool → Option Value → Option Kind → List Fault
assign_faults at place v l =
    fault_if (target_fails is_assigned place v || sides_fail (option_map kind_of v) l) Mismatch at

-- a compound assignment, a step too, has integers
abbrev pub update_faults : ℕ → Bool → Option Value → Option Kind → List Fault
update_faults at place v l =
    fault_if (target_fails is_integer place v || fails is_integer l) Mismatch at

abbrev pub assign_effect : List Structure → Span → Value → Place → Base → List ℕ → Option Effect
assign_effect all span v place (Integer a) [] =
    option_map (λ e. typed.Assign place a (convert_to a e) span) (number_in v)
assign_effect all span v place (Tagged k) [] =
    option_map
    (λ value. typed.Copy place value (cells_of all (plain (Tagged k))) span)
    (structure_in k v)
assign_effect all span v place _ _ = None

-- the operator of a compound assignment works in the common type of the sides, a shift in the
-- promoted type of the left one
abbrev pub update_in_common_type : BinOp → Place → IntType → typed.Expression → Span → Effect
update_in_common_type operator place a e span =
    let b = common_of a (type_of e) in
    typed.Update place a (Binary operator) b (convert_to b e) span

abbrev pub update_of : AssignmentOperator → Place → IntType → typed.Expression → Span
    → Option Effect
update_of assign.Assign place a e span = None
update_of assign.Multiply place a e span = Some (update_in_common_type op.Mul place a e span)
update_of assign.Divide place a e span = Some (update_in_common_type op.Div place a e span)
update_of assign.Remainder place a e span = Some (update_in_common_type op.Rem place a e span)
update_of assign.Add place a e span = Some (update_in_common_type op.Add place a e span)
update_of assign.Subtract place a e span = Some (update_in_common_type op.Sub place a e span)
update_of assign.ShiftLeft place a e span =
    Some (typed.Update place a (Shift shift.Left) (promoted a) (promote e) span)
update_of assign.ShiftRight place a e span =
    Some (typed.Update place a (Shift shift.Right) (promoted a) (promote e) span)
update_of assign.BitAnd place a e span = Some (update_in_common_type op.And place a e span)
update_of assign.BitXor place a e span = Some (update_in_common_type op.Xor place a e span)
update_of assign.BitOr place a e span = Some (update_in_common_type op.Or place a e span)

abbrev pub update_effect : AssignmentOperator → Span → Value → Place → Base → List ℕ
    → Option Effect
update_effect operator span v place (Integer a) [] =
    option_and_then (λ e. update_of operator place a e span) (number_in v)
update_effect operator span v place _ _ = None

-- an assignment of the second value to the first, which is a place
abbrev pub effect_on : (Value → Place → Base → List ℕ → Option Effect) → Value → Value
    → Option Value
effect_on make (Stored place u) w = option_map Assigned (make w place u.base u.lengths)
effect_on make _ w = None

abbrev pub assignment_value : (Value → Place → Base → List ℕ → Option Effect) → Option Value
    → Option Value → Option Value
assignment_value make v w = option_and_then (λ one. option_and_then (effect_on make one) w) v

abbrev pub assign_found : Span → Found → Found → Found
assign_found span x y =
    found false false
    (judged_two (assign_faults span.start x.place x.value (kind_found y))
    (assignment_value (assign_effect y.scope.structures span) x.value y.value) (part x) (part y))

abbrev pub update_found : AssignmentOperator → Span → Found → Found → Found
update_found operator span x y =
    found false false
    (judged_two (update_faults span.start x.place x.value (kind_found y))
    (assignment_value (update_effect operator span) x.value y.value) (part x) (part y))

abbrev pub assignment_found : AssignmentOperator → Span → Found → Found → Found
assignment_found assign.Assign = assign_found
assignment_found operator = update_found operator

abbrev pub step_operator : StepOperator → AssignmentOperator
step_operator step.Increment = assign.Add
step_operator step.Decrement = assign.Subtract

-- a step adds or subtracts 1, which stands where the two bytes of the operator stand
abbrev pub step_found : StepOperator → Span → Span → Found → Found
step_found operator at span x =
    update_found (step_operator operator) span x (literal (pos 1) (Some the.Int) at x.scope)

abbrev pub operator_after : Span → Span
operator_after span = record { start = span.end - 2; end = span.end }

abbrev pub operator_before : Span → Span
operator_before span = record { start = span.start; end = min (span.start + 2) span.end }
