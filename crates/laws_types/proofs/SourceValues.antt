-- Expressions: what is found of them has the operators and operands of the source.
use Rattle.std.proofs.Common.{◌≡◌, ℕ, ◌==◌, refl, ℤ, pos, Bool, true, false, if◌then◌else◌, List, [], ◌∷◌, slice_get, Option, Some, None, option_map, option_and_then}
use Rattle.mc_span.specs.declared.span.Span.{Span}
use Rattle.mc_tree.specs.declared.expressions.unary_operator.UnaryOperator.{UnaryOperator}
use Rattle.mc_tree.specs.declared.expressions.unary_operator.UnaryOperator.TheVariants as unary
use Rattle.mc_tree.specs.declared.expressions.step_operator.StepOperator.{StepOperator}
use Rattle.mc_tree.specs.declared.expressions.step_operator.StepOperator.TheVariants as step
use Rattle.mc_tree.specs.declared.expressions.binary_operator.BinaryOperator.{BinaryOperator}
use Rattle.mc_tree.specs.declared.expressions.binary_operator.BinaryOperator.TheVariants as binary
use Rattle.mc_tree.specs.declared.expressions.assignment_operator.AssignmentOperator.{AssignmentOperator}
use Rattle.mc_tree.specs.declared.expressions.assignment_operator.AssignmentOperator.TheVariants as assign
use Rattle.mc_tree.specs.Tree.{Name, Expression, Expressions, TypeName, span_of}
use Rattle.mc_tree.specs.Tree as tree
use Rattle.mc_value.specs.declared.int_type.IntType.{IntType}
use Rattle.mc_value.specs.declared.int_type.IntType.TheVariants as the
use Rattle.mc_value.specs.IntTypes.{in_range}
use Rattle.mc_value.specs.Conversions.{promoted, common_of}
use Rattle.mc_typed.specs.Layout.{start}
use Rattle.mc_typed.specs.Sound.{type_of}
use Rattle.mc_typed.specs.Tree.{Place, StructureValue, Arguments, Effect}
use Rattle.mc_typed.specs.Tree as typed
use Rattle.types_rules.specs.Profile.{counted}
use Rattle.types_rules.specs.Types.{Base, Void, Integer, Tagged, CType, plain, Structure, Member, members_of, cells_of, same_integer, is_complete, ParameterKind, ByValue, ByArray}
use Rattle.types_rules.specs.Scopes.{Meaning, Automatic, Constant, Function, Typedef, Scope, meaning_of, function_number, is_input, is_output, next_slot}
use Rattle.types_rules.specs.Scopes as scope
use Rattle.types_rules.specs.Values.{Value, Number, Stored, Borrowed, Returned, Done, Assigned, Designator, Kind, IsVoid, IsAssignment, IsInteger, IsStructure, IsArray, IsFunction, kind_of, Found, number_stored, number_in, structure_stored, structure_in, any_structure_in, number_found, value_effect, discarded_in, lift2}
use Rattle.types_rules.specs.Constants.{type_of_constant}
use Rattle.types_rules.specs.Expressions.{convert_to, promote, value_of_name, literal, stored_element, element_of, index_value, Selected, selected, member_type, layouts_of, member_at, stored_member, member_of, typed_unary, cast_base, cast_value_to, cast_value, typed_binary, choice_of, arms_value, conditional_value, assign_effect, update_of, update_effect, effect_on, assignment_value, update_found, assignment_found, step_found, operator_after, operator_before}
use Rattle.types_rules.specs.Calls.{array_fits, stored_array, array_argument, argument_of, argument_value, argument_judged, first_of, rest_of, no_more, parameters_of, output_of, returned, called, call_value}
use Rattle.types_rules.specs.Judgement.{judge, judge_arguments, judge_type}
use Rattle.laws_types.specs.Source.{IsOneAt, IsNameOf, IsNumberOf, IsOperandOf, IsPlaceOf, IsCallOf, AreArgumentsOf, IsArgumentOf, IsStructureOf, IsEffectOf, last_two, first_two}
use Rattle.laws_types.specs.Source as of
use Rattle.laws_types.proofs.ExactValues.{WhereSome, map_where, then_where, lift_where}

-- ---- values

abbrev pub IsValueOf : Expression → Value → Type 0
IsValueOf a (Number e) = IsNumberOf a e
IsValueOf a (Stored place u) = IsPlaceOf a place
IsValueOf a (Borrowed array u span) = IsNameOf a span
IsValueOf a (Returned c k) = IsCallOf a c
IsValueOf a (Done effect) = IsEffectOf a effect
IsValueOf a (Assigned effect) = IsEffectOf a effect
IsValueOf a Designator = Unit {0}

abbrev pub IsFoundOf : Expression → Found → Type 0
IsFoundOf a x = WhereSome (IsValueOf a) x.value

value_inside : (a : Expression) (span : Span) (v : Value) → IsValueOf a v
    → IsValueOf (tree.Parenthesized a span) v
value_inside a span (Number e) h = of.inside h
value_inside a span (Stored place u) h = of.place_inside h
value_inside a span (Borrowed array u at) h = of.name_inside h
value_inside a span (Returned c k) h = of.call_inside h
value_inside a span (Done effect) h = of.effect_inside h
value_inside a span (Assigned effect) h = of.effect_inside h
value_inside a span Designator h = tt

found_inside : (a : Expression) (span : Span) (o : Option Value) → WhereSome (IsValueOf a) o
    → WhereSome (IsValueOf (tree.Parenthesized a span)) o
found_inside a span None h = tt
found_inside a span (Some v) h = value_inside a span v h

-- ---- conversions

pub convert_of : (t : IntType) (a : Expression) (e : typed.Expression) → IsNumberOf a e
    → IsOperandOf a (convert_to t e)
convert_of t a e h = by_test (same_integer (type_of e) t)
  where
    by_test : (b : Bool) → IsOperandOf a (if b then e else typed.Convert t false e (typed.span_of e))
    by_test true = of.as_it_is h
    by_test false = of.converted h

pub promote_of : (a : Expression) (e : typed.Expression) → IsNumberOf a e → IsOperandOf a (promote e)
promote_of a e h = convert_of (promoted (type_of e)) a e h

-- ---- what a value is used as

stored_number : (a : Expression) (place : Place) (b : Base) (ls : List ℕ) → IsPlaceOf a place
    → WhereSome (IsNumberOf a) (number_stored place b ls)
stored_number a place (Integer t) [] h = of.read h
stored_number a place (Integer t) (n ∷ ns) h = tt
stored_number a place Void ls h = tt
stored_number a place (Tagged k) ls h = tt

pub number_of : (a : Expression) (v : Value) → IsValueOf a v → WhereSome (IsNumberOf a) (number_in v)
number_of a (Number e) h = h
number_of a (Stored place u) h = stored_number a place u.base u.lengths h
number_of a (Borrowed array u span) h = tt
number_of a (Returned c k) h = tt
number_of a (Done effect) h = tt
number_of a (Assigned effect) h = tt
number_of a Designator h = tt

pub number_found_of : (a : Expression) (x : Found) → IsFoundOf a x
    → WhereSome (IsNumberOf a) (number_found x)
number_found_of a x h = then_where (IsValueOf a) (IsNumberOf a) number_in x.value (number_of a) h

stored_structure : (a : Expression) (k : ℕ) (place : Place) (b : Base) (ls : List ℕ) → IsPlaceOf a place
    → WhereSome (IsStructureOf a) (structure_stored k place b ls)
stored_structure a k place (Tagged j) [] h = by_test (j == k)
  where
    by_test : (b : Bool) → WhereSome (IsStructureOf a) (if b then Some (typed.Stored place) else None)
    by_test true = of.stored h
    by_test false = tt
stored_structure a k place (Tagged j) (n ∷ ns) h = tt
stored_structure a k place Void ls h = tt
stored_structure a k place (Integer t) ls h = tt

pub structure_of : (a : Expression) (k : ℕ) (v : Value) → IsValueOf a v
    → WhereSome (IsStructureOf a) (structure_in k v)
structure_of a k (Stored place u) h = stored_structure a k place u.base u.lengths h
structure_of a k (Returned c j) h = by_test (j == k)
  where
    by_test : (b : Bool) → WhereSome (IsStructureOf a) (if b then Some (typed.Returned c) else None)
    by_test true = of.returned h
    by_test false = tt
structure_of a k (Number e) h = tt
structure_of a k (Borrowed array u span) h = tt
structure_of a k (Done effect) h = tt
structure_of a k (Assigned effect) h = tt
structure_of a k Designator h = tt

any_structure_of : (a : Expression) (k : Kind) (v : Value) → IsValueOf a v
    → WhereSome (IsStructureOf a) (any_structure_in k v)
any_structure_of a (IsStructure k) v h = structure_of a k v h
any_structure_of a IsVoid v h = tt
any_structure_of a IsAssignment v h = tt
any_structure_of a IsInteger v h = tt
any_structure_of a (IsArray u) v h = tt
any_structure_of a IsFunction v h = tt

effect_of_value : (a : Expression) (e : Option typed.Expression) (w : Option StructureValue)
    → WhereSome (IsNumberOf a) e → WhereSome (IsStructureOf a) w
    → WhereSome (IsEffectOf a) (value_effect e w)
effect_of_value a (Some e) w h k = of.number_effect h
effect_of_value a None (Some w) h k = of.structure_effect k
effect_of_value a None None h k = tt

value_effect_of : (a : Expression) (v : Value) → IsValueOf a v
    → WhereSome (IsEffectOf a) (value_effect (number_in v) (any_structure_in (kind_of v) v))
value_effect_of a v h =
    effect_of_value a (number_in v) (any_structure_in (kind_of v) v) (number_of a v h)
    (any_structure_of a (kind_of v) v h)

pub discarded_of : (a : Expression) (v : Value) → IsValueOf a v
    → WhereSome (IsEffectOf a) (discarded_in v)
discarded_of a (Done effect) h = h
discarded_of a (Number e) h = value_effect_of a (Number e) h
discarded_of a (Stored place u) h = value_effect_of a (Stored place u) h
discarded_of a (Borrowed array u span) h = value_effect_of a (Borrowed array u span) h
discarded_of a (Returned c k) h = value_effect_of a (Returned c k) h
discarded_of a (Assigned effect) h = value_effect_of a (Assigned effect) h
discarded_of a Designator h = value_effect_of a Designator h

-- ---- names, elements and members

name_of : (name : Name) (m : Option Meaning)
    → WhereSome (IsValueOf (tree.Named name)) (option_and_then (value_of_name name.span) m)
name_of name None = tt
name_of name (Some (Automatic slot None)) = tt
name_of name (Some (Automatic slot (Some u))) = of.local
name_of name (Some (scope.Stored slot None)) = tt
name_of name (Some (scope.Stored slot (Some u))) = of.static
name_of name (Some (scope.Borrowed array u)) = of.name_bare
name_of name (Some (Constant None)) = tt
name_of name (Some (Constant (Some v))) = of.enumerator
name_of name (Some (Function f b)) = tt
name_of name (Some (Typedef u)) = tt

constant_of : (v : ℕ) (decimal unsigned : Bool) (longs : ℕ) (t : Option IntType) (span : Span) (s : Scope)
    → IsFoundOf (tree.Constant v decimal unsigned longs span) (literal (pos v) t span s)
constant_of v decimal unsigned longs None span s = tt
constant_of v decimal unsigned longs (Some t) span s = of.constant

character_of : (v : ℤ) (t : Option IntType) (span : Span) (s : Scope)
    → IsFoundOf (tree.Character v span) (literal v t span s)
character_of v None span s = tt
character_of v (Some t) span s = of.character

stored_element_of : (a b : Expression) (all : List Structure) (place : Place) (u : CType) (ls : List ℕ)
    (e : typed.Expression) (span : Span) → IsPlaceOf a place → IsNumberOf b e
    → WhereSome (IsValueOf (tree.Index a b span)) (stored_element all place u ls e span)
stored_element_of a b all place u [] e span h k = tt
stored_element_of a b all place u (n ∷ ns) e span h k = of.item h k

element_is_of : (a b : Expression) (all : List Structure) (span : Span) (v : Value) (e : typed.Expression)
    → IsValueOf a v → IsNumberOf b e → WhereSome (IsValueOf (tree.Index a b span)) (element_of all span v e)
element_is_of a b all span (Stored place u) e h k = stored_element_of a b all place u u.lengths e span h k
element_is_of a b all span (Borrowed array u name) e h k = of.parameter h k
element_is_of a b all span (Number f) e h k = tt
element_is_of a b all span (Returned c n) e h k = tt
element_is_of a b all span (Done effect) e h k = tt
element_is_of a b all span (Assigned effect) e h k = tt
element_is_of a b all span Designator e h k = tt

index_of : (a b : Expression) (all : List Structure) (span : Span) (v : Option Value)
    (e : Option typed.Expression) → WhereSome (IsValueOf a) v → WhereSome (IsNumberOf b) e
    → WhereSome (IsValueOf (tree.Index a b span)) (index_value all span v e)
index_of a b all span None e h k = tt
index_of a b all span (Some v) e h k =
    then_where (IsNumberOf b) (IsValueOf (tree.Index a b span)) (element_of all span v) e
    (λ f p. element_is_of a b all span v f h p) k

stored_member_of : (a : Expression) (all : List Structure) (name : Name) (span : Span) (place : Place)
    (u : CType) (ls : List ℕ) (b : Base) → IsPlaceOf a place
    → WhereSome (IsValueOf (tree.Member a name span)) (stored_member all name span place u ls b)
stored_member_of a all name span place u [] (Tagged k) h =
    let members = members_of (slice_get all k) in
    by_member members (selected 0 name.text members)
  where
    by_type : (members : List Member) (k : ℕ) (type : Option CType)
        → WhereSome (IsValueOf (tree.Member a name span)) (option_map
        (λ v. Stored (typed.Member place (counted k) (counted (start (layouts_of members) k)) span) (member_type u.is_const v)) type)
    by_type members k None = tt
    by_type members k (Some v) = of.member h

    by_member : (members : List Member) (o : Option Selected)
        → WhereSome (IsValueOf (tree.Member a name span))
        (option_and_then (member_at members place u.is_const span) o)
    by_member members None = tt
    by_member members (Some one) = by_type members one.number one.member.member_type
stored_member_of a all name span place u [] Void h = tt
stored_member_of a all name span place u [] (Integer t) h = tt
stored_member_of a all name span place u (n ∷ ns) b h = tt

member_is_of : (a : Expression) (all : List Structure) (name : Name) (span : Span) (v : Value)
    → IsValueOf a v → WhereSome (IsValueOf (tree.Member a name span)) (member_of all name span v)
member_is_of a all name span (Stored place u) h = stored_member_of a all name span place u u.lengths u.base h
member_is_of a all name span (Number e) h = tt
member_is_of a all name span (Borrowed array u at) h = tt
member_is_of a all name span (Returned c k) h = tt
member_is_of a all name span (Done effect) h = tt
member_is_of a all name span (Assigned effect) h = tt
member_is_of a all name span Designator h = tt

-- ---- operators and casts

unary_is_of : (operator : UnaryOperator) (span : Span) (a : Expression) (e : typed.Expression)
    → IsNumberOf a e → WhereSome (IsNumberOf (tree.Unary operator a span)) (typed_unary operator span e)
unary_is_of unary.Plus span a e h = of.one_operand refl (promote_of a e h)
unary_is_of unary.Minus span a e h = of.one_operand refl (promote_of a e h)
unary_is_of unary.Complement span a e h = of.one_operand refl (promote_of a e h)
unary_is_of unary.Not span a e h = of.negation h
unary_is_of unary.Dereference span a e h = tt
unary_is_of unary.Address span a e h = tt

cast_to_of : (type : TypeName) (a : Expression) (span : Span) (v : Value) (b : Option Base)
    → IsValueOf a v → WhereSome (IsValueOf (tree.Cast type a span)) (cast_value_to span v b)
cast_to_of type a span v (Some Void) h =
    map_where (IsEffectOf a) (IsValueOf (tree.Cast type a span)) (λ e. Done (typed.Discard e span)) (discarded_in v)
    (λ e p. of.discard p) (discarded_of a v h)
cast_to_of type a span v (Some (Integer t)) h =
    map_where (IsNumberOf a) (IsValueOf (tree.Cast type a span)) (λ e. Number (typed.Convert t true e span))
    (number_in v) (λ e p. of.cast p) (number_of a v h)
cast_to_of type a span v (Some (Tagged k)) h = tt
cast_to_of type a span v None h = tt

cast_is_of : (type : TypeName) (a : Expression) (span : Span) (u : Option CType) (v : Option Value)
    → WhereSome (IsValueOf a) v → WhereSome (IsValueOf (tree.Cast type a span)) (cast_value span u v)
cast_is_of type a span None v h = tt
cast_is_of type a span (Some u) v h =
    then_where (IsValueOf a) (IsValueOf (tree.Cast type a span))
    (λ w. cast_value_to span w (cast_base u u.lengths)) v
    (λ w p. cast_to_of type a span w (cast_base u u.lengths) p) h

binary_is_of : (operator : BinaryOperator) (span : Span) (a b : Expression) (e f : typed.Expression)
    → IsNumberOf a e → IsNumberOf b f → IsNumberOf (tree.Binary operator a b span) (typed_binary operator span e f)
binary_is_of operator span a b e f h k =
    by_operator operator (convert_of (common_of (type_of e) (type_of f)) a e h)
    (convert_of (common_of (type_of e) (type_of f)) b f k)
  where
    by_operator : (o : BinaryOperator) → IsOperandOf a (convert_to (common_of (type_of e) (type_of f)) e)
        → IsOperandOf b (convert_to (common_of (type_of e) (type_of f)) f)
        → IsNumberOf (tree.Binary o a b span) (typed_binary o span e f)
    by_operator binary.Multiply p q = of.two_operands refl p q
    by_operator binary.Divide p q = of.two_operands refl p q
    by_operator binary.Remainder p q = of.two_operands refl p q
    by_operator binary.Add p q = of.two_operands refl p q
    by_operator binary.Subtract p q = of.two_operands refl p q
    by_operator binary.ShiftLeft p q = of.two_operands refl (promote_of a e h) (promote_of b f k)
    by_operator binary.ShiftRight p q = of.two_operands refl (promote_of a e h) (promote_of b f k)
    by_operator binary.Less p q = of.two_operands refl p q
    by_operator binary.Greater p q = of.two_operands refl p q
    by_operator binary.LessOrEqual p q = of.two_operands refl p q
    by_operator binary.GreaterOrEqual p q = of.two_operands refl p q
    by_operator binary.Equal p q = of.two_operands refl p q
    by_operator binary.Unequal p q = of.two_operands refl p q
    by_operator binary.BitAnd p q = of.two_operands refl p q
    by_operator binary.BitXor p q = of.two_operands refl p q
    by_operator binary.BitOr p q = of.two_operands refl p q
    by_operator binary.And p q = of.logical refl h k
    by_operator binary.Or p q = of.logical refl h k

-- ---- `?:`

number_arms : (span : Span) (a b c : Expression) (e : typed.Expression) (v w : Value) → IsNumberOf a e
    → IsValueOf b v → IsValueOf c w
    → WhereSome (IsValueOf (tree.Conditional a b c span)) (lift2 (choice_of span e) (number_in v) (number_in w))
number_arms span a b c e v w h p q =
    lift_where (IsNumberOf b) (IsNumberOf c) (IsValueOf (tree.Conditional a b c span)) (choice_of span e)
    (number_in v) (number_in w)
    (λ f g k l. of.choice h (convert_of (common_of (type_of f) (type_of g)) b f k)
    (convert_of (common_of (type_of f) (type_of g)) c g l))
    (number_of b v p) (number_of c w q)

arms_of : (span : Span) (a b c : Expression) (e : typed.Expression) (v w : Value) → IsNumberOf a e
    → IsValueOf b v → IsValueOf c w
    → WhereSome (IsValueOf (tree.Conditional a b c span)) (arms_value span e v w)
arms_of span a b c e (Done x) (Done y) h p q = of.effect_choice h p q
arms_of span a b c e (Done x) (Number f) h p q = tt
arms_of span a b c e (Done x) (Stored place u) h p q = tt
arms_of span a b c e (Done x) (Borrowed array u at) h p q = tt
arms_of span a b c e (Done x) (Returned k n) h p q = tt
arms_of span a b c e (Done x) (Assigned effect) h p q = tt
arms_of span a b c e (Done x) Designator h p q = tt
arms_of span a b c e (Number f) w h p q = number_arms span a b c e (Number f) w h p q
arms_of span a b c e (Stored place u) w h p q = number_arms span a b c e (Stored place u) w h p q
arms_of span a b c e (Borrowed array u at) w h p q = tt
arms_of span a b c e (Returned k n) w h p q = tt
arms_of span a b c e (Assigned effect) w h p q = tt
arms_of span a b c e Designator w h p q = tt

conditional_of : (span : Span) (a b c : Expression) (e : Option typed.Expression) (v w : Option Value)
    → WhereSome (IsNumberOf a) e → WhereSome (IsValueOf b) v → WhereSome (IsValueOf c) w
    → WhereSome (IsValueOf (tree.Conditional a b c span)) (conditional_value span e v w)
conditional_of span a b c None v w h p q = tt
conditional_of span a b c (Some e) None w h p q = tt
conditional_of span a b c (Some e) (Some v) w h p q =
    then_where (IsValueOf c) (IsValueOf (tree.Conditional a b c span)) (arms_value span e v) w
    (λ one k. arms_of span a b c e v one h p k) q

-- ---- assignments and steps

-- `whole` is the assignment, a and b are its sides
effect_on_of : (whole a b : Expression) (make : Value → Place → Base → List ℕ → Option Effect) (v w : Value)
    → ((one : Value) (place : Place) (u : Base) (ls : List ℕ) → IsValueOf b one → IsPlaceOf a place
    → WhereSome (IsEffectOf whole) (make one place u ls))
    → IsValueOf a v → IsValueOf b w → WhereSome (IsValueOf whole) (effect_on make v w)
effect_on_of whole a b make (Stored place u) w g h k =
    map_where (IsEffectOf whole) (IsValueOf whole) Assigned (make w place u.base u.lengths) (λ e p. p)
    (g w place u.base u.lengths k h)
effect_on_of whole a b make (Number e) w g h k = tt
effect_on_of whole a b make (Borrowed array u span) w g h k = tt
effect_on_of whole a b make (Returned c n) w g h k = tt
effect_on_of whole a b make (Done effect) w g h k = tt
effect_on_of whole a b make (Assigned effect) w g h k = tt
effect_on_of whole a b make Designator w g h k = tt

assignment_of : (whole a b : Expression) (make : Value → Place → Base → List ℕ → Option Effect)
    (v w : Option Value)
    → ((one : Value) (place : Place) (u : Base) (ls : List ℕ) → IsValueOf b one → IsPlaceOf a place
    → WhereSome (IsEffectOf whole) (make one place u ls))
    → WhereSome (IsValueOf a) v → WhereSome (IsValueOf b) w
    → WhereSome (IsValueOf whole) (assignment_value make v w)
assignment_of whole a b make None w g h k = tt
assignment_of whole a b make (Some v) w g h k =
    then_where (IsValueOf b) (IsValueOf whole) (effect_on make v) w
    (λ one p. effect_on_of whole a b make v one g h p) k

assign_of : (a b : Expression) (all : List Structure) (span : Span) (v : Value) (place : Place) (u : Base)
    (ls : List ℕ) → IsValueOf b v → IsPlaceOf a place
    → WhereSome (IsEffectOf (tree.Assignment assign.Assign a b span)) (assign_effect all span v place u ls)
assign_of a b all span v place (Integer t) [] h k =
    map_where (IsNumberOf b) (IsEffectOf (tree.Assignment assign.Assign a b span))
    (λ e. typed.Assign place t (convert_to t e) span) (number_in v)
    (λ e p. of.assignment k (convert_of t b e p)) (number_of b v h)
assign_of a b all span v place (Tagged n) [] h k =
    map_where (IsStructureOf b) (IsEffectOf (tree.Assignment assign.Assign a b span))
    (λ w. typed.Copy place w (cells_of all (plain (Tagged n))) span) (structure_in n v)
    (λ w p. of.copy k p) (structure_of b n v h)
assign_of a b all span v place Void ls h k = tt
assign_of a b all span v place (Integer t) (n ∷ ns) h k = tt
assign_of a b all span v place (Tagged n) (m ∷ ms) h k = tt

update_of_of : (operator : AssignmentOperator) (a b : Expression) (place : Place) (t : IntType)
    (e : typed.Expression) (span : Span) → IsPlaceOf a place → IsNumberOf b e
    → WhereSome (IsEffectOf (tree.Assignment operator a b span)) (update_of operator place t e span)
update_of_of operator a b place t e span h k =
    by_operator operator (convert_of (common_of t (type_of e)) b e k)
  where
    by_operator : (o : AssignmentOperator) → IsOperandOf b (convert_to (common_of t (type_of e)) e)
        → WhereSome (IsEffectOf (tree.Assignment o a b span)) (update_of o place t e span)
    by_operator assign.Assign q = tt
    by_operator assign.Multiply q = of.update refl h q
    by_operator assign.Divide q = of.update refl h q
    by_operator assign.Remainder q = of.update refl h q
    by_operator assign.Add q = of.update refl h q
    by_operator assign.Subtract q = of.update refl h q
    by_operator assign.ShiftLeft q = of.update refl h (promote_of b e k)
    by_operator assign.ShiftRight q = of.update refl h (promote_of b e k)
    by_operator assign.BitAnd q = of.update refl h q
    by_operator assign.BitXor q = of.update refl h q
    by_operator assign.BitOr q = of.update refl h q

update_is_of : (operator : AssignmentOperator) (a b : Expression) (span : Span) (v : Value) (place : Place)
    (u : Base) (ls : List ℕ) → IsValueOf b v → IsPlaceOf a place
    → WhereSome (IsEffectOf (tree.Assignment operator a b span)) (update_effect operator span v place u ls)
update_is_of operator a b span v place (Integer t) [] h k =
    then_where (IsNumberOf b) (IsEffectOf (tree.Assignment operator a b span))
    (λ e. update_of operator place t e span) (number_in v)
    (λ e p. update_of_of operator a b place t e span k p) (number_of b v h)
update_is_of operator a b span v place (Integer t) (n ∷ ns) h k = tt
update_is_of operator a b span v place Void ls h k = tt
update_is_of operator a b span v place (Tagged n) ls h k = tt

updated_of : (operator : AssignmentOperator) (a b : Expression) (span : Span) (x y : Found) → IsFoundOf a x
    → IsFoundOf b y → IsFoundOf (tree.Assignment operator a b span) (update_found operator span x y)
updated_of operator a b span x y h k =
    assignment_of (tree.Assignment operator a b span) a b (update_effect operator span) x.value y.value
    (update_is_of operator a b span) h k

assigned_of : (operator : AssignmentOperator) (a b : Expression) (span : Span) (x y : Found)
    → IsFoundOf a x → IsFoundOf b y
    → IsFoundOf (tree.Assignment operator a b span) (assignment_found operator span x y)
assigned_of assign.Assign a b span x y h k =
    assignment_of (tree.Assignment assign.Assign a b span) a b (assign_effect y.scope.structures span) x.value
    y.value (assign_of a b y.scope.structures span) h k
assigned_of assign.Multiply a b span x y h k = updated_of assign.Multiply a b span x y h k
assigned_of assign.Divide a b span x y h k = updated_of assign.Divide a b span x y h k
assigned_of assign.Remainder a b span x y h k = updated_of assign.Remainder a b span x y h k
assigned_of assign.Add a b span x y h k = updated_of assign.Add a b span x y h k
assigned_of assign.Subtract a b span x y h k = updated_of assign.Subtract a b span x y h k
assigned_of assign.ShiftLeft a b span x y h k = updated_of assign.ShiftLeft a b span x y h k
assigned_of assign.ShiftRight a b span x y h k = updated_of assign.ShiftRight a b span x y h k
assigned_of assign.BitAnd a b span x y h k = updated_of assign.BitAnd a b span x y h k
assigned_of assign.BitXor a b span x y h k = updated_of assign.BitXor a b span x y h k
assigned_of assign.BitOr a b span x y h k = updated_of assign.BitOr a b span x y h k

-- the one that a step adds or subtracts
one_of : (at : Span) (t : IntType) → IsOneAt at (convert_to t (typed.Constant (pos 1) the.Int at))
one_of at t = by_test (same_integer the.Int t)
  where
    by_test : (b : Bool)
        → IsOneAt at (if b then typed.Constant (pos 1) the.Int at
        else typed.Convert t false (typed.Constant (pos 1) the.Int at) at)
    by_test true = of.one
    by_test false = of.converted_one

-- the effect of a step on a place, whose operator has this effect of 1
stepped : (whole a : Expression) (operator : AssignmentOperator) (at span : Span) (x : Found)
    → ((place : Place) (t : IntType) → IsPlaceOf a place
    → WhereSome (IsEffectOf whole) (update_of operator place t (typed.Constant (pos 1) the.Int at) span))
    → IsFoundOf a x
    → IsFoundOf whole (update_found operator span x (literal (pos 1) (Some the.Int) at x.scope))
stepped whole a operator at span x g h = by_value x.value h
  where
    on_place : (place : Place) (u : Base) (ls : List ℕ) → IsPlaceOf a place
        → WhereSome (IsEffectOf whole)
        (update_effect operator span (Number (typed.Constant (pos 1) the.Int at)) place u ls)
    on_place place (Integer t) [] k = g place t k
    on_place place (Integer t) (n ∷ ns) k = tt
    on_place place Void ls k = tt
    on_place place (Tagged n) ls k = tt

    by_value : (o : Option Value) → WhereSome (IsValueOf a) o
        → WhereSome (IsValueOf whole)
        (assignment_value (update_effect operator span) o (Some (Number (typed.Constant (pos 1) the.Int at))))
    by_value None k = tt
    by_value (Some (Stored place u)) k =
        map_where (IsEffectOf whole) (IsValueOf whole) Assigned
        (update_effect operator span (Number (typed.Constant (pos 1) the.Int at)) place u.base u.lengths)
        (λ e p. p) (on_place place u.base u.lengths k)
    by_value (Some (Number e)) k = tt
    by_value (Some (Borrowed array u name)) k = tt
    by_value (Some (Returned c n)) k = tt
    by_value (Some (Done effect)) k = tt
    by_value (Some (Assigned effect)) k = tt
    by_value (Some Designator) k = tt

after_of : (operator : StepOperator) (a : Expression) (span : Span) (x : Found) → IsFoundOf a x
    → IsFoundOf (tree.PostfixStep operator a span) (step_found operator (operator_after span) span x)
after_of step.Increment a span x h =
    stepped (tree.PostfixStep step.Increment a span) a assign.Add (last_two span) span x
    (λ place t k. of.step_after k (one_of (last_two span) (common_of t the.Int))) h
after_of step.Decrement a span x h =
    stepped (tree.PostfixStep step.Decrement a span) a assign.Subtract (last_two span) span x
    (λ place t k. of.step_after k (one_of (last_two span) (common_of t the.Int))) h

before_of : (operator : StepOperator) (a : Expression) (span : Span) (x : Found) → IsFoundOf a x
    → IsFoundOf (tree.PrefixStep operator a span) (step_found operator (operator_before span) span x)
before_of step.Increment a span x h =
    stepped (tree.PrefixStep step.Increment a span) a assign.Add (first_two span) span x
    (λ place t k. of.step_before k (one_of (first_two span) (common_of t the.Int))) h
before_of step.Decrement a span x h =
    stepped (tree.PrefixStep step.Decrement a span) a assign.Subtract (first_two span) span x
    (λ place t k. of.step_before k (one_of (first_two span) (common_of t the.Int))) h

-- ---- arguments and calls

stored_array_of : (a : Expression) (u : CType) (place : Place) (v : CType) (ls : List ℕ) → IsPlaceOf a place
    → WhereSome (IsArgumentOf a) (stored_array u place v ls)
stored_array_of a u place v [] h = tt
stored_array_of a u place v (n ∷ ns) h = by_test (array_fits u (record v { lengths = ns }))
  where
    by_test : (b : Bool) → WhereSome (IsArgumentOf a) (if b then Some (typed.ArrayArgument place n) else None)
    by_test true = of.array_argument h
    by_test false = tt

array_of : (a : Expression) (u : CType) (v : Value) → IsValueOf a v
    → WhereSome (IsArgumentOf a) (array_argument u v)
array_of a u (Stored place v) h = stored_array_of a u place v v.lengths h
array_of a u (Borrowed array v span) h = by_test (array_fits u v)
  where
    by_test : (b : Bool) → WhereSome (IsArgumentOf a) (if b then Some (typed.AgainArgument array span) else None)
    by_test true = of.again_argument h
    by_test false = tt
array_of a u (Number e) h = tt
array_of a u (Returned c k) h = tt
array_of a u (Done effect) h = tt
array_of a u (Assigned effect) h = tt
array_of a u Designator h = tt

argument_is_of : (a : Expression) (s : Scope) (p : ParameterKind) (v : Value) → IsValueOf a v
    → WhereSome (IsArgumentOf a) (argument_of s p v)
argument_is_of a s (ByValue (Integer t)) v h =
    map_where (IsNumberOf a) (IsArgumentOf a) (λ e. typed.NumberArgument (convert_to t e)) (number_in v)
    (λ e p. of.number_argument (convert_of t a e p)) (number_of a v h)
argument_is_of a s (ByValue (Tagged k)) v h =
    map_where (IsStructureOf a) (IsArgumentOf a) (λ w. typed.StructureArgument w (next_slot s)) (structure_in k v)
    (λ w p. of.structure_argument p) (structure_of a k v h)
argument_is_of a s (ByValue Void) v h = tt
argument_is_of a s (ByArray u) v h = array_of a u v h

given_of : (a : Expression) (s : Scope) (p : Option ParameterKind) (v : Option Value)
    → WhereSome (IsValueOf a) v → WhereSome (IsArgumentOf a) (argument_value s p v)
given_of a s None v h = tt
given_of a s (Some p) v h =
    then_where (IsValueOf a) (IsArgumentOf a) (argument_of s p) v (argument_is_of a s p) h

none_more : (ps : List ParameterKind) → WhereSome (AreArgumentsOf tree.no_expressions) (no_more ps)
none_more [] = of.no_arguments
none_more (p ∷ ps) = tt

output_is_of : {given : Expressions} {all : Arguments} (name : Name) (span : Span) → is_output name ≡ true
    → AreArgumentsOf given all → WhereSome (IsValueOf (tree.Call name given span)) (output_of span all)
output_is_of name span q of.no_arguments = tt
output_is_of name span q (of.arguments (of.number_argument h) of.no_arguments) = of.output q h
output_is_of name span q (of.arguments (of.number_argument h) (of.arguments k l)) = tt
output_is_of name span q (of.arguments (of.structure_argument h) l) = tt
output_is_of name span q (of.arguments (of.array_argument h) l) = tt
output_is_of name span q (of.arguments (of.again_argument h) l) = tt

returned_of : (name : Name) (given : Expressions) (s : Scope) (f : ℕ) (all : Arguments) (span : Span)
    (b : Base) → AreArgumentsOf given all
    → WhereSome (IsValueOf (tree.Call name given span)) (returned s f all span b)
returned_of name given s f all span Void h = of.call_effect (of.called h)
returned_of name given s f all span (Integer t) h = of.call (of.called h)
returned_of name given s f all span (Tagged k) h = by_test (is_complete s.structures (Tagged k))
  where
    by_test : (b : Bool)
        → WhereSome (IsValueOf (tree.Call name given span))
        (if b then Some (Returned (typed.call f all (Some (next_slot s)) span) k) else None)
    by_test true = of.called h
    by_test false = tt

called_of : (name : Name) (given : Expressions) (span : Span) (s : Scope) (b : Base) (all : Arguments)
    → AreArgumentsOf given all
    → WhereSome (IsValueOf (tree.Call name given span)) (called name span s b all)
called_of name given span s b all h =
    by_tests (is_input name) (is_output name) (function_number name s) refl refl
  where
    by_number : (o : Option ℕ)
        → WhereSome (IsValueOf (tree.Call name given span)) (option_and_then (λ f. returned s f all span b) o)
    by_number None = tt
    by_number (Some f) = returned_of name given s f all span b h

    by_tests : (i o : Bool) (n : Option ℕ) → is_input name ≡ i → is_output name ≡ o
        → WhereSome (IsValueOf (tree.Call name given span))
        (if i then Some (Number (typed.Input span))
        else if o then output_of span all
        else option_and_then (λ f. returned s f all span b) n)
    by_tests true o n p q = of.input p
    by_tests false true n p q = output_is_of name span q h
    by_tests false false n p q = by_number n

call_of : (name : Name) (given : Expressions) (span : Span) (m : Option Meaning) (s : Scope)
    (all : Option Arguments) → WhereSome (AreArgumentsOf given) all
    → WhereSome (IsValueOf (tree.Call name given span)) (call_value name span m s all)
call_of name given span (Some (Function (Some f) b)) s all h =
    then_where (AreArgumentsOf given) (IsValueOf (tree.Call name given span)) (called name span s f.result) all
    (called_of name given span s f.result) h
call_of name given span None s all h = tt
call_of name given span (Some (Function None b)) s all h = tt
call_of name given span (Some (Automatic slot u)) s all h = tt
call_of name given span (Some (scope.Stored slot u)) s all h = tt
call_of name given span (Some (scope.Borrowed array u)) s all h = tt
call_of name given span (Some (Constant v)) s all h = tt
call_of name given span (Some (Typedef u)) s all h = tt

-- ---- expressions

mutual
  pub found_of : (e : Expression) (s : Scope) → IsFoundOf e (judge e s)
  found_of (tree.Named name) s = name_of name (meaning_of name s)
  found_of (tree.Constant v decimal unsigned longs span) s =
      constant_of v decimal unsigned longs (type_of_constant v decimal unsigned longs) span s
  found_of (tree.Character v span) s =
      character_of v (if in_range the.Int v then Some the.Int else None) span s
  found_of (tree.Parenthesized inner span) s = found_inside inner span (judge inner s).value (found_of inner s)
  found_of (tree.Call name given span) s =
      let m = meaning_of name s in
      let x = judge_arguments given (parameters_of m) s in
      call_of name given span m x.scope x.value (arguments_of given (parameters_of m) s)
  found_of (tree.Index a b span) s =
      let x = judge a s in
      let y = judge b x.scope in
      index_of a b y.scope.structures span x.value (number_found y) (found_of a s)
      (number_found_of b y (found_of b x.scope))
  found_of (tree.Member a name span) s =
      let x = judge a s in
      then_where (IsValueOf a) (IsValueOf (tree.Member a name span)) (member_of x.scope.structures name span)
      x.value (member_is_of a x.scope.structures name span) (found_of a s)
  found_of (tree.PostfixStep operator a span) s = after_of operator a span (judge a s) (found_of a s)
  found_of (tree.PrefixStep operator a span) s = before_of operator a span (judge a s) (found_of a s)
  found_of (tree.Unary operator a span) s =
      let x = judge a s in
      map_where (IsNumberOf (tree.Unary operator a span)) (IsValueOf (tree.Unary operator a span)) Number
      (option_and_then (typed_unary operator span) (number_found x)) (λ e p. p)
      (then_where (IsNumberOf a) (IsNumberOf (tree.Unary operator a span)) (typed_unary operator span)
      (number_found x) (unary_is_of operator span a) (number_found_of a x (found_of a s)))
  found_of (tree.Cast type a span) s =
      let x = judge_type type s in
      cast_is_of type a span x.value (judge a x.scope).value (found_of a x.scope)
  found_of (tree.Binary operator a b span) s =
      let x = judge a s in
      let y = judge b x.scope in
      map_where (IsNumberOf (tree.Binary operator a b span)) (IsValueOf (tree.Binary operator a b span)) Number
      (lift2 (typed_binary operator span) (number_found x) (number_found y)) (λ e p. p)
      (lift_where (IsNumberOf a) (IsNumberOf b) (IsNumberOf (tree.Binary operator a b span))
      (typed_binary operator span) (number_found x) (number_found y) (binary_is_of operator span a b)
      (number_found_of a x (found_of a s)) (number_found_of b y (found_of b x.scope)))
  found_of (tree.Conditional a b c span) s =
      let x = judge a s in
      let y = judge b x.scope in
      conditional_of span a b c (number_found x) y.value (judge c y.scope).value
      (number_found_of a x (found_of a s)) (found_of b x.scope) (found_of c y.scope)
  found_of (tree.Assignment operator a b span) s =
      let x = judge a s in
      assigned_of operator a b span x (judge b x.scope) (found_of a s) (found_of b x.scope)
  found_of (tree.Comma operands span) s = tt

  pub arguments_of : (es : Expressions) (ps : List ParameterKind) (s : Scope)
      → WhereSome (AreArgumentsOf es) (judge_arguments es ps s).value
  arguments_of tree.no_expressions ps s = none_more ps
  arguments_of (tree.expressions e rest) ps s =
      let x = judge e s in
      let one = argument_judged (span_of e).start (first_of ps) x in
      lift_where (IsArgumentOf e) (AreArgumentsOf rest) (AreArgumentsOf (tree.expressions e rest))
      typed.arguments one.value (judge_arguments rest (rest_of ps) one.scope).value (λ a more p q. of.arguments p q)
      (given_of e x.scope (first_of ps) x.value (found_of e s))
      (arguments_of rest (rest_of ps) one.scope)
