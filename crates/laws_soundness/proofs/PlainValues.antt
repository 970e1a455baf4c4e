-- Expressions: what is found of them is plain, whatever faults there are.
use Rattle.std.proofs.Common.{ℕ, ◌==◌, ℤ, pos, Bool, true, false, if◌then◌else◌, List, [], ◌∷◌, slice_get, Option, Some, None, option_map, option_and_then}
use Rattle.mc_span.specs.declared.span.Span.{Span}
use Rattle.mc_tree.specs.declared.expressions.unary_operator.UnaryOperator.{UnaryOperator}
use Rattle.mc_tree.specs.declared.expressions.unary_operator.UnaryOperator.TheVariants as unary
use Rattle.mc_tree.specs.declared.expressions.step_operator.StepOperator.{StepOperator}
use Rattle.mc_tree.specs.declared.expressions.binary_operator.BinaryOperator.{BinaryOperator}
use Rattle.mc_tree.specs.declared.expressions.binary_operator.BinaryOperator.TheVariants as binary
use Rattle.mc_tree.specs.declared.expressions.assignment_operator.AssignmentOperator.{AssignmentOperator}
use Rattle.mc_tree.specs.declared.expressions.assignment_operator.AssignmentOperator.TheVariants as assign
use Rattle.mc_tree.specs.Tree.{Name, Expression, Expressions, span_of}
use Rattle.mc_tree.specs.Tree as tree
use Rattle.mc_value.specs.declared.int_type.IntType.{IntType}
use Rattle.mc_value.specs.declared.int_type.IntType.TheVariants as the
use Rattle.mc_value.specs.IntTypes.{in_range}
use Rattle.mc_value.specs.Conversions.{promoted, common_of}
use Rattle.mc_typed.specs.Layout.{start}
use Rattle.mc_typed.specs.Sound.{type_of}
use Rattle.mc_typed.specs.Tree.{Place, StructureValue, Arguments, Effect}
use Rattle.mc_typed.specs.Tree as t
use Rattle.types_rules.specs.Profile.{counted}
use Rattle.types_rules.specs.Types.{Base, Void, Integer, Tagged, CType, plain, Structure, Member, members_of, cells_of, same_integer, is_complete, ParameterKind, ByValue, ByArray}
use Rattle.types_rules.specs.Scopes.{Meaning, Automatic, Constant, Function, Typedef, Scope, meaning_of, function_number, is_input, is_output, next_slot}
use Rattle.types_rules.specs.Scopes as scope
use Rattle.types_rules.specs.Values.{Value, Number, Stored, Borrowed, Returned, Done, Assigned, Designator, Kind, IsVoid, IsAssignment, IsInteger, IsStructure, IsArray, IsFunction, kind_of, Found, number_stored, number_in, structure_stored, structure_in, any_structure_in, number_found, value_effect, discarded_in, lift2}
use Rattle.types_rules.specs.Constants.{type_of_constant}
use Rattle.types_rules.specs.Expressions.{convert_to, promote, common_type, value_of_name, literal, stored_element, element_of, index_value, Selected, selected, member_type, layouts_of, member_at, stored_member, member_of, typed_unary, cast_base, cast_value_to, cast_value, typed_binary, choice_of, arms_value, conditional_value, assign_effect, update_of, update_effect, effect_on, assignment_value, update_found, assignment_found, step_operator, step_found, operator_after, operator_before}
use Rattle.types_rules.specs.Calls.{array_fits, stored_array, array_argument, argument_of, argument_value, argument_judged, first_of, rest_of, no_more, parameters_of, output_of, returned, called, call_value}
use Rattle.types_rules.specs.Judgement.{judge, judge_arguments, judge_type}
use Rattle.laws_soundness.specs.Plain.{IsPlainPlace, IsPlain, IsTested, IsPlainStructure, ArePlainArguments, IsPlainArgument, IsPlainEffect}

-- ---- what holds of a value where there is one

abbrev pub WhereSome : {A : Type 0} → (A → Type 0) → Option A → Type 0
WhereSome P None = Unit {0}
WhereSome P (Some a) = P a

pub map_where : {A B : Type 0} (P : A → Type 0) (Q : B → Type 0) (f : A → B) (o : Option A)
    → ((a : A) → P a → Q (f a)) → WhereSome P o → WhereSome Q (option_map f o)
map_where P Q f None g h = tt
map_where P Q f (Some a) g h = g a h

pub then_where : {A B : Type 0} (P : A → Type 0) (Q : B → Type 0) (f : A → Option B) (o : Option A)
    → ((a : A) → P a → WhereSome Q (f a)) → WhereSome P o → WhereSome Q (option_and_then f o)
then_where P Q f None g h = tt
then_where P Q f (Some a) g h = g a h

pub lift_where : {A B C : Type 0} (P : A → Type 0) (Q : B → Type 0) (R : C → Type 0) (f : A → B → C)
    (o : Option A) (p : Option B) → ((a : A) (b : B) → P a → Q b → R (f a b)) → WhereSome P o
    → WhereSome Q p → WhereSome R (lift2 f o p)
lift_where P Q R f (Some a) (Some b) g h k = g a b h k
lift_where P Q R f (Some a) None g h k = tt
lift_where P Q R f None p g h k = tt

-- ---- values

abbrev pub IsPlainValue : Value → Type 0
IsPlainValue (Number e) = IsTested e
IsPlainValue (Stored place u) = IsPlainPlace place
IsPlainValue (Borrowed array u span) = Unit {0}
IsPlainValue (Returned c k) = IsPlainStructure (t.Returned c)
IsPlainValue (Done effect) = IsPlainEffect effect
IsPlainValue (Assigned effect) = IsPlainEffect effect
IsPlainValue Designator = Unit {0}

abbrev pub IsPlainFound : Found → Type 0
IsPlainFound x = WhereSome IsPlainValue x.value

pub convert_plain : (a : IntType) (e : t.Expression) → IsPlain e → IsPlain (convert_to a e)
convert_plain a e h = by_test (same_integer (type_of e) a)
  where
    by_test : (b : Bool) → IsPlain (if b then e else t.Convert a false e (t.span_of e))
    by_test true = h
    by_test false = h

pub promote_plain : (e : t.Expression) → IsPlain e → IsPlain (promote e)
promote_plain e h = convert_plain (promoted (type_of e)) e h

stored_number : (place : Place) (b : Base) (ls : List ℕ) → IsPlainPlace place
    → WhereSome IsTested (number_stored place b ls)
stored_number place (Integer a) [] h = (tt, h)
stored_number place (Integer a) (n ∷ ns) h = tt
stored_number place Void ls h = tt
stored_number place (Tagged k) ls h = tt

pub number_plain : (v : Value) → IsPlainValue v → WhereSome IsTested (number_in v)
number_plain (Number e) h = h
number_plain (Stored place u) h = stored_number place u.base u.lengths h
number_plain (Borrowed array u span) h = tt
number_plain (Returned c k) h = tt
number_plain (Done effect) h = tt
number_plain (Assigned effect) h = tt
number_plain Designator h = tt

pub number_found_plain : (x : Found) → IsPlainFound x → WhereSome IsTested (number_found x)
number_found_plain x h = then_where IsPlainValue IsTested number_in x.value number_plain h

stored_structure : (k : ℕ) (place : Place) (b : Base) (ls : List ℕ) → IsPlainPlace place
    → WhereSome IsPlainStructure (structure_stored k place b ls)
stored_structure k place (Tagged j) [] h = by_test (j == k)
  where
    by_test : (b : Bool) → WhereSome IsPlainStructure (if b then Some (t.Stored place) else None)
    by_test true = h
    by_test false = tt
stored_structure k place (Tagged j) (n ∷ ns) h = tt
stored_structure k place Void ls h = tt
stored_structure k place (Integer a) ls h = tt

pub structure_plain : (k : ℕ) (v : Value) → IsPlainValue v → WhereSome IsPlainStructure (structure_in k v)
structure_plain k (Stored place u) h = stored_structure k place u.base u.lengths h
structure_plain k (Returned c j) h = by_test (j == k)
  where
    by_test : (b : Bool) → WhereSome IsPlainStructure (if b then Some (t.Returned c) else None)
    by_test true = h
    by_test false = tt
structure_plain k (Number e) h = tt
structure_plain k (Borrowed array u span) h = tt
structure_plain k (Done effect) h = tt
structure_plain k (Assigned effect) h = tt
structure_plain k Designator h = tt

any_structure_plain : (k : Kind) (v : Value) → IsPlainValue v
    → WhereSome IsPlainStructure (any_structure_in k v)
any_structure_plain (IsStructure k) v h = structure_plain k v h
any_structure_plain IsVoid v h = tt
any_structure_plain IsAssignment v h = tt
any_structure_plain IsInteger v h = tt
any_structure_plain (IsArray u) v h = tt
any_structure_plain IsFunction v h = tt

effect_of_value : (e : Option t.Expression) (w : Option StructureValue) → WhereSome IsTested e
    → WhereSome IsPlainStructure w → WhereSome IsPlainEffect (value_effect e w)
effect_of_value (Some e) w h k = h.1
effect_of_value None (Some w) h k = k
effect_of_value None None h k = tt

value_effect_plain : (v : Value) → IsPlainValue v
    → WhereSome IsPlainEffect (value_effect (number_in v) (any_structure_in (kind_of v) v))
value_effect_plain v h =
    effect_of_value (number_in v) (any_structure_in (kind_of v) v) (number_plain v h)
    (any_structure_plain (kind_of v) v h)

pub discarded_plain : (v : Value) → IsPlainValue v → WhereSome IsPlainEffect (discarded_in v)
discarded_plain (Done effect) h = h
discarded_plain (Number e) h = value_effect_plain (Number e) h
discarded_plain (Stored place u) h = value_effect_plain (Stored place u) h
discarded_plain (Borrowed array u span) h = value_effect_plain (Borrowed array u span) h
discarded_plain (Returned c k) h = value_effect_plain (Returned c k) h
discarded_plain (Assigned effect) h = value_effect_plain (Assigned effect) h
discarded_plain Designator h = value_effect_plain Designator h

-- ---- names, elements and members

name_plain : (span : Span) (m : Option Meaning)
    → WhereSome IsPlainValue (option_and_then (value_of_name span) m)
name_plain span None = tt
name_plain span (Some (Automatic slot None)) = tt
name_plain span (Some (Automatic slot (Some u))) = tt
name_plain span (Some (scope.Stored slot None)) = tt
name_plain span (Some (scope.Stored slot (Some u))) = tt
name_plain span (Some (scope.Borrowed array u)) = tt
name_plain span (Some (Constant None)) = tt
name_plain span (Some (Constant (Some v))) = (tt, tt)
name_plain span (Some (Function f b)) = tt
name_plain span (Some (Typedef u)) = tt

literal_plain : (v : ℤ) (a : Option IntType) (span : Span) (s : Scope) → IsPlainFound (literal v a span s)
literal_plain v None span s = tt
literal_plain v (Some a) span s = (tt, tt)

stored_element_plain : (all : List Structure) (place : Place) (u : CType) (ls : List ℕ) (e : t.Expression)
    (span : Span) → IsPlainPlace place → IsPlain e → WhereSome IsPlainValue (stored_element all place u ls e span)
stored_element_plain all place u [] e span h k = tt
stored_element_plain all place u (n ∷ ns) e span h k = (h, k)

element_plain : (all : List Structure) (span : Span) (v : Value) (e : t.Expression) → IsPlainValue v
    → IsPlain e → WhereSome IsPlainValue (element_of all span v e)
element_plain all span (Stored place u) e h k = stored_element_plain all place u u.lengths e span h k
element_plain all span (Borrowed array u name) e h k = k
element_plain all span (Number f) e h k = tt
element_plain all span (Returned c n) e h k = tt
element_plain all span (Done effect) e h k = tt
element_plain all span (Assigned effect) e h k = tt
element_plain all span Designator e h k = tt

index_plain : (all : List Structure) (span : Span) (v : Option Value) (e : Option t.Expression)
    → WhereSome IsPlainValue v → WhereSome IsTested e → WhereSome IsPlainValue (index_value all span v e)
index_plain all span None e h k = tt
index_plain all span (Some v) e h k =
    then_where IsTested IsPlainValue (element_of all span v) e (λ f p. element_plain all span v f h p.1) k

stored_member_plain : (all : List Structure) (name : Name) (span : Span) (place : Place) (u : CType)
    (ls : List ℕ) (b : Base) → IsPlainPlace place
    → WhereSome IsPlainValue (stored_member all name span place u ls b)
stored_member_plain all name span place u [] (Tagged k) h =
    let members = members_of (slice_get all k) in
    by_member members (selected 0 name.text members)
  where
    by_type : (members : List Member) (k : ℕ) (type : Option CType)
        → WhereSome IsPlainValue (option_map
        (λ v. Stored (t.Member place (counted k) (counted (start (layouts_of members) k)) span) (member_type u.is_const v)) type)
    by_type members k None = tt
    by_type members k (Some v) = h

    by_member : (members : List Member) (o : Option Selected)
        → WhereSome IsPlainValue (option_and_then (member_at members place u.is_const span) o)
    by_member members None = tt
    by_member members (Some one) = by_type members one.number one.member.member_type
stored_member_plain all name span place u [] Void h = tt
stored_member_plain all name span place u [] (Integer a) h = tt
stored_member_plain all name span place u (n ∷ ns) b h = tt

member_plain : (all : List Structure) (name : Name) (span : Span) (v : Value) → IsPlainValue v
    → WhereSome IsPlainValue (member_of all name span v)
member_plain all name span (Stored place u) h =
    stored_member_plain all name span place u u.lengths u.base h
member_plain all name span (Number e) h = tt
member_plain all name span (Borrowed array u at) h = tt
member_plain all name span (Returned c k) h = tt
member_plain all name span (Done effect) h = tt
member_plain all name span (Assigned effect) h = tt
member_plain all name span Designator h = tt

-- ---- operators and casts

unary_plain : (operator : UnaryOperator) (span : Span) (e : t.Expression) → IsTested e
    → WhereSome IsTested (typed_unary operator span e)
unary_plain unary.Plus span e h = (tt, promote_plain e h.1)
unary_plain unary.Minus span e h = (tt, promote_plain e h.1)
unary_plain unary.Complement span e h = (tt, promote_plain e h.1)
unary_plain unary.Not span e h = (tt, h)
unary_plain unary.Dereference span e h = tt
unary_plain unary.Address span e h = tt

cast_plain_to : (span : Span) (v : Value) (b : Option Base) → IsPlainValue v
    → WhereSome IsPlainValue (cast_value_to span v b)
cast_plain_to span v (Some Void) h =
    map_where IsPlainEffect IsPlainValue (λ e. Done (t.Discard e span)) (discarded_in v) (λ e p. p) (discarded_plain v h)
cast_plain_to span v (Some (Integer a)) h =
    map_where IsTested IsPlainValue (λ e. Number (t.Convert a true e span)) (number_in v) (λ e p. (tt, p.1)) (number_plain v h)
cast_plain_to span v (Some (Tagged k)) h = tt
cast_plain_to span v None h = tt

cast_plain : (span : Span) (type : Option CType) (v : Option Value) → WhereSome IsPlainValue v
    → WhereSome IsPlainValue (cast_value span type v)
cast_plain span None v h = tt
cast_plain span (Some u) v h =
    then_where IsPlainValue IsPlainValue (λ w. cast_value_to span w (cast_base u u.lengths)) v (λ w p. cast_plain_to span w (cast_base u u.lengths) p) h

both_converted : (e f : t.Expression) → IsTested e → IsTested f
    → Unit {0} × (IsPlain (convert_to (common_type e f) e) × IsPlain (convert_to (common_type e f) f))
both_converted e f h k =
    (tt, (convert_plain (common_type e f) e h.1, convert_plain (common_type e f) f k.1))

binary_plain : (operator : BinaryOperator) (span : Span) (e f : t.Expression) → IsTested e → IsTested f
    → IsTested (typed_binary operator span e f)
binary_plain binary.Multiply span e f h k = both_converted e f h k
binary_plain binary.Divide span e f h k = both_converted e f h k
binary_plain binary.Remainder span e f h k = both_converted e f h k
binary_plain binary.Add span e f h k = both_converted e f h k
binary_plain binary.Subtract span e f h k = both_converted e f h k
binary_plain binary.ShiftLeft span e f h k = (tt, (promote_plain e h.1, promote_plain f k.1))
binary_plain binary.ShiftRight span e f h k = (tt, (promote_plain e h.1, promote_plain f k.1))
binary_plain binary.Less span e f h k = both_converted e f h k
binary_plain binary.Greater span e f h k = both_converted e f h k
binary_plain binary.LessOrEqual span e f h k = both_converted e f h k
binary_plain binary.GreaterOrEqual span e f h k = both_converted e f h k
binary_plain binary.Equal span e f h k = both_converted e f h k
binary_plain binary.Unequal span e f h k = both_converted e f h k
binary_plain binary.BitAnd span e f h k = both_converted e f h k
binary_plain binary.BitXor span e f h k = both_converted e f h k
binary_plain binary.BitOr span e f h k = both_converted e f h k
binary_plain binary.And span e f h k = (tt, (h, k))
binary_plain binary.Or span e f h k = (tt, (h, k))

-- ---- `?:`

number_arms : (span : Span) (e : t.Expression) (v w : Value) → IsTested e → IsPlainValue v → IsPlainValue w
    → WhereSome IsPlainValue (lift2 (choice_of span e) (number_in v) (number_in w))
number_arms span e v w h p q =
    lift_where IsTested IsTested IsPlainValue (choice_of span e) (number_in v) (number_in w)
    (λ f g k l. (tt, (h, convert_plain (common_type f g) f k.1, convert_plain (common_type f g) g l.1)))
    (number_plain v p) (number_plain w q)

arms_plain : (span : Span) (e : t.Expression) (v w : Value) → IsTested e → IsPlainValue v → IsPlainValue w
    → WhereSome IsPlainValue (arms_value span e v w)
arms_plain span e (Done a) (Done b) h p q = (h, p, q)
arms_plain span e (Done a) (Number f) h p q = tt
arms_plain span e (Done a) (Stored place u) h p q = tt
arms_plain span e (Done a) (Borrowed array u at) h p q = tt
arms_plain span e (Done a) (Returned c k) h p q = tt
arms_plain span e (Done a) (Assigned effect) h p q = tt
arms_plain span e (Done a) Designator h p q = tt
arms_plain span e (Number f) w h p q = number_arms span e (Number f) w h p q
arms_plain span e (Stored place u) w h p q = number_arms span e (Stored place u) w h p q
arms_plain span e (Borrowed array u at) w h p q = tt
arms_plain span e (Returned c k) w h p q = tt
arms_plain span e (Assigned effect) w h p q = tt
arms_plain span e Designator w h p q = tt

conditional_plain : (span : Span) (e : Option t.Expression) (v w : Option Value) → WhereSome IsTested e
    → WhereSome IsPlainValue v → WhereSome IsPlainValue w → WhereSome IsPlainValue (conditional_value span e v w)
conditional_plain span None v w h p q = tt
conditional_plain span (Some e) None w h p q = tt
conditional_plain span (Some e) (Some v) w h p q =
    then_where IsPlainValue IsPlainValue (arms_value span e v) w (λ one k. arms_plain span e v one h p k) q

-- ---- assignments and steps

effect_on_plain : (make : Value → Place → Base → List ℕ → Option Effect) (v w : Value)
    → ((one : Value) (place : Place) (b : Base) (ls : List ℕ) → IsPlainValue one → IsPlainPlace place
    → WhereSome IsPlainEffect (make one place b ls))
    → IsPlainValue v → IsPlainValue w → WhereSome IsPlainValue (effect_on make v w)
effect_on_plain make (Stored place u) w g h k =
    map_where IsPlainEffect IsPlainValue Assigned (make w place u.base u.lengths) (λ e p. p)
    (g w place u.base u.lengths k h)
effect_on_plain make (Number e) w g h k = tt
effect_on_plain make (Borrowed array u span) w g h k = tt
effect_on_plain make (Returned c n) w g h k = tt
effect_on_plain make (Done effect) w g h k = tt
effect_on_plain make (Assigned effect) w g h k = tt
effect_on_plain make Designator w g h k = tt

assignment_plain : (make : Value → Place → Base → List ℕ → Option Effect) (v w : Option Value)
    → ((one : Value) (place : Place) (b : Base) (ls : List ℕ) → IsPlainValue one → IsPlainPlace place
    → WhereSome IsPlainEffect (make one place b ls))
    → WhereSome IsPlainValue v → WhereSome IsPlainValue w → WhereSome IsPlainValue (assignment_value make v w)
assignment_plain make None w g h k = tt
assignment_plain make (Some v) w g h k =
    then_where IsPlainValue IsPlainValue (effect_on make v) w (λ one p. effect_on_plain make v one g h p) k

assign_plain : (all : List Structure) (span : Span) (v : Value) (place : Place) (b : Base) (ls : List ℕ)
    → IsPlainValue v → IsPlainPlace place → WhereSome IsPlainEffect (assign_effect all span v place b ls)
assign_plain all span v place (Integer a) [] h k =
    map_where IsTested IsPlainEffect (λ e. t.Assign place a (convert_to a e) span) (number_in v) (λ e p. (k, convert_plain a e p.1)) (number_plain v h)
assign_plain all span v place (Tagged n) [] h k =
    map_where IsPlainStructure IsPlainEffect
    (λ w. t.Copy place w (cells_of all (plain (Tagged n))) span) (structure_in n v) (λ w p. (k, p)) (structure_plain n v h)
assign_plain all span v place Void ls h k = tt
assign_plain all span v place (Integer a) (n ∷ ns) h k = tt
assign_plain all span v place (Tagged n) (m ∷ ms) h k = tt

update_of_plain : (operator : AssignmentOperator) (place : Place) (a : IntType) (e : t.Expression)
    (span : Span) → IsPlainPlace place → IsPlain e → WhereSome IsPlainEffect (update_of operator place a e span)
update_of_plain assign.Assign place a e span h k = tt
update_of_plain assign.Multiply place a e span h k = (h, convert_plain (common_of a (type_of e)) e k)
update_of_plain assign.Divide place a e span h k = (h, convert_plain (common_of a (type_of e)) e k)
update_of_plain assign.Remainder place a e span h k = (h, convert_plain (common_of a (type_of e)) e k)
update_of_plain assign.Add place a e span h k = (h, convert_plain (common_of a (type_of e)) e k)
update_of_plain assign.Subtract place a e span h k = (h, convert_plain (common_of a (type_of e)) e k)
update_of_plain assign.ShiftLeft place a e span h k = (h, promote_plain e k)
update_of_plain assign.ShiftRight place a e span h k = (h, promote_plain e k)
update_of_plain assign.BitAnd place a e span h k = (h, convert_plain (common_of a (type_of e)) e k)
update_of_plain assign.BitXor place a e span h k = (h, convert_plain (common_of a (type_of e)) e k)
update_of_plain assign.BitOr place a e span h k = (h, convert_plain (common_of a (type_of e)) e k)

update_plain : (operator : AssignmentOperator) (span : Span) (v : Value) (place : Place) (b : Base)
    (ls : List ℕ) → IsPlainValue v → IsPlainPlace place
    → WhereSome IsPlainEffect (update_effect operator span v place b ls)
update_plain operator span v place (Integer a) [] h k =
    then_where IsTested IsPlainEffect (λ e. update_of operator place a e span) (number_in v) (λ e p. update_of_plain operator place a e span k p.1)
    (number_plain v h)
update_plain operator span v place (Integer a) (n ∷ ns) h k = tt
update_plain operator span v place Void ls h k = tt
update_plain operator span v place (Tagged n) ls h k = tt

updated_plain : (operator : AssignmentOperator) (span : Span) (x y : Found) → IsPlainFound x
    → IsPlainFound y → IsPlainFound (update_found operator span x y)
updated_plain operator span x y h k =
    assignment_plain (update_effect operator span) x.value y.value (update_plain operator span) h k

assigned_plain : (operator : AssignmentOperator) (span : Span) (x y : Found) → IsPlainFound x
    → IsPlainFound y → IsPlainFound (assignment_found operator span x y)
assigned_plain assign.Assign span x y h k =
    assignment_plain (assign_effect y.scope.structures span) x.value y.value
    (assign_plain y.scope.structures span) h k
assigned_plain assign.Multiply span x y h k = updated_plain assign.Multiply span x y h k
assigned_plain assign.Divide span x y h k = updated_plain assign.Divide span x y h k
assigned_plain assign.Remainder span x y h k = updated_plain assign.Remainder span x y h k
assigned_plain assign.Add span x y h k = updated_plain assign.Add span x y h k
assigned_plain assign.Subtract span x y h k = updated_plain assign.Subtract span x y h k
assigned_plain assign.ShiftLeft span x y h k = updated_plain assign.ShiftLeft span x y h k
assigned_plain assign.ShiftRight span x y h k = updated_plain assign.ShiftRight span x y h k
assigned_plain assign.BitAnd span x y h k = updated_plain assign.BitAnd span x y h k
assigned_plain assign.BitXor span x y h k = updated_plain assign.BitXor span x y h k
assigned_plain assign.BitOr span x y h k = updated_plain assign.BitOr span x y h k

step_plain : (operator : StepOperator) (at span : Span) (x : Found) → IsPlainFound x
    → IsPlainFound (step_found operator at span x)
step_plain operator at span x h =
    let one = literal (pos 1) (Some the.Int) at x.scope in
    updated_plain (step_operator operator) span x one h (literal_plain (pos 1) (Some the.Int) at x.scope)

-- ---- arguments and calls

stored_array_plain : (u : CType) (place : Place) (v : CType) (ls : List ℕ) → IsPlainPlace place
    → WhereSome IsPlainArgument (stored_array u place v ls)
stored_array_plain u place v [] h = tt
stored_array_plain u place v (n ∷ ns) h = by_test (array_fits u (record v { lengths = ns }))
  where
    by_test : (b : Bool) → WhereSome IsPlainArgument (if b then Some (t.ArrayArgument place n) else None)
    by_test true = h
    by_test false = tt

array_plain : (u : CType) (v : Value) → IsPlainValue v → WhereSome IsPlainArgument (array_argument u v)
array_plain u (Stored place v) h = stored_array_plain u place v v.lengths h
array_plain u (Borrowed array v span) h = by_test (array_fits u v)
  where
    by_test : (b : Bool) → WhereSome IsPlainArgument (if b then Some (t.AgainArgument array span) else None)
    by_test true = tt
    by_test false = tt
array_plain u (Number e) h = tt
array_plain u (Returned c k) h = tt
array_plain u (Done effect) h = tt
array_plain u (Assigned effect) h = tt
array_plain u Designator h = tt

argument_plain : (s : Scope) (p : ParameterKind) (v : Value) → IsPlainValue v
    → WhereSome IsPlainArgument (argument_of s p v)
argument_plain s (ByValue (Integer a)) v h =
    map_where IsTested IsPlainArgument (λ e. t.NumberArgument (convert_to a e)) (number_in v) (λ e p. convert_plain a e p.1) (number_plain v h)
argument_plain s (ByValue (Tagged k)) v h =
    map_where IsPlainStructure IsPlainArgument (λ w. t.StructureArgument w (next_slot s)) (structure_in k v) (λ w p. p) (structure_plain k v h)
argument_plain s (ByValue Void) v h = tt
argument_plain s (ByArray u) v h = array_plain u v h

given_plain : (s : Scope) (p : Option ParameterKind) (v : Option Value) → WhereSome IsPlainValue v
    → WhereSome IsPlainArgument (argument_value s p v)
given_plain s None v h = tt
given_plain s (Some p) v h =
    then_where IsPlainValue IsPlainArgument (argument_of s p) v (argument_plain s p) h

none_more : (ps : List ParameterKind) → WhereSome ArePlainArguments (no_more ps)
none_more [] = tt
none_more (p ∷ ps) = tt

output_plain : (span : Span) (given : Arguments) → ArePlainArguments given
    → WhereSome IsPlainValue (output_of span given)
output_plain span t.no_arguments h = tt
output_plain span (t.arguments (t.NumberArgument e) t.no_arguments) h = h.0
output_plain span (t.arguments (t.NumberArgument e) (t.arguments a rest)) h = tt
output_plain span (t.arguments (t.StructureArgument value copy) rest) h = tt
output_plain span (t.arguments (t.ArrayArgument place n) rest) h = tt
output_plain span (t.arguments (t.AgainArgument array at) rest) h = tt

returned_plain : (s : Scope) (f : ℕ) (given : Arguments) (span : Span) (b : Base) → ArePlainArguments given
    → WhereSome IsPlainValue (returned s f given span b)
returned_plain s f given span Void h = h
returned_plain s f given span (Integer a) h = (tt, h)
returned_plain s f given span (Tagged k) h = by_test (is_complete s.structures (Tagged k))
  where
    by_test : (b : Bool)
        → WhereSome IsPlainValue (if b then Some (Returned (t.call f given (Some (next_slot s)) span) k) else None)
    by_test true = h
    by_test false = tt

called_plain : (name : Name) (span : Span) (s : Scope) (b : Base) (given : Arguments)
    → ArePlainArguments given → WhereSome IsPlainValue (called name span s b given)
called_plain name span s b given h = by_tests (is_input name) (is_output name) (function_number name s)
  where
    by_number : (o : Option ℕ) → WhereSome IsPlainValue (option_and_then (λ f. returned s f given span b) o)
    by_number None = tt
    by_number (Some f) = returned_plain s f given span b h

    by_tests : (i o : Bool) (n : Option ℕ)
        → WhereSome IsPlainValue (if i then Some (Number (t.Input span))
        else if o then output_of span given
        else option_and_then (λ f. returned s f given span b) n)
    by_tests true o n = (tt, tt)
    by_tests false true n = output_plain span given h
    by_tests false false n = by_number n

call_plain : (name : Name) (span : Span) (m : Option Meaning) (s : Scope) (given : Option Arguments)
    → WhereSome ArePlainArguments given → WhereSome IsPlainValue (call_value name span m s given)
call_plain name span (Some (Function (Some f) b)) s given h =
    then_where ArePlainArguments IsPlainValue (called name span s f.result) given
    (called_plain name span s f.result) h
call_plain name span None s given h = tt
call_plain name span (Some (Function None b)) s given h = tt
call_plain name span (Some (Automatic slot u)) s given h = tt
call_plain name span (Some (scope.Stored slot u)) s given h = tt
call_plain name span (Some (scope.Borrowed array u)) s given h = tt
call_plain name span (Some (Constant v)) s given h = tt
call_plain name span (Some (Typedef u)) s given h = tt

-- ---- expressions

mutual
  pub found_plain : (e : Expression) (s : Scope) → IsPlainFound (judge e s)
  found_plain (tree.Named name) s = name_plain name.span (meaning_of name s)
  found_plain (tree.Constant v decimal unsigned longs span) s =
      literal_plain (pos v) (type_of_constant v decimal unsigned longs) span s
  found_plain (tree.Character v span) s =
      literal_plain v (if in_range the.Int v then Some the.Int else None) span s
  found_plain (tree.Parenthesized inner span) s = found_plain inner s
  found_plain (tree.Call name given span) s =
      let m = meaning_of name s in
      let x = judge_arguments given (parameters_of m) s in
      call_plain name span m x.scope x.value (arguments_plain given (parameters_of m) s)
  found_plain (tree.Index a b span) s =
      let x = judge a s in
      let y = judge b x.scope in
      index_plain y.scope.structures span x.value (number_found y) (found_plain a s)
      (number_found_plain y (found_plain b x.scope))
  found_plain (tree.Member a name span) s =
      let x = judge a s in
      then_where IsPlainValue IsPlainValue (member_of x.scope.structures name span) x.value
      (member_plain x.scope.structures name span) (found_plain a s)
  found_plain (tree.PostfixStep operator a span) s =
      step_plain operator (operator_after span) span (judge a s) (found_plain a s)
  found_plain (tree.PrefixStep operator a span) s =
      step_plain operator (operator_before span) span (judge a s) (found_plain a s)
  found_plain (tree.Unary operator a span) s =
      let x = judge a s in
      map_where IsTested IsPlainValue Number (option_and_then (typed_unary operator span) (number_found x)) (λ e p. p)
      (then_where IsTested IsTested (typed_unary operator span) (number_found x) (unary_plain operator span)
      (number_found_plain x (found_plain a s)))
  found_plain (tree.Cast type a span) s =
      let x = judge_type type s in
      cast_plain span x.value (judge a x.scope).value (found_plain a x.scope)
  found_plain (tree.Binary operator a b span) s =
      let x = judge a s in
      let y = judge b x.scope in
      map_where IsTested IsPlainValue Number (lift2 (typed_binary operator span) (number_found x) (number_found y))
      (λ e p. p)
      (lift_where IsTested IsTested IsTested (typed_binary operator span) (number_found x) (number_found y)
      (binary_plain operator span) (number_found_plain x (found_plain a s))
      (number_found_plain y (found_plain b x.scope)))
  found_plain (tree.Conditional a b c span) s =
      let x = judge a s in
      let y = judge b x.scope in
      conditional_plain span (number_found x) y.value (judge c y.scope).value
      (number_found_plain x (found_plain a s)) (found_plain b x.scope) (found_plain c y.scope)
  found_plain (tree.Assignment operator a b span) s =
      let x = judge a s in
      assigned_plain operator span x (judge b x.scope) (found_plain a s) (found_plain b x.scope)
  found_plain (tree.Comma operands span) s = tt

  pub arguments_plain : (es : Expressions) (ps : List ParameterKind) (s : Scope)
      → WhereSome ArePlainArguments (judge_arguments es ps s).value
  arguments_plain tree.no_expressions ps s = none_more ps
  arguments_plain (tree.expressions e rest) ps s =
      let x = judge e s in
      let one = argument_judged (span_of e).start (first_of ps) x in
      lift_where IsPlainArgument ArePlainArguments ArePlainArguments t.arguments one.value
      (judge_arguments rest (rest_of ps) one.scope).value (λ a more p q. (p, q))
      (given_plain x.scope (first_of ps) x.value (found_plain e s))
      (arguments_plain rest (rest_of ps) one.scope)
