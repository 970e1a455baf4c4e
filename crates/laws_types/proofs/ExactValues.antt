-- Expressions: what is found of them is exact, whatever faults there are.
use Rattle.std.proofs.Common.{◌≡◌, ◌≢◌, ℕ, ◌==◌, refl, ap, sym, ◌∙◌, arith, ℤ, pos, Bool, true, false, if◌then◌else◌, List, [], ◌∷◌, slice_get, Option, Some, None, option_map, option_and_then}
use Rattle.mc_span.specs.declared.span.Span.{Span}
use Rattle.mc_tree.specs.declared.expressions.unary_operator.UnaryOperator.{UnaryOperator}
use Rattle.mc_tree.specs.declared.expressions.unary_operator.UnaryOperator.TheVariants as unary
use Rattle.mc_tree.specs.declared.expressions.step_operator.StepOperator.{StepOperator}
use Rattle.mc_tree.specs.declared.expressions.binary_operator.BinaryOperator.{BinaryOperator}
use Rattle.mc_tree.specs.declared.expressions.binary_operator.BinaryOperator.TheVariants as binary
use Rattle.mc_tree.specs.declared.expressions.assignment_operator.AssignmentOperator.{AssignmentOperator}
use Rattle.mc_tree.specs.declared.expressions.assignment_operator.AssignmentOperator.TheVariants as assign
use Rattle.mc_tree.specs.Tree.{Name, Expression, Expressions, span_of}
use Rattle.mc_tree.specs.Tree as tree
use Rattle.mc_value.specs.declared.int_type.IntType.{IntType}
use Rattle.mc_value.specs.declared.int_type.IntType.TheVariants as the
use Rattle.mc_value.specs.IntTypes.{in_range}
use Rattle.mc_value.specs.Conversions.{promoted, common_of}
use Rattle.mc_typed.specs.Layout.{start}
use Rattle.mc_typed.specs.Sound.{type_of}
use Rattle.mc_typed.specs.Tree.{Place, StructureValue, Arguments, Effect}
use Rattle.mc_typed.specs.Tree as typed
use Rattle.types_rules.specs.Profile.{counted}
use Rattle.types_rules.specs.Types.{Base, Void, Integer, Tagged, CType, plain, Structure, Member, members_of, cells_of, order_of, same_integer, is_complete, ParameterKind, ByValue, ByArray}
use Rattle.types_rules.specs.Scopes.{Meaning, Automatic, Constant, Function, Typedef, Scope, meaning_of, function_number, is_input, is_output, next_slot}
use Rattle.types_rules.specs.Scopes as scope
use Rattle.types_rules.specs.Values.{Value, Number, Stored, Borrowed, Returned, Done, Assigned, Designator, Kind, IsVoid, IsAssignment, IsInteger, IsStructure, IsArray, IsFunction, kind_of, Found, number_stored, number_in, structure_stored, structure_in, any_structure_in, number_found, value_effect, discarded_in, lift2}
use Rattle.types_rules.specs.Constants.{type_of_constant}
use Rattle.types_rules.specs.Expressions.{convert_to, promote, common_type, value_of_name, literal, stored_element, element_of, index_value, Selected, selected, member_type, layouts_of, member_at, stored_member, member_of, typed_unary, cast_base, cast_value_to, cast_value, typed_binary, choice_of, arms_value, conditional_value, assign_effect, update_of, update_effect, effect_on, assignment_value, update_found, assignment_found, step_operator, step_found, operator_after, operator_before}
use Rattle.types_rules.specs.Calls.{array_fits, stored_array, array_argument, argument_of, argument_value, argument_judged, first_of, rest_of, no_more, parameters_of, output_of, returned, called, call_value}
use Rattle.types_rules.specs.Judgement.{judge, judge_arguments, judge_type}
use Rattle.laws_types.proofs.IntTypes.{same_integers}
use Rattle.laws_types.specs.Exact.{own_type, IsWritten, IsNeeded, IsPromoted, IsExactPlace, IsTested, IsOperand, IsExactStructure, AreExactArguments, IsExactArgument, IsExactEffect}

-- ---- what holds of a value where there is one

abbrev pub WhereSome : {A : Type 0} → (A → Type 0) → Option A → Type 0
WhereSome P None = Unit {0}
WhereSome P (Some a) = P a

pub map_where : {A B : Type 0} (P : A → Type 0) (Q : B → Type 0) (f : A → B) (o : Option A)
    → ((a : A) → P a → Q (f a)) → WhereSome P o → WhereSome Q (option_map f o)
map_where P Q f None g h = tt
map_where P Q f (Some a) g h = g a h

pub then_where : {A B : Type 0} (P : A → Type 0) (Q : B → Type 0) (f : A → Option B) (o : Option A)
    → ((a : A) → P a → WhereSome Q (f a)) → WhereSome P o → WhereSome Q (option_and_then f o)
then_where P Q f None g h = tt
then_where P Q f (Some a) g h = g a h

pub lift_where : {A B C : Type 0} (P : A → Type 0) (Q : B → Type 0) (R : C → Type 0) (f : A → B → C)
    (o : Option A) (p : Option B) → ((a : A) (b : B) → P a → Q b → R (f a b)) → WhereSome P o
    → WhereSome Q p → WhereSome R (lift2 f o p)
lift_where P Q R f (Some a) (Some b) g h k = g a b h k
lift_where P Q R f (Some a) None g h k = tt
lift_where P Q R f None p g h k = tt

-- ---- values

abbrev pub IsExactValue : Value → Type 0
IsExactValue (Number e) = IsTested e
IsExactValue (Stored place u) = IsExactPlace place
IsExactValue (Borrowed array u span) = Unit {0}
IsExactValue (Returned c k) = IsExactStructure (typed.Returned c)
IsExactValue (Done effect) = IsExactEffect effect
IsExactValue (Assigned effect) = IsExactEffect effect
IsExactValue Designator = Unit {0}

abbrev pub IsExactFound : Found → Type 0
IsExactFound x = WhereSome IsExactValue x.value

-- ---- conversions

written_own : (e : typed.Expression) → IsWritten e → own_type e ≡ type_of e
written_own (typed.Constant v a span) h = refl
written_own (typed.Read place a) h = refl
written_own (typed.Unary operator a e span) h = refl
written_own (typed.Convert a true e span) h = refl
written_own (typed.Convert a false e span) h = absurd h
written_own (typed.Not e span) h = refl
written_own (typed.Binary operator a e f span) h = refl
written_own (typed.Logic operator e f span) h = refl
written_own (typed.Choice e f g a span) h = refl
written_own (typed.Call k a) h = refl
written_own (typed.Input span) h = refl

written_needed : (e : typed.Expression) → IsWritten e → IsNeeded e
written_needed (typed.Constant v a span) h = tt
written_needed (typed.Read place a) h = tt
written_needed (typed.Unary operator a e span) h = tt
written_needed (typed.Convert a true e span) h = tt
written_needed (typed.Convert a false e span) h = absurd h
written_needed (typed.Not e span) h = tt
written_needed (typed.Binary operator a e f span) h = tt
written_needed (typed.Logic operator e f span) h = tt
written_needed (typed.Choice e f g a span) h = tt
written_needed (typed.Call k a) h = tt
written_needed (typed.Input span) h = tt

same_itself : (k : ℕ) → (k == k) ≡ true
same_itself k = grind arith

others_differ : (a b : IntType) → same_integer a b ≡ false → a ≢ b
others_differ a b q p =
    let e : same_integer a b ≡ true = ap (same_integer a) (sym p) ∙ same_itself (order_of a) in
    absurd (cc)

-- what is written, as an operand of this type
pub record IsConverted (a : IntType) (e x : typed.Expression) : Type 0 where
  pub own : own_type x ≡ type_of e
  pub type : type_of x ≡ a
  pub operand : IsOperand x

pub convert_exact : (a : IntType) (e : typed.Expression) → IsTested e → IsConverted a e (convert_to a e)
convert_exact a e h = by_test (same_integer (type_of e) a) refl
  where
    by_test : (b : Bool) → same_integer (type_of e) a ≡ b
        → IsConverted a e (if b then e else typed.Convert a false e (typed.span_of e))
    by_test true q = record {
      own = written_own e h.0;
      type = same_integers (type_of e) a q;
      operand = (written_needed e h.0, h.1);
    }
    by_test false q = record {
      own = refl;
      type = refl;
      operand = ((others_differ (type_of e) a q, h.0), (tt, h.1));
    }

pub record IsPromotedTo (e x : typed.Expression) : Type 0 where
  pub is : IsPromoted x
  pub operand : IsOperand x

pub promote_exact : (e : typed.Expression) → IsTested e → IsPromotedTo e (promote e)
promote_exact e h =
    let x = convert_exact (promoted (type_of e)) e h in
    record { is = x.type ∙ ap promoted (sym x.own); operand = x.operand }

-- two operands in their common type
pub both_exact : (e f : typed.Expression) → IsTested e → IsTested f
    → (common_type e f
    ≡ common_of (own_type (convert_to (common_type e f) e)) (own_type (convert_to (common_type e f) f)))
    × IsOperand (convert_to (common_type e f) e) × IsOperand (convert_to (common_type e f) f)
both_exact e f h k =
    let x = convert_exact (common_type e f) e h in
    let y = convert_exact (common_type e f) f k in (
      ap (λ a. common_of a (type_of f)) (sym x.own)
          ∙ ap (common_of (own_type (convert_to (common_type e f) e))) (sym y.own),
      x.operand,
      y.operand,
    )

stored_number : (place : Place) (b : Base) (ls : List ℕ) → IsExactPlace place
    → WhereSome IsTested (number_stored place b ls)
stored_number place (Integer a) [] h = (tt, h)
stored_number place (Integer a) (n ∷ ns) h = tt
stored_number place Void ls h = tt
stored_number place (Tagged k) ls h = tt

pub number_exact : (v : Value) → IsExactValue v → WhereSome IsTested (number_in v)
number_exact (Number e) h = h
number_exact (Stored place u) h = stored_number place u.base u.lengths h
number_exact (Borrowed array u span) h = tt
number_exact (Returned c k) h = tt
number_exact (Done effect) h = tt
number_exact (Assigned effect) h = tt
number_exact Designator h = tt

pub number_found_exact : (x : Found) → IsExactFound x → WhereSome IsTested (number_found x)
number_found_exact x h = then_where IsExactValue IsTested number_in x.value number_exact h

stored_structure : (k : ℕ) (place : Place) (b : Base) (ls : List ℕ) → IsExactPlace place
    → WhereSome IsExactStructure (structure_stored k place b ls)
stored_structure k place (Tagged j) [] h = by_test (j == k)
  where
    by_test : (b : Bool) → WhereSome IsExactStructure (if b then Some (typed.Stored place) else None)
    by_test true = h
    by_test false = tt
stored_structure k place (Tagged j) (n ∷ ns) h = tt
stored_structure k place Void ls h = tt
stored_structure k place (Integer a) ls h = tt

pub structure_exact : (k : ℕ) (v : Value) → IsExactValue v → WhereSome IsExactStructure (structure_in k v)
structure_exact k (Stored place u) h = stored_structure k place u.base u.lengths h
structure_exact k (Returned c j) h = by_test (j == k)
  where
    by_test : (b : Bool) → WhereSome IsExactStructure (if b then Some (typed.Returned c) else None)
    by_test true = h
    by_test false = tt
structure_exact k (Number e) h = tt
structure_exact k (Borrowed array u span) h = tt
structure_exact k (Done effect) h = tt
structure_exact k (Assigned effect) h = tt
structure_exact k Designator h = tt

any_structure_exact : (k : Kind) (v : Value) → IsExactValue v
    → WhereSome IsExactStructure (any_structure_in k v)
any_structure_exact (IsStructure k) v h = structure_exact k v h
any_structure_exact IsVoid v h = tt
any_structure_exact IsAssignment v h = tt
any_structure_exact IsInteger v h = tt
any_structure_exact (IsArray u) v h = tt
any_structure_exact IsFunction v h = tt

effect_of_value : (e : Option typed.Expression) (w : Option StructureValue) → WhereSome IsTested e
    → WhereSome IsExactStructure w → WhereSome IsExactEffect (value_effect e w)
effect_of_value (Some e) w h k = h
effect_of_value None (Some w) h k = k
effect_of_value None None h k = tt

value_effect_exact : (v : Value) → IsExactValue v
    → WhereSome IsExactEffect (value_effect (number_in v) (any_structure_in (kind_of v) v))
value_effect_exact v h =
    effect_of_value (number_in v) (any_structure_in (kind_of v) v) (number_exact v h)
    (any_structure_exact (kind_of v) v h)

pub discarded_exact : (v : Value) → IsExactValue v → WhereSome IsExactEffect (discarded_in v)
discarded_exact (Done effect) h = h
discarded_exact (Number e) h = value_effect_exact (Number e) h
discarded_exact (Stored place u) h = value_effect_exact (Stored place u) h
discarded_exact (Borrowed array u span) h = value_effect_exact (Borrowed array u span) h
discarded_exact (Returned c k) h = value_effect_exact (Returned c k) h
discarded_exact (Assigned effect) h = value_effect_exact (Assigned effect) h
discarded_exact Designator h = value_effect_exact Designator h

-- ---- names, elements and members

name_exact : (span : Span) (m : Option Meaning)
    → WhereSome IsExactValue (option_and_then (value_of_name span) m)
name_exact span None = tt
name_exact span (Some (Automatic slot None)) = tt
name_exact span (Some (Automatic slot (Some u))) = tt
name_exact span (Some (scope.Stored slot None)) = tt
name_exact span (Some (scope.Stored slot (Some u))) = tt
name_exact span (Some (scope.Borrowed array u)) = tt
name_exact span (Some (Constant None)) = tt
name_exact span (Some (Constant (Some v))) = (tt, tt)
name_exact span (Some (Function f b)) = tt
name_exact span (Some (Typedef u)) = tt

literal_exact : (v : ℤ) (a : Option IntType) (span : Span) (s : Scope) → IsExactFound (literal v a span s)
literal_exact v None span s = tt
literal_exact v (Some a) span s = (tt, tt)

stored_element_exact : (all : List Structure) (place : Place) (u : CType) (ls : List ℕ) (e : typed.Expression)
    (span : Span) → IsExactPlace place → IsTested e → WhereSome IsExactValue (stored_element all place u ls e span)
stored_element_exact all place u [] e span h k = tt
stored_element_exact all place u (n ∷ ns) e span h k = (h, k)

element_exact : (all : List Structure) (span : Span) (v : Value) (e : typed.Expression) → IsExactValue v
    → IsTested e → WhereSome IsExactValue (element_of all span v e)
element_exact all span (Stored place u) e h k = stored_element_exact all place u u.lengths e span h k
element_exact all span (Borrowed array u name) e h k = k
element_exact all span (Number f) e h k = tt
element_exact all span (Returned c n) e h k = tt
element_exact all span (Done effect) e h k = tt
element_exact all span (Assigned effect) e h k = tt
element_exact all span Designator e h k = tt

index_exact : (all : List Structure) (span : Span) (v : Option Value) (e : Option typed.Expression)
    → WhereSome IsExactValue v → WhereSome IsTested e → WhereSome IsExactValue (index_value all span v e)
index_exact all span None e h k = tt
index_exact all span (Some v) e h k =
    then_where IsTested IsExactValue (element_of all span v) e (λ f p. element_exact all span v f h p) k

stored_member_exact : (all : List Structure) (name : Name) (span : Span) (place : Place) (u : CType)
    (ls : List ℕ) (b : Base) → IsExactPlace place
    → WhereSome IsExactValue (stored_member all name span place u ls b)
stored_member_exact all name span place u [] (Tagged k) h =
    let members = members_of (slice_get all k) in
    by_member members (selected 0 name.text members)
  where
    by_type : (members : List Member) (k : ℕ) (type : Option CType)
        → WhereSome IsExactValue (option_map
        (λ v. Stored (typed.Member place (counted k) (counted (start (layouts_of members) k)) span) (member_type u.is_const v)) type)
    by_type members k None = tt
    by_type members k (Some v) = h

    by_member : (members : List Member) (o : Option Selected)
        → WhereSome IsExactValue (option_and_then (member_at members place u.is_const span) o)
    by_member members None = tt
    by_member members (Some one) = by_type members one.number one.member.member_type
stored_member_exact all name span place u [] Void h = tt
stored_member_exact all name span place u [] (Integer a) h = tt
stored_member_exact all name span place u (n ∷ ns) b h = tt

member_exact : (all : List Structure) (name : Name) (span : Span) (v : Value) → IsExactValue v
    → WhereSome IsExactValue (member_of all name span v)
member_exact all name span (Stored place u) h =
    stored_member_exact all name span place u u.lengths u.base h
member_exact all name span (Number e) h = tt
member_exact all name span (Borrowed array u at) h = tt
member_exact all name span (Returned c k) h = tt
member_exact all name span (Done effect) h = tt
member_exact all name span (Assigned effect) h = tt
member_exact all name span Designator h = tt

-- ---- operators and casts

unary_exact : (operator : UnaryOperator) (span : Span) (e : typed.Expression) → IsTested e
    → WhereSome IsTested (typed_unary operator span e)
unary_exact unary.Plus span e h = let x = promote_exact e h in (tt, (x.is, x.operand))
unary_exact unary.Minus span e h = let x = promote_exact e h in (tt, (x.is, x.operand))
unary_exact unary.Complement span e h = let x = promote_exact e h in (tt, (x.is, x.operand))
unary_exact unary.Not span e h = (tt, h)
unary_exact unary.Dereference span e h = tt
unary_exact unary.Address span e h = tt

cast_exact_to : (span : Span) (v : Value) (b : Option Base) → IsExactValue v
    → WhereSome IsExactValue (cast_value_to span v b)
cast_exact_to span v (Some Void) h =
    map_where IsExactEffect IsExactValue (λ e. Done (typed.Discard e span)) (discarded_in v) (λ e p. p) (discarded_exact v h)
cast_exact_to span v (Some (Integer a)) h =
    map_where IsTested IsExactValue (λ e. Number (typed.Convert a true e span)) (number_in v) (λ e p. (tt, p)) (number_exact v h)
cast_exact_to span v (Some (Tagged k)) h = tt
cast_exact_to span v None h = tt

cast_exact : (span : Span) (type : Option CType) (v : Option Value) → WhereSome IsExactValue v
    → WhereSome IsExactValue (cast_value span type v)
cast_exact span None v h = tt
cast_exact span (Some u) v h =
    then_where IsExactValue IsExactValue (λ w. cast_value_to span w (cast_base u u.lengths)) v (λ w p. cast_exact_to span w (cast_base u u.lengths) p) h

shifted_exact : (e f : typed.Expression) → IsTested e → IsTested f
    → (IsPromoted (promote e) × IsPromoted (promote f)) × IsOperand (promote e) × IsOperand (promote f)
shifted_exact e f h k =
    let x = promote_exact e h in
    let y = promote_exact f k in
    ((x.is, y.is), x.operand, y.operand)

binary_exact : (operator : BinaryOperator) (span : Span) (e f : typed.Expression) → IsTested e → IsTested f
    → IsTested (typed_binary operator span e f)
binary_exact binary.Multiply span e f h k = (tt, both_exact e f h k)
binary_exact binary.Divide span e f h k = (tt, both_exact e f h k)
binary_exact binary.Remainder span e f h k = (tt, both_exact e f h k)
binary_exact binary.Add span e f h k = (tt, both_exact e f h k)
binary_exact binary.Subtract span e f h k = (tt, both_exact e f h k)
binary_exact binary.ShiftLeft span e f h k = (tt, shifted_exact e f h k)
binary_exact binary.ShiftRight span e f h k = (tt, shifted_exact e f h k)
binary_exact binary.Less span e f h k = (tt, both_exact e f h k)
binary_exact binary.Greater span e f h k = (tt, both_exact e f h k)
binary_exact binary.LessOrEqual span e f h k = (tt, both_exact e f h k)
binary_exact binary.GreaterOrEqual span e f h k = (tt, both_exact e f h k)
binary_exact binary.Equal span e f h k = (tt, both_exact e f h k)
binary_exact binary.Unequal span e f h k = (tt, both_exact e f h k)
binary_exact binary.BitAnd span e f h k = (tt, both_exact e f h k)
binary_exact binary.BitXor span e f h k = (tt, both_exact e f h k)
binary_exact binary.BitOr span e f h k = (tt, both_exact e f h k)
binary_exact binary.And span e f h k = (tt, (h, k))
binary_exact binary.Or span e f h k = (tt, (h, k))

-- ---- `?:`

number_arms : (span : Span) (e : typed.Expression) (v w : Value) → IsTested e → IsExactValue v → IsExactValue w
    → WhereSome IsExactValue (lift2 (choice_of span e) (number_in v) (number_in w))
number_arms span e v w h p q =
    lift_where IsTested IsTested IsExactValue (choice_of span e) (number_in v) (number_in w)
    (λ f g k l. let both = both_exact f g k l in (tt, (h, both.0, both.1, both.2)))
    (number_exact v p) (number_exact w q)

arms_exact : (span : Span) (e : typed.Expression) (v w : Value) → IsTested e → IsExactValue v → IsExactValue w
    → WhereSome IsExactValue (arms_value span e v w)
arms_exact span e (Done a) (Done b) h p q = (h, p, q)
arms_exact span e (Done a) (Number f) h p q = tt
arms_exact span e (Done a) (Stored place u) h p q = tt
arms_exact span e (Done a) (Borrowed array u at) h p q = tt
arms_exact span e (Done a) (Returned c k) h p q = tt
arms_exact span e (Done a) (Assigned effect) h p q = tt
arms_exact span e (Done a) Designator h p q = tt
arms_exact span e (Number f) w h p q = number_arms span e (Number f) w h p q
arms_exact span e (Stored place u) w h p q = number_arms span e (Stored place u) w h p q
arms_exact span e (Borrowed array u at) w h p q = tt
arms_exact span e (Returned c k) w h p q = tt
arms_exact span e (Assigned effect) w h p q = tt
arms_exact span e Designator w h p q = tt

conditional_exact : (span : Span) (e : Option typed.Expression) (v w : Option Value) → WhereSome IsTested e
    → WhereSome IsExactValue v → WhereSome IsExactValue w → WhereSome IsExactValue (conditional_value span e v w)
conditional_exact span None v w h p q = tt
conditional_exact span (Some e) None w h p q = tt
conditional_exact span (Some e) (Some v) w h p q =
    then_where IsExactValue IsExactValue (arms_value span e v) w (λ one k. arms_exact span e v one h p k) q

-- ---- assignments and steps

effect_on_exact : (make : Value → Place → Base → List ℕ → Option Effect) (v w : Value)
    → ((one : Value) (place : Place) (b : Base) (ls : List ℕ) → IsExactValue one → IsExactPlace place
    → WhereSome IsExactEffect (make one place b ls))
    → IsExactValue v → IsExactValue w → WhereSome IsExactValue (effect_on make v w)
effect_on_exact make (Stored place u) w g h k =
    map_where IsExactEffect IsExactValue Assigned (make w place u.base u.lengths) (λ e p. p)
    (g w place u.base u.lengths k h)
effect_on_exact make (Number e) w g h k = tt
effect_on_exact make (Borrowed array u span) w g h k = tt
effect_on_exact make (Returned c n) w g h k = tt
effect_on_exact make (Done effect) w g h k = tt
effect_on_exact make (Assigned effect) w g h k = tt
effect_on_exact make Designator w g h k = tt

assignment_exact : (make : Value → Place → Base → List ℕ → Option Effect) (v w : Option Value)
    → ((one : Value) (place : Place) (b : Base) (ls : List ℕ) → IsExactValue one → IsExactPlace place
    → WhereSome IsExactEffect (make one place b ls))
    → WhereSome IsExactValue v → WhereSome IsExactValue w → WhereSome IsExactValue (assignment_value make v w)
assignment_exact make None w g h k = tt
assignment_exact make (Some v) w g h k =
    then_where IsExactValue IsExactValue (effect_on make v) w (λ one p. effect_on_exact make v one g h p) k

assign_exact : (all : List Structure) (span : Span) (v : Value) (place : Place) (b : Base) (ls : List ℕ)
    → IsExactValue v → IsExactPlace place → WhereSome IsExactEffect (assign_effect all span v place b ls)
assign_exact all span v place (Integer a) [] h k =
    map_where IsTested IsExactEffect (λ e. typed.Assign place a (convert_to a e) span) (number_in v)
    (λ e p. let x = convert_exact a e p in (k, x.type, x.operand)) (number_exact v h)
assign_exact all span v place (Tagged n) [] h k =
    map_where IsExactStructure IsExactEffect
    (λ w. typed.Copy place w (cells_of all (plain (Tagged n))) span) (structure_in n v) (λ w p. (k, p)) (structure_exact n v h)
assign_exact all span v place Void ls h k = tt
assign_exact all span v place (Integer a) (n ∷ ns) h k = tt
assign_exact all span v place (Tagged n) (m ∷ ms) h k = tt

sides_exact : (a : IntType) (e : typed.Expression) → IsTested e
    → (common_of a (type_of e) ≡ common_of a (own_type (convert_to (common_of a (type_of e)) e)))
    × IsOperand (convert_to (common_of a (type_of e)) e)
sides_exact a e h =
    let x = convert_exact (common_of a (type_of e)) e h in (ap (common_of a) (sym x.own), x.operand)

moved_exact : (a : IntType) (e : typed.Expression) → IsTested e
    → ((promoted a ≡ promoted a) × IsPromoted (promote e)) × IsOperand (promote e)
moved_exact a e h = let x = promote_exact e h in ((refl, x.is), x.operand)

update_of_exact : (operator : AssignmentOperator) (place : Place) (a : IntType) (e : typed.Expression)
    (span : Span) → IsExactPlace place → IsTested e → WhereSome IsExactEffect (update_of operator place a e span)
update_of_exact assign.Assign place a e span h k = tt
update_of_exact assign.Multiply place a e span h k = let x = sides_exact a e k in (h, x.0, x.1)
update_of_exact assign.Divide place a e span h k = let x = sides_exact a e k in (h, x.0, x.1)
update_of_exact assign.Remainder place a e span h k = let x = sides_exact a e k in (h, x.0, x.1)
update_of_exact assign.Add place a e span h k = let x = sides_exact a e k in (h, x.0, x.1)
update_of_exact assign.Subtract place a e span h k = let x = sides_exact a e k in (h, x.0, x.1)
update_of_exact assign.ShiftLeft place a e span h k = let x = moved_exact a e k in (h, x.0, x.1)
update_of_exact assign.ShiftRight place a e span h k = let x = moved_exact a e k in (h, x.0, x.1)
update_of_exact assign.BitAnd place a e span h k = let x = sides_exact a e k in (h, x.0, x.1)
update_of_exact assign.BitXor place a e span h k = let x = sides_exact a e k in (h, x.0, x.1)
update_of_exact assign.BitOr place a e span h k = let x = sides_exact a e k in (h, x.0, x.1)

update_exact : (operator : AssignmentOperator) (span : Span) (v : Value) (place : Place) (b : Base)
    (ls : List ℕ) → IsExactValue v → IsExactPlace place
    → WhereSome IsExactEffect (update_effect operator span v place b ls)
update_exact operator span v place (Integer a) [] h k =
    then_where IsTested IsExactEffect (λ e. update_of operator place a e span) (number_in v) (λ e p. update_of_exact operator place a e span k p)
    (number_exact v h)
update_exact operator span v place (Integer a) (n ∷ ns) h k = tt
update_exact operator span v place Void ls h k = tt
update_exact operator span v place (Tagged n) ls h k = tt

updated_exact : (operator : AssignmentOperator) (span : Span) (x y : Found) → IsExactFound x
    → IsExactFound y → IsExactFound (update_found operator span x y)
updated_exact operator span x y h k =
    assignment_exact (update_effect operator span) x.value y.value (update_exact operator span) h k

assigned_exact : (operator : AssignmentOperator) (span : Span) (x y : Found) → IsExactFound x
    → IsExactFound y → IsExactFound (assignment_found operator span x y)
assigned_exact assign.Assign span x y h k =
    assignment_exact (assign_effect y.scope.structures span) x.value y.value
    (assign_exact y.scope.structures span) h k
assigned_exact assign.Multiply span x y h k = updated_exact assign.Multiply span x y h k
assigned_exact assign.Divide span x y h k = updated_exact assign.Divide span x y h k
assigned_exact assign.Remainder span x y h k = updated_exact assign.Remainder span x y h k
assigned_exact assign.Add span x y h k = updated_exact assign.Add span x y h k
assigned_exact assign.Subtract span x y h k = updated_exact assign.Subtract span x y h k
assigned_exact assign.ShiftLeft span x y h k = updated_exact assign.ShiftLeft span x y h k
assigned_exact assign.ShiftRight span x y h k = updated_exact assign.ShiftRight span x y h k
assigned_exact assign.BitAnd span x y h k = updated_exact assign.BitAnd span x y h k
assigned_exact assign.BitXor span x y h k = updated_exact assign.BitXor span x y h k
assigned_exact assign.BitOr span x y h k = updated_exact assign.BitOr span x y h k

step_exact : (operator : StepOperator) (at span : Span) (x : Found) → IsExactFound x
    → IsExactFound (step_found operator at span x)
step_exact operator at span x h =
    let one = literal (pos 1) (Some the.Int) at x.scope in
    updated_exact (step_operator operator) span x one h (literal_exact (pos 1) (Some the.Int) at x.scope)

-- ---- arguments and calls

stored_array_exact : (u : CType) (place : Place) (v : CType) (ls : List ℕ) → IsExactPlace place
    → WhereSome IsExactArgument (stored_array u place v ls)
stored_array_exact u place v [] h = tt
stored_array_exact u place v (n ∷ ns) h = by_test (array_fits u (record v { lengths = ns }))
  where
    by_test : (b : Bool) → WhereSome IsExactArgument (if b then Some (typed.ArrayArgument place n) else None)
    by_test true = h
    by_test false = tt

array_exact : (u : CType) (v : Value) → IsExactValue v → WhereSome IsExactArgument (array_argument u v)
array_exact u (Stored place v) h = stored_array_exact u place v v.lengths h
array_exact u (Borrowed array v span) h = by_test (array_fits u v)
  where
    by_test : (b : Bool) → WhereSome IsExactArgument (if b then Some (typed.AgainArgument array span) else None)
    by_test true = tt
    by_test false = tt
array_exact u (Number e) h = tt
array_exact u (Returned c k) h = tt
array_exact u (Done effect) h = tt
array_exact u (Assigned effect) h = tt
array_exact u Designator h = tt

argument_exact : (s : Scope) (p : ParameterKind) (v : Value) → IsExactValue v
    → WhereSome IsExactArgument (argument_of s p v)
argument_exact s (ByValue (Integer a)) v h =
    map_where IsTested IsExactArgument (λ e. typed.NumberArgument (convert_to a e)) (number_in v)
    (λ e p. (convert_exact a e p).operand) (number_exact v h)
argument_exact s (ByValue (Tagged k)) v h =
    map_where IsExactStructure IsExactArgument (λ w. typed.StructureArgument w (next_slot s)) (structure_in k v) (λ w p. p) (structure_exact k v h)
argument_exact s (ByValue Void) v h = tt
argument_exact s (ByArray u) v h = array_exact u v h

given_exact : (s : Scope) (p : Option ParameterKind) (v : Option Value) → WhereSome IsExactValue v
    → WhereSome IsExactArgument (argument_value s p v)
given_exact s None v h = tt
given_exact s (Some p) v h =
    then_where IsExactValue IsExactArgument (argument_of s p) v (argument_exact s p) h

none_more : (ps : List ParameterKind) → WhereSome AreExactArguments (no_more ps)
none_more [] = tt
none_more (p ∷ ps) = tt

output_exact : (span : Span) (given : Arguments) → AreExactArguments given
    → WhereSome IsExactValue (output_of span given)
output_exact span typed.no_arguments h = tt
output_exact span (typed.arguments (typed.NumberArgument e) typed.no_arguments) h = h.0
output_exact span (typed.arguments (typed.NumberArgument e) (typed.arguments a rest)) h = tt
output_exact span (typed.arguments (typed.StructureArgument value copy) rest) h = tt
output_exact span (typed.arguments (typed.ArrayArgument place n) rest) h = tt
output_exact span (typed.arguments (typed.AgainArgument array at) rest) h = tt

returned_exact : (s : Scope) (f : ℕ) (given : Arguments) (span : Span) (b : Base) → AreExactArguments given
    → WhereSome IsExactValue (returned s f given span b)
returned_exact s f given span Void h = h
returned_exact s f given span (Integer a) h = (tt, h)
returned_exact s f given span (Tagged k) h = by_test (is_complete s.structures (Tagged k))
  where
    by_test : (b : Bool)
        → WhereSome IsExactValue (if b then Some (Returned (typed.call f given (Some (next_slot s)) span) k) else None)
    by_test true = h
    by_test false = tt

called_exact : (name : Name) (span : Span) (s : Scope) (b : Base) (given : Arguments)
    → AreExactArguments given → WhereSome IsExactValue (called name span s b given)
called_exact name span s b given h = by_tests (is_input name) (is_output name) (function_number name s)
  where
    by_number : (o : Option ℕ) → WhereSome IsExactValue (option_and_then (λ f. returned s f given span b) o)
    by_number None = tt
    by_number (Some f) = returned_exact s f given span b h

    by_tests : (i o : Bool) (n : Option ℕ)
        → WhereSome IsExactValue (if i then Some (Number (typed.Input span))
        else if o then output_of span given
        else option_and_then (λ f. returned s f given span b) n)
    by_tests true o n = (tt, tt)
    by_tests false true n = output_exact span given h
    by_tests false false n = by_number n

call_exact : (name : Name) (span : Span) (m : Option Meaning) (s : Scope) (given : Option Arguments)
    → WhereSome AreExactArguments given → WhereSome IsExactValue (call_value name span m s given)
call_exact name span (Some (Function (Some f) b)) s given h =
    then_where AreExactArguments IsExactValue (called name span s f.result) given
    (called_exact name span s f.result) h
call_exact name span None s given h = tt
call_exact name span (Some (Function None b)) s given h = tt
call_exact name span (Some (Automatic slot u)) s given h = tt
call_exact name span (Some (scope.Stored slot u)) s given h = tt
call_exact name span (Some (scope.Borrowed array u)) s given h = tt
call_exact name span (Some (Constant v)) s given h = tt
call_exact name span (Some (Typedef u)) s given h = tt

-- ---- expressions

mutual
  pub found_exact : (e : Expression) (s : Scope) → IsExactFound (judge e s)
  found_exact (tree.Named name) s = name_exact name.span (meaning_of name s)
  found_exact (tree.Constant v decimal unsigned longs span) s =
      literal_exact (pos v) (type_of_constant v decimal unsigned longs) span s
  found_exact (tree.Character v span) s =
      literal_exact v (if in_range the.Int v then Some the.Int else None) span s
  found_exact (tree.Parenthesized inner span) s = found_exact inner s
  found_exact (tree.Call name given span) s =
      let m = meaning_of name s in
      let x = judge_arguments given (parameters_of m) s in
      call_exact name span m x.scope x.value (arguments_exact given (parameters_of m) s)
  found_exact (tree.Index a b span) s =
      let x = judge a s in
      let y = judge b x.scope in
      index_exact y.scope.structures span x.value (number_found y) (found_exact a s)
      (number_found_exact y (found_exact b x.scope))
  found_exact (tree.Member a name span) s =
      let x = judge a s in
      then_where IsExactValue IsExactValue (member_of x.scope.structures name span) x.value
      (member_exact x.scope.structures name span) (found_exact a s)
  found_exact (tree.PostfixStep operator a span) s =
      step_exact operator (operator_after span) span (judge a s) (found_exact a s)
  found_exact (tree.PrefixStep operator a span) s =
      step_exact operator (operator_before span) span (judge a s) (found_exact a s)
  found_exact (tree.Unary operator a span) s =
      let x = judge a s in
      map_where IsTested IsExactValue Number (option_and_then (typed_unary operator span) (number_found x)) (λ e p. p)
      (then_where IsTested IsTested (typed_unary operator span) (number_found x) (unary_exact operator span)
      (number_found_exact x (found_exact a s)))
  found_exact (tree.Cast type a span) s =
      let x = judge_type type s in
      cast_exact span x.value (judge a x.scope).value (found_exact a x.scope)
  found_exact (tree.Binary operator a b span) s =
      let x = judge a s in
      let y = judge b x.scope in
      map_where IsTested IsExactValue Number (lift2 (typed_binary operator span) (number_found x) (number_found y))
      (λ e p. p)
      (lift_where IsTested IsTested IsTested (typed_binary operator span) (number_found x) (number_found y)
      (binary_exact operator span) (number_found_exact x (found_exact a s))
      (number_found_exact y (found_exact b x.scope)))
  found_exact (tree.Conditional a b c span) s =
      let x = judge a s in
      let y = judge b x.scope in
      conditional_exact span (number_found x) y.value (judge c y.scope).value
      (number_found_exact x (found_exact a s)) (found_exact b x.scope) (found_exact c y.scope)
  found_exact (tree.Assignment operator a b span) s =
      let x = judge a s in
      assigned_exact operator span x (judge b x.scope) (found_exact a s) (found_exact b x.scope)
  found_exact (tree.Comma operands span) s = tt

  pub arguments_exact : (es : Expressions) (ps : List ParameterKind) (s : Scope)
      → WhereSome AreExactArguments (judge_arguments es ps s).value
  arguments_exact tree.no_expressions ps s = none_more ps
  arguments_exact (tree.expressions e rest) ps s =
      let x = judge e s in
      let one = argument_judged (span_of e).start (first_of ps) x in
      lift_where IsExactArgument AreExactArguments AreExactArguments typed.arguments one.value
      (judge_arguments rest (rest_of ps) one.scope).value (λ a more p q. (p, q))
      (given_exact x.scope (first_of ps) x.value (found_exact e s))
      (arguments_exact rest (rest_of ps) one.scope)
