-- An expression that has a type has no fault inside.
use Rattle.std.proofs.Common.{◌≡◌, ◌∙◌, refl, ap, sym, subst, ℕ, ℤ, pos, ◌==◌, ◌+◌, suc, Bool, true, false, not, ◌||◌, ◌&&◌, if◌then◌else◌, List, [], ◌∷◌, ◌++◌, length, slice_get, Option, Some, None, option_map, option_and_then, is_none, is_some, inl, inr, arith}
use Rattle.mc_span.specs.declared.span.Span.{Span}
use Rattle.mc_tree.specs.declared.expressions.unary_operator.UnaryOperator.{UnaryOperator}
use Rattle.mc_tree.specs.declared.expressions.unary_operator.UnaryOperator.TheVariants as unary
use Rattle.mc_tree.specs.declared.expressions.step_operator.StepOperator.{StepOperator}
use Rattle.mc_tree.specs.declared.expressions.binary_operator.BinaryOperator.{BinaryOperator}
use Rattle.mc_tree.specs.declared.expressions.assignment_operator.AssignmentOperator.{AssignmentOperator}
use Rattle.mc_tree.specs.declared.expressions.assignment_operator.AssignmentOperator.TheVariants as assign
use Rattle.mc_tree.specs.Tree.{Name, Expression, Expressions, Specifier, Specifiers, span_of}
use Rattle.mc_tree.specs.Tree as tree
use Rattle.mc_tree.specs.declared.declarations.specifier_word.SpecifierWord.TheVariants as word
use Rattle.mc_value.specs.declared.int_type.IntType.{IntType}
use Rattle.mc_value.specs.declared.int_type.IntType.TheVariants as the
use Rattle.mc_value.specs.IntTypes.{in_range}
use Rattle.mc_typed.specs.Layout as layout
use Rattle.mc_typed.specs.Tree.{Place, Argument, Arguments, Effect}
use Rattle.mc_typed.specs.Tree as typed
use Rattle.types_faults.specs.declared.fault.Fault.{Fault}
use Rattle.types_faults.specs.declared.fault.FaultKind.TheVariants.{Undeclared, Mismatch, NoBody}
use Rattle.types_faults.specs.Faults.{fault_if, unless_faulty}
use Rattle.types_rules.specs.Profile.{counted}
use Rattle.types_rules.specs.Types.{Base, Void, Integer, Tagged, CType, plain, Structure, Member, members_of, is_complete, ParameterKind, ByValue, ByArray, Signature, base_of_words, type_of_words_or, any_is_no_word, qualified, has, int}
use Rattle.types_rules.specs.Scopes.{Meaning, Automatic, Constant, Function, Typedef, Scope, meaning_of, function_number, is_input, is_output, next_slot, TagMeaning, StructureTag, EnumerationTag, tag_of}
use Rattle.types_rules.specs.Scopes as scope
use Rattle.types_rules.specs.Values.{Judged, Value, Number, Stored, Borrowed, Returned, Done, Assigned, Designator, Kind, IsVoid, IsAssignment, IsInteger, IsStructure, IsArray, IsFunction, kind_of_base, kind_of_object, kind_of, Found, kind_found, is_integer, is_array, is_discarded, fails, number_stored, number_in, structure_stored, structure_in, any_structure_in, number_found, value_effect, discarded_in, lift2, bare_start, discarded_faults, integer_faults}
use Rattle.types_rules.specs.Constants.{type_of_constant}
use Rattle.types_rules.specs.Expressions.{name_faults, is_object, value_of_name, literal, stored_element, element_of, index_value, index_faults, Selected, selected, member_faults, layouts_of, member_type, member_at, stored_member, member_of, typed_unary, unary_faults, cast_base, cast_faults_to, cast_faults, cast_value_to, cast_value, typed_binary, operands_faults, are_arms, arms_fail, conditional_faults, choice_of, arms_value, conditional_value, assignment_value, effect_on, convert_to, assign_effect, update_effect, assignment_found, step_operator, step_found, operator_after, operator_before}
use Rattle.types_rules.specs.Calls.{array_fits, argument_fits, argument_faults, stored_array, array_argument, argument_of, argument_value, argument_judged, parameters_of, argument_count, gives, callee_faults, output_of, returned, called, call_value}
use Rattle.types_rules.specs.Judgement.{judge, judge_arguments, judge_type, judge_specifier, judge_specifiers, judge_members, judge_enumerators, one_of}
use Rattle.types_rules.specs.Declarators.{used_type, typedef_type, structure_type, used_structure_tag, used_enumeration_tag, opened, enumeration_scope, enumeration_faults}
use Rattle.laws_types.proofs.ExactValues.{WhereSome, map_where, then_where, lift_where}
use Rattle.laws_types.specs.Silence.{AreWords, HasOneMore, IsOneType, IsRead, AreRead, IsFree, ValuesHaveNoFault}

-- ---- a value, the faults of its node, and whether that is a place

abbrev IsFine : List Fault → Bool → Value → Type 0
IsFine fs place (Number e) = fs ≡ []
IsFine fs place (Stored p u) = (fs ≡ []) × (place ≡ true)
IsFine fs place (Borrowed array u span) = (fs ≡ []) × (place ≡ true)
IsFine fs place (Returned c k) = fs ≡ []
IsFine fs place (Done effect) = fs ≡ []
IsFine fs place (Assigned effect) = Unit {0}
IsFine fs place Designator = fs ≡ []

abbrev IsFineFound : Found → Type 0
IsFineFound x = WhereSome (IsFine x.faults x.place) x.value

-- no faults, and this test does not hold
abbrev Both : List Fault → Bool → Type 0
Both fs b = (fs ≡ []) × (b ≡ false)

stored_number : (fs : List Fault) (u : CType) (b : Base) (ls : List ℕ) (p : Place) → u.base ≡ b → fs ≡ [] → WhereSome (λ e. Both fs (fails is_integer (Some (kind_of_object u ls)))) (number_stored p b ls)
stored_number fs u (Integer a) [] p q h = (h, ap (λ c. not (is_integer (kind_of_base c))) q)
stored_number fs u (Integer a) (n ∷ ns) p q h = tt
stored_number fs u Void ls p q h = tt
stored_number fs u (Tagged k) ls p q h = tt

a_number : (fs : List Fault) (place : Bool) (v : Value) → IsFine fs place v → WhereSome (λ e. Both fs (fails is_integer (Some (kind_of v)))) (number_in v)
a_number fs place (Number e) h = (h, refl)
a_number fs place (Stored p u) h = stored_number fs u u.base u.lengths p refl h.0
a_number fs place (Borrowed array u span) h = tt
a_number fs place (Returned c k) h = tt
a_number fs place (Done effect) h = tt
a_number fs place (Assigned effect) h = tt
a_number fs place Designator h = tt

numbers : (x : Found) → IsFineFound x → WhereSome (λ e. Both x.faults (fails is_integer (kind_found x))) (number_found x)
numbers x h = by_value x.value h
  where
    by_value : (v : Option Value) → WhereSome (IsFine x.faults x.place) v → WhereSome (λ e. Both x.faults (fails is_integer (option_map kind_of v))) (option_and_then number_in v)
    by_value None h = tt
    by_value (Some v) h = a_number x.faults x.place v h

-- ---- names, constants

named_fine : (name : Name) (m : Option Meaning) → WhereSome (IsFine (name_faults m name.span.start) (is_object m)) (option_and_then (value_of_name name.span) m)
named_fine name None = tt
named_fine name (Some (Automatic slot None)) = tt
named_fine name (Some (Automatic slot (Some u))) = (refl, refl)
named_fine name (Some (scope.Stored slot None)) = tt
named_fine name (Some (scope.Stored slot (Some u))) = (refl, refl)
named_fine name (Some (scope.Borrowed array u)) = (refl, refl)
named_fine name (Some (Constant None)) = tt
named_fine name (Some (Constant (Some v))) = refl
named_fine name (Some (Function f b)) = refl
named_fine name (Some (Typedef u)) = tt

literal_fine : (v : ℤ) (a : Option IntType) (span : Span) (s : Scope) → IsFineFound (literal v a span s)
literal_fine v None span s = tt
literal_fine v (Some a) span s = refl

-- ---- elements and members

element_fine : (all : List Structure) (span : Span) (fs gs : List Fault) (place : Bool) (v : Value) (t : Bool) (e : typed.Expression) → IsFine fs place v → Both gs t → WhereSome (IsFine (fs ++ (gs ++ fault_if (not place || fails is_array (Some (kind_of v)) || t) Mismatch span.start)) place) (element_of all span v e)
element_fine all span fs gs place (Stored p u) t e h k = by_lengths u.lengths
  where
    by_lengths : (ls : List ℕ) → WhereSome (IsFine (fs ++ (gs ++ fault_if (not place || fails is_array (Some (kind_of_object u ls)) || t) Mismatch span.start)) place) (stored_element all p u ls e span)
    by_lengths [] = tt
    by_lengths (n ∷ ns) = (λ i. h.0 i ++ (k.0 i ++ fault_if (not (h.1 i) || false || k.1 i) Mismatch span.start), h.1)
element_fine all span fs gs place (Borrowed array u name) t e h k =
    (λ i. h.0 i ++ (k.0 i ++ fault_if (not (h.1 i) || false || k.1 i) Mismatch span.start), h.1)
element_fine all span fs gs place (Number f) t e h k = tt
element_fine all span fs gs place (Returned c n) t e h k = tt
element_fine all span fs gs place (Done effect) t e h k = tt
element_fine all span fs gs place (Assigned effect) t e h k = tt
element_fine all span fs gs place Designator t e h k = tt

index_fine : (all : List Structure) (span : Span) (x y : Found) → IsFineFound x → IsFineFound y → WhereSome (IsFine (x.faults ++ (y.faults ++ index_faults span.start x.place (kind_found x) (kind_found y))) x.place) (index_value all span x.value (number_found y))
index_fine all span x y h k = by_value x.value h
  where
    by_value : (v : Option Value) → WhereSome (IsFine x.faults x.place) v → WhereSome (IsFine (x.faults ++ (y.faults ++ index_faults span.start x.place (option_map kind_of v) (kind_found y))) x.place) (index_value all span v (number_found y))
    by_value None h = tt
    by_value (Some v) h =
        then_where (λ e. Both y.faults (fails is_integer (kind_found y))) (IsFine (x.faults ++ (y.faults ++ index_faults span.start x.place (Some (kind_of v)) (kind_found y))) x.place) (element_of all span v) (number_found y)
        (λ e p. element_fine all span x.faults y.faults x.place v (fails is_integer (kind_found y)) e h p) (numbers y k)

member_fine : (all : List Structure) (name : Name) (span : Span) (x : Found) → IsFineFound x → WhereSome (IsFine (x.faults ++ member_faults span.start name all x.place (kind_found x)) x.place) (option_and_then (member_of all name span) x.value)
member_fine all name span x h = by_value x.value h
  where
    by_type : (place : Place) (b : Bool) (one : Selected) (ms : List Member) (o : Option CType) (fs : List Fault) → (fs ≡ []) × (x.place ≡ true) → WhereSome (IsFine fs x.place) (option_map (λ u. Stored (typed.Member place (counted one.number) (counted (layout.start (layouts_of ms) one.number)) span) (member_type b u)) o)
    by_type place b one ms None fs h = tt
    by_type place b one ms (Some u) fs h = h

    by_member : (place : Place) (b : Bool) (ms : List Member) (o : Option Selected) → (x.faults ≡ []) × (x.place ≡ true) → WhereSome (IsFine (x.faults ++ (fault_if (not x.place || false) Mismatch span.start ++ fault_if (is_none o) Undeclared name.span.start)) x.place) (option_and_then (member_at ms place b span) o)
    by_member place b ms None h = tt
    by_member place b ms (Some one) h =
        by_type place b one ms one.member.member_type (x.faults ++ (fault_if (not x.place || false) Mismatch span.start ++ [])) (λ i. h.0 i ++ (fault_if (not (h.1 i) || false) Mismatch span.start ++ []), h.1)

    by_base : (p : Place) (u : CType) (ls : List ℕ) (b : Base) → u.base ≡ b → (x.faults ≡ []) × (x.place ≡ true) → WhereSome (IsFine (x.faults ++ member_faults span.start name all x.place (Some (kind_of_object u ls))) x.place) (stored_member all name span p u ls b)
    by_base p u [] (Tagged k) q h =
        subst (λ c. WhereSome (IsFine (x.faults ++ member_faults span.start name all x.place (Some (kind_of_base c))) x.place) (option_and_then (member_at (members_of (slice_get all k)) p u.is_const span) (selected 0 name.text (members_of (slice_get all k))))) (sym q)
        (by_member p u.is_const (members_of (slice_get all k)) (selected 0 name.text (members_of (slice_get all k))) h)
    by_base p u [] Void q h = tt
    by_base p u [] (Integer a) q h = tt
    by_base p u (n ∷ ns) b q h = tt

    by_value : (v : Option Value) → WhereSome (IsFine x.faults x.place) v → WhereSome (IsFine (x.faults ++ member_faults span.start name all x.place (option_map kind_of v)) x.place) (option_and_then (member_of all name span) v)
    by_value None h = tt
    by_value (Some (Stored p u)) h = by_base p u u.lengths u.base refl h
    by_value (Some (Number e)) h = tt
    by_value (Some (Borrowed array u at)) h = tt
    by_value (Some (Returned c k)) h = tt
    by_value (Some (Done effect)) h = tt
    by_value (Some (Assigned effect)) h = tt
    by_value (Some Designator) h = tt

-- ---- operators

unary_fine : (operator : UnaryOperator) (span : Span) (x : Found) → IsFineFound x → WhereSome (IsFine (x.faults ++ unary_faults operator span.start (kind_found x)) false) (option_map Number (option_and_then (typed_unary operator span) (number_found x)))
unary_fine operator span x h =
    map_where P (IsFine (x.faults ++ unary_faults operator span.start (kind_found x)) false) Number (option_and_then (typed_unary operator span) (number_found x)) (λ e p. p)
    (then_where (λ e. Both x.faults (fails is_integer (kind_found x))) P (typed_unary operator span) (number_found x) (by_operator operator) (numbers x h))
  where
    P : typed.Expression → Type 0
    P e = x.faults ++ unary_faults operator span.start (kind_found x) ≡ []

    by_operator : (o : UnaryOperator) (e : typed.Expression) → Both x.faults (fails is_integer (kind_found x)) → WhereSome (λ e. x.faults ++ unary_faults o span.start (kind_found x) ≡ []) (typed_unary o span e)
    by_operator unary.Plus e p = λ i. p.0 i ++ fault_if (false || p.1 i) Mismatch span.start
    by_operator unary.Minus e p = λ i. p.0 i ++ fault_if (false || p.1 i) Mismatch span.start
    by_operator unary.Complement e p = λ i. p.0 i ++ fault_if (false || p.1 i) Mismatch span.start
    by_operator unary.Not e p = λ i. p.0 i ++ fault_if (false || p.1 i) Mismatch span.start
    by_operator unary.Dereference e p = tt
    by_operator unary.Address e p = tt

binary_fine : (operator : BinaryOperator) (span : Span) (x y : Found) → IsFineFound x → IsFineFound y → WhereSome (IsFine (x.faults ++ (y.faults ++ operands_faults span.start (kind_found x) (kind_found y))) false) (option_map Number (lift2 (typed_binary operator span) (number_found x) (number_found y)))
binary_fine operator span x y h k =
    map_where P (IsFine (x.faults ++ (y.faults ++ operands_faults span.start (kind_found x) (kind_found y))) false) Number (lift2 (typed_binary operator span) (number_found x) (number_found y)) (λ e p. p)
    (lift_where (λ e. Both x.faults (fails is_integer (kind_found x))) (λ f. Both y.faults (fails is_integer (kind_found y))) P (typed_binary operator span) (number_found x) (number_found y)
    (λ e f p q. λ i. p.0 i ++ (q.0 i ++ fault_if (p.1 i || q.1 i) Mismatch span.start)) (numbers x h) (numbers y k))
  where
    P : typed.Expression → Type 0
    P e = x.faults ++ (y.faults ++ operands_faults span.start (kind_found x) (kind_found y)) ≡ []

-- ---- casts

base_discarded : (b : Base) → fails is_discarded (Some (kind_of_base b)) ≡ false
base_discarded Void = refl
base_discarded (Integer a) = refl
base_discarded (Tagged k) = refl

always : {A : Type 0} (P : Type 0) (o : Option A) → P → WhereSome (λ a. P) o
always P None h = tt
always P (Some a) h = h

discarded_fine : (fs : List Fault) (place : Bool) (v : Value) → IsFine fs place v → WhereSome (λ e. Both fs (fails is_discarded (Some (kind_of v)))) (discarded_in v)
discarded_fine fs place (Done effect) h = (h, refl)
discarded_fine fs place (Number e) h = (h, refl)
discarded_fine fs place (Stored p u) h = by_parts u.lengths u.base
  where
    by_parts : (ls : List ℕ) (b : Base) → WhereSome (λ e. Both fs (fails is_discarded (Some (kind_of_object u ls)))) (value_effect (number_stored p b ls) (any_structure_in (kind_of_object u ls) (Stored p u)))
    by_parts [] b = always (Both fs (fails is_discarded (Some (kind_of_base u.base)))) (value_effect (number_stored p b []) (any_structure_in (kind_of_base u.base) (Stored p u))) (h.0, base_discarded u.base)
    by_parts (n ∷ ns) Void = tt
    by_parts (n ∷ ns) (Integer a) = tt
    by_parts (n ∷ ns) (Tagged k) = tt
discarded_fine fs place (Borrowed array u span) h = tt
discarded_fine fs place (Returned c k) h = always (Both fs false) (value_effect None (structure_in k (Returned c k))) (h, refl)
discarded_fine fs place (Assigned effect) h = tt
discarded_fine fs place Designator h = tt

cast_fine : (span : Span) (type : Judged CType) (a : Expression) (x : Found) → WhereSome (λ u. type.faults ≡ []) type.value → IsFineFound x → WhereSome (IsFine (type.faults ++ (x.faults ++ cast_faults span.start a (kind_found x) type.value)) false) (cast_value span type.value x.value)
cast_fine span type a x g h = by_type type.value g
  where
    by_base : (v : Value) (o : Option Base) → IsFine x.faults x.place v → type.faults ≡ [] → WhereSome (IsFine (type.faults ++ (x.faults ++ cast_faults_to span.start a (Some (kind_of v)) o)) false) (cast_value_to span v o)
    by_base v None p q = tt
    by_base v (Some (Tagged k)) p q = tt
    by_base v (Some (Integer b)) p q =
        map_where (λ e. Both x.faults (fails is_integer (Some (kind_of v)))) (IsFine (type.faults ++ (x.faults ++ integer_faults span.start (Some (kind_of v)))) false) (λ e. Number (typed.Convert b true e span)) (number_in v)
        (λ e r. λ i. q i ++ (r.0 i ++ fault_if (r.1 i) Mismatch span.start)) (a_number x.faults x.place v p)
    by_base v (Some Void) p q =
        map_where (λ e. Both x.faults (fails is_discarded (Some (kind_of v)))) (IsFine (type.faults ++ (x.faults ++ discarded_faults a (Some (kind_of v)))) false) (λ effect. Done (typed.Discard effect span)) (discarded_in v)
        (λ e r. λ i. q i ++ (r.0 i ++ fault_if (r.1 i) Mismatch (bare_start a))) (discarded_fine x.faults x.place v p)

    by_value : (u : CType) (v : Option Value) → WhereSome (IsFine x.faults x.place) v → type.faults ≡ [] → WhereSome (IsFine (type.faults ++ (x.faults ++ cast_faults_to span.start a (option_map kind_of v) (cast_base u u.lengths))) false) (option_and_then (λ w. cast_value_to span w (cast_base u u.lengths)) v)
    by_value u None p q = tt
    by_value u (Some v) p q = by_base v (cast_base u u.lengths) p q

    by_type : (o : Option CType) → WhereSome (λ u. type.faults ≡ []) o → WhereSome (IsFine (type.faults ++ (x.faults ++ cast_faults span.start a (kind_found x) o)) false) (cast_value span o x.value)
    by_type None g = tt
    by_type (Some u) g = by_value u x.value h g

-- ---- `?:`

both_integers : (k l : Kind) → fails is_integer (Some k) ≡ false → fails is_integer (Some l) ≡ false → not (are_arms k l) ≡ false
both_integers IsInteger IsInteger h g = refl
both_integers IsInteger IsVoid h g = absurd (cc)
both_integers IsInteger IsAssignment h g = absurd (cc)
both_integers IsInteger (IsStructure k) h g = absurd (cc)
both_integers IsInteger (IsArray u) h g = absurd (cc)
both_integers IsInteger IsFunction h g = absurd (cc)
both_integers IsVoid l h g = absurd (cc)
both_integers IsAssignment l h g = absurd (cc)
both_integers (IsStructure k) l h g = absurd (cc)
both_integers (IsArray u) l h g = absurd (cc)
both_integers IsFunction l h g = absurd (cc)

module _ (span : Span) (fx fy fz : List Fault) (bx py pz : Bool) where
  abbrev Arms : Value → Value → List Fault
  Arms v w = fx ++ (fy ++ (fz ++ fault_if (bx || not (are_arms (kind_of v) (kind_of w))) Mismatch span.start))

  number_arms : (e : typed.Expression) (v w : Value) → Both fx bx → IsFine fy py v → IsFine fz pz w → WhereSome (IsFine (Arms v w) false) (lift2 (choice_of span e) (number_in v) (number_in w))
  number_arms e v w p q r =
      lift_where (λ f. Both fy (fails is_integer (Some (kind_of v)))) (λ g. Both fz (fails is_integer (Some (kind_of w)))) (IsFine (Arms v w) false) (choice_of span e) (number_in v) (number_in w)
      (λ f g k l. λ i. p.0 i ++ (k.0 i ++ (l.0 i ++ fault_if (p.1 i || both_integers (kind_of v) (kind_of w) k.1 l.1 i) Mismatch span.start)))
      (a_number fy py v q) (a_number fz pz w r)

  arms_fine : (e : typed.Expression) (v w : Value) → Both fx bx → IsFine fy py v → IsFine fz pz w → WhereSome (IsFine (Arms v w) false) (arms_value span e v w)
  arms_fine e (Done a) (Done b) p q r = λ i. p.0 i ++ (q i ++ (r i ++ fault_if (p.1 i || false) Mismatch span.start))
  arms_fine e (Done a) (Number f) p q r = tt
  arms_fine e (Done a) (Stored place u) p q r = tt
  arms_fine e (Done a) (Borrowed array u at) p q r = tt
  arms_fine e (Done a) (Returned c k) p q r = tt
  arms_fine e (Done a) (Assigned effect) p q r = tt
  arms_fine e (Done a) Designator p q r = tt
  arms_fine e (Number f) w p q r = number_arms e (Number f) w p q r
  arms_fine e (Stored place u) w p q r = number_arms e (Stored place u) w p q r
  arms_fine e (Borrowed array u at) w p q r = tt
  arms_fine e (Returned c k) w p q r = tt
  arms_fine e (Assigned effect) w p q r = tt
  arms_fine e Designator w p q r = tt

conditional_fine : (span : Span) (x y z : Found) → IsFineFound x → IsFineFound y → IsFineFound z → WhereSome (IsFine (x.faults ++ (y.faults ++ (z.faults ++ conditional_faults span.start (kind_found x) (kind_found y) (kind_found z)))) false) (conditional_value span (number_found x) y.value z.value)
conditional_fine span x y z h k l = by_test (number_found x) (numbers x h)
  where
    All : Option Value → Option Value → List Fault
    All v w = x.faults ++ (y.faults ++ (z.faults ++ fault_if (fails is_integer (kind_found x) || arms_fail (option_map kind_of v) (option_map kind_of w)) Mismatch span.start))

    by_last : (e : typed.Expression) (v : Value) (w : Option Value) → Both x.faults (fails is_integer (kind_found x)) → IsFine y.faults y.place v → WhereSome (IsFine z.faults z.place) w → WhereSome (IsFine (All (Some v) w) false) (option_and_then (arms_value span e v) w)
    by_last e v None p q r = tt
    by_last e v (Some w) p q r = arms_fine span x.faults y.faults z.faults (fails is_integer (kind_found x)) y.place z.place e v w p q r

    by_first : (e : typed.Expression) (v w : Option Value) → Both x.faults (fails is_integer (kind_found x)) → WhereSome (IsFine y.faults y.place) v → WhereSome (IsFine z.faults z.place) w → WhereSome (IsFine (All v w) false) (option_and_then (λ one. option_and_then (arms_value span e one) w) v)
    by_first e None w p q r = tt
    by_first e (Some v) w p q r = by_last e v w p q r

    by_test : (e : Option typed.Expression) → WhereSome (λ e. Both x.faults (fails is_integer (kind_found x))) e → WhereSome (IsFine (All y.value z.value) false) (conditional_value span e y.value z.value)
    by_test None p = tt
    by_test (Some e) p = by_first e y.value z.value p k l

-- ---- assignments: nothing is said of their own faults

any : {A : Type 0} (o : Option A) → WhereSome (λ a. Unit {0}) o
any None = tt
any (Some a) = tt

assigned_fine : (fs : List Fault) (make : Value → Place → Base → List ℕ → Option Effect) (v w : Option Value) → WhereSome (IsFine fs false) (assignment_value make v w)
assigned_fine fs make v w =
    then_where (λ v. Unit {0}) (IsFine fs false) (λ one. option_and_then (effect_on make one) w) v (λ v p. then_where (λ w. Unit {0}) (IsFine fs false) (effect_on make v) w (λ w q. on_value v w) (any w)) (any v)
  where
    on_value : (v w : Value) → WhereSome (IsFine fs false) (effect_on make v w)
    on_value (Stored p u) w = map_where (λ e. Unit {0}) (IsFine fs false) Assigned (make w p u.base u.lengths) (λ e h. h) (any (make w p u.base u.lengths))
    on_value (Number e) w = tt
    on_value (Borrowed array u span) w = tt
    on_value (Returned c n) w = tt
    on_value (Done effect) w = tt
    on_value (Assigned effect) w = tt
    on_value Designator w = tt

-- ---- arguments

same_itself : (k : ℕ) → (k == k) ≡ true
same_itself k = grind arith

turned : (j k : ℕ) → (j == k) ≡ true → (k == j) ≡ true
turned j k h = grind (arith, h)

a_structure : (k : ℕ) (fs : List Fault) (place : Bool) (v : Value) → IsFine fs place v → WhereSome (λ w. Both fs (fails (argument_fits (ByValue (Tagged k))) (Some (kind_of v)))) (structure_in k v)
a_structure k fs place (Stored p u) h = by_parts u.lengths u.base refl
  where
    by_test : (j : ℕ) (b : Bool) → (j == k) ≡ b → WhereSome (λ w. Both fs (not (k == j))) (if b then Some (typed.Stored p) else None)
    by_test j true e = (h.0, λ i. not (turned j k e i))
    by_test j false e = tt

    by_parts : (ls : List ℕ) (b : Base) → u.base ≡ b → WhereSome (λ w. Both fs (fails (argument_fits (ByValue (Tagged k))) (Some (kind_of_object u ls)))) (structure_stored k p b ls)
    by_parts [] (Tagged j) q =
        subst (λ c. WhereSome (λ w. Both fs (fails (argument_fits (ByValue (Tagged k))) (Some (kind_of_base c)))) (if j == k then Some (typed.Stored p) else None)) (sym q) (by_test j (j == k) refl)
    by_parts (n ∷ ns) (Tagged j) q = tt
    by_parts ls Void q = tt
    by_parts ls (Integer a) q = tt
a_structure k fs place (Returned c j) h = by_test (j == k) refl
  where
    by_test : (b : Bool) → (j == k) ≡ b → WhereSome (λ w. Both fs (not (k == j))) (if b then Some (typed.Returned c) else None)
    by_test true e = (h, λ i. not (turned j k e i))
    by_test false e = tt
a_structure k fs place (Number e) h = tt
a_structure k fs place (Borrowed array u span) h = tt
a_structure k fs place (Done effect) h = tt
a_structure k fs place (Assigned effect) h = tt
a_structure k fs place Designator h = tt

an_array : (u : CType) (fs : List Fault) (place : Bool) (v : Value) → IsFine fs place v → WhereSome (λ a. Both fs (fails (argument_fits (ByArray u)) (Some (kind_of v)))) (array_argument u v)
an_array u fs place (Stored p w) h = by_lengths w.lengths
  where
    by_test : (n : ℕ) (b : Bool) → WhereSome (λ a. Both fs (not b)) (if b then Some (typed.ArrayArgument p n) else None)
    by_test n true = (h.0, refl)
    by_test n false = tt

    by_lengths : (ls : List ℕ) → WhereSome (λ a. Both fs (fails (argument_fits (ByArray u)) (Some (kind_of_object w ls)))) (stored_array u p w ls)
    by_lengths [] = tt
    by_lengths (n ∷ ns) = by_test n (array_fits u (record w { lengths = ns }))
an_array u fs place (Borrowed array w span) h = by_test (array_fits u w)
  where
    by_test : (b : Bool) → WhereSome (λ a. Both fs (not b)) (if b then Some (typed.AgainArgument array span) else None)
    by_test true = (h.0, refl)
    by_test false = tt
an_array u fs place (Number e) h = tt
an_array u fs place (Returned c k) h = tt
an_array u fs place (Done effect) h = tt
an_array u fs place (Assigned effect) h = tt
an_array u fs place Designator h = tt

argument_fine : (s : Scope) (at : ℕ) (p : ParameterKind) (fs : List Fault) (place : Bool) (v : Option Value) → WhereSome (IsFine fs place) v → WhereSome (λ a. fs ++ argument_faults at (Some p) (option_map kind_of v) ≡ []) (argument_value s (Some p) v)
argument_fine s at p fs place None h = tt
argument_fine s at p fs place (Some v) h = by_kind p
  where
    joins : {A : Type 0} (p : ParameterKind) (f : A → Argument) (o : Option A) → WhereSome (λ a. Both fs (fails (argument_fits p) (Some (kind_of v)))) o → WhereSome (λ a. fs ++ fault_if (fails (argument_fits p) (Some (kind_of v))) Mismatch at ≡ []) (option_map f o)
    joins p f None h = tt
    joins p f (Some a) h = λ i. h.0 i ++ fault_if (h.1 i) Mismatch at

    kept : (p : ParameterKind) (o : Option Argument) → WhereSome (λ a. Both fs (fails (argument_fits p) (Some (kind_of v)))) o → WhereSome (λ a. fs ++ fault_if (fails (argument_fits p) (Some (kind_of v))) Mismatch at ≡ []) o
    kept p None h = tt
    kept p (Some a) h = λ i. h.0 i ++ fault_if (h.1 i) Mismatch at

    by_kind : (p : ParameterKind) → WhereSome (λ a. fs ++ argument_faults at (Some p) (Some (kind_of v)) ≡ []) (argument_of s p v)
    by_kind (ByValue (Integer a)) = joins (ByValue (Integer a)) (λ e. typed.NumberArgument (convert_to a e)) (number_in v) (a_number fs place v h)
    by_kind (ByValue (Tagged k)) = joins (ByValue (Tagged k)) (λ w. typed.StructureArgument w (next_slot s)) (structure_in k v) (a_structure k fs place v h)
    by_kind (ByValue Void) = tt
    by_kind (ByArray u) = kept (ByArray u) (array_argument u v) (an_array u fs place v h)

-- ---- calls

module _ (name : Name) (span : Span) (s : Scope) (fs : List Fault) (count : ℕ) (f : Signature) where
  abbrev CallFaults : Bool → Bool → Option ℕ → Base → List Fault
  CallFaults bi bo n result =
      fs ++ (fault_if (not (count == length f.parameters) || not (gives s.structures result)) Mismatch span.start
      ++ fault_if (not (bi || bo) && is_none n) NoBody name.span.start)

  returned_fine : (g : ℕ) (given : Arguments) (result : Base) → fs ≡ [] → (count == length f.parameters) ≡ true → WhereSome (IsFine (CallFaults false false (Some g) result) false) (returned s g given span result)
  returned_fine g given Void p q = λ i. p i ++ (fault_if (not (q i) || false) Mismatch span.start ++ [])
  returned_fine g given (Integer a) p q = λ i. p i ++ (fault_if (not (q i) || false) Mismatch span.start ++ [])
  returned_fine g given (Tagged k) p q = by_test (is_complete s.structures (Tagged k))
    where
      by_test : (b : Bool) → WhereSome (IsFine (fs ++ (fault_if (not (count == length f.parameters) || not b) Mismatch span.start ++ [])) false) (if b then Some (Returned (typed.call g given (Some (next_slot s)) span) k) else None)
      by_test true = λ i. p i ++ (fault_if (not (q i) || false) Mismatch span.start ++ [])
      by_test false = tt

  called_fine : (given : Arguments) → is_input name ≡ false → is_output name ≡ false → fs ≡ [] → count ≡ length f.parameters → WhereSome (IsFine (CallFaults (is_input name) (is_output name) (function_number name s) f.result) false) (called name span s f.result given)
  called_fine given hi ho p e = by_tests (is_input name) (is_output name) hi ho (function_number name s)
    where
      q : (count == length f.parameters) ≡ true
      q = ap (λ (n : ℕ). n == length f.parameters) e ∙ same_itself (length f.parameters)

      by_tests : (bi bo : Bool) → bi ≡ false → bo ≡ false → (n : Option ℕ) → WhereSome (IsFine (CallFaults bi bo n f.result) false) (if bi then Some (Number (typed.Input span)) else if bo then output_of span given else option_and_then (λ g. returned s g given span f.result) n)
      by_tests true bo a b n = absurd (cc)
      by_tests false true a b n = absurd (cc)
      by_tests false false a b None = tt
      by_tests false false a b (Some g) = returned_fine g given f.result p q

call_fine : (name : Name) (span : Span) (m : Option Meaning) (count : ℕ) (s : Scope) (fs : List Fault) (given : Option Arguments) → is_input name ≡ false → is_output name ≡ false → WhereSome (λ a. (fs ≡ []) × (count ≡ length (parameters_of m))) given → WhereSome (IsFine (fs ++ callee_faults name span.start count s m) false) (call_value name span m s given)
call_fine name span (Some (Function (Some f) b)) count s fs given hi ho h =
    then_where (λ a. (fs ≡ []) × (count ≡ length f.parameters)) (IsFine (CallFaults name span s fs count f (is_input name) (is_output name) (function_number name s) f.result) false) (called name span s f.result) given
    (λ a p. called_fine name span s fs count f a hi ho p.0 p.1) h
call_fine name span None count s fs given hi ho h = tt
call_fine name span (Some (Function None b)) count s fs given hi ho h = tt
call_fine name span (Some (Automatic slot u)) count s fs given hi ho h = tt
call_fine name span (Some (scope.Stored slot u)) count s fs given hi ho h = tt
call_fine name span (Some (scope.Borrowed array u)) count s fs given hi ho h = tt
call_fine name span (Some (Constant v)) count s fs given hi ho h = tt
call_fine name span (Some (Typedef u)) count s fs given hi ho h = tt

-- ---- type names

abbrev IsFineType : Judged CType → Type 0
IsFineType x = WhereSome (λ u. x.faults ≡ []) x.value

unless_fine : (fs : List Fault) (u : CType) → WhereSome (λ v. fs ≡ []) (unless_faulty fs (Some u))
unless_fine [] u = refl
unless_fine (f ∷ fs) u = tt

abbrev none_of_them : List Fault
none_of_them = []

no_faults : {A : Type 0} (o : Option A) → WhereSome (λ (a : A). none_of_them ≡ []) o
no_faults None = tt
no_faults (Some a) = refl

typedef_fine : (name : Name) (s : Scope) (m : Option Meaning) → IsFineType (typedef_type name s m)
typedef_fine name s None = tt
typedef_fine name s (Some (Typedef u)) = no_faults (option_and_then (used_type s) u)
typedef_fine name s (Some (Automatic slot u)) = tt
typedef_fine name s (Some (scope.Stored slot u)) = tt
typedef_fine name s (Some (scope.Borrowed array u)) = tt
typedef_fine name s (Some (Constant v)) = tt
typedef_fine name s (Some (Function f b)) = tt

structure_tag_fine : (tag : Name) (span : Span) (s : Scope) (m : Option TagMeaning) → IsFineType (used_structure_tag tag span s m)
structure_tag_fine tag span s None = tt
structure_tag_fine tag span s (Some (StructureTag k)) = no_faults (structure_type k s)
structure_tag_fine tag span s (Some EnumerationTag) = tt

enumeration_tag_fine : (tag : Name) (span : Span) (s : Scope) (m : Option TagMeaning) → IsFineType (used_enumeration_tag tag span s m)
enumeration_tag_fine tag span s None = tt
enumeration_tag_fine tag span s (Some EnumerationTag) = refl
enumeration_tag_fine tag span s (Some (StructureTag k)) = tt

specifier_fine : (one : Specifier) (s : Scope) → IsFineType (judge_specifier false one s)
specifier_fine (tree.Word word span) s = tt
specifier_fine (tree.TypedefName name) s = typedef_fine name s (meaning_of name s)
specifier_fine (tree.StructureTag tag span) s = structure_tag_fine tag span s (tag_of tag s)
specifier_fine (tree.Structure tag all span) s =
    let x = opened tag s in
    let y = judge_members all [] x.scope in
    unless_fine (x.faults ++ y.faults) (plain (Tagged x.number))
specifier_fine (tree.EnumerationTag tag span) s = enumeration_tag_fine tag span s (tag_of tag s)
specifier_fine (tree.Enumeration tag all span) s =
    let y = judge_enumerators all (Some (pos 0)) (enumeration_scope tag s) in
    unless_fine (enumeration_faults tag s ++ y.faults) int

pub record AreNoTypes (x : Judged CType) : Type 0 where
  pub faults : x.faults ≡ []
  pub value : x.value ≡ None

words_found : (all : Specifiers) (s : Scope) → AreWords all → AreNoTypes (judge_specifiers false all s)
words_found tree.no_specifiers s h = record { faults = refl; value = refl }
words_found (tree.specifiers (tree.Word word span) rest) s h =
    let x = words_found rest s h in
    record { faults = λ i. x.faults i ++ []; value = x.value }
words_found (tree.specifiers (tree.TypedefName name) rest) s h = absurd h
words_found (tree.specifiers (tree.StructureTag tag span) rest) s h = absurd h
words_found (tree.specifiers (tree.Structure tag all span) rest) s h = absurd h
words_found (tree.specifiers (tree.EnumerationTag tag span) rest) s h = absurd h
words_found (tree.specifiers (tree.Enumeration tag all span) rest) s h = absurd h

-- one specifier, and words after it
then_words : (one : Specifier) (rest : Specifiers) (s : Scope) → AreWords rest → IsFineType (judge_specifiers false (tree.specifiers one rest) s)
then_words one rest s h = by_value x.value (specifier_fine one s)
  where
    x : Judged CType
    x = judge_specifier false one s

    y : AreNoTypes (judge_specifiers false rest x.scope)
    y = words_found rest x.scope h

    by_value : (o : Option CType) → WhereSome (λ u. x.faults ≡ []) o → WhereSome (λ u. x.faults ++ ((judge_specifiers false rest x.scope).faults ++ []) ≡ []) (one_of o (judge_specifiers false rest x.scope).value)
    by_value None p = subst (λ o. WhereSome (λ u. x.faults ++ ((judge_specifiers false rest x.scope).faults ++ []) ≡ []) o) (sym y.value) tt
    by_value (Some u) p = λ i. p i ++ (y.faults i ++ [])

one_found : (all : Specifiers) (s : Scope) → HasOneMore all → IsFineType (judge_specifiers false all s)
one_found tree.no_specifiers s h = absurd h
one_found (tree.specifiers (tree.Word word span) rest) s h = by_value (judge_specifiers false rest s).value (one_found rest s h)
  where
    by_value : (o : Option CType) → WhereSome (λ u. (judge_specifiers false rest s).faults ≡ []) o → WhereSome (λ u. (judge_specifiers false rest s).faults ++ [] ≡ []) o
    by_value None p = tt
    by_value (Some u) p = λ i. p i ++ []
one_found (tree.specifiers (tree.TypedefName name) rest) s h = then_words (tree.TypedefName name) rest s h
one_found (tree.specifiers (tree.StructureTag tag span) rest) s h = then_words (tree.StructureTag tag span) rest s h
one_found (tree.specifiers (tree.Structure tag all span) rest) s h = then_words (tree.Structure tag all span) rest s h
one_found (tree.specifiers (tree.EnumerationTag tag span) rest) s h = then_words (tree.EnumerationTag tag span) rest s h
one_found (tree.specifiers (tree.Enumeration tag all span) rest) s h = then_words (tree.Enumeration tag all span) rest s h

one_is_no_word : (all : Specifiers) → HasOneMore all → any_is_no_word all ≡ true
one_is_no_word tree.no_specifiers h = absurd h
one_is_no_word (tree.specifiers (tree.Word word span) rest) h = one_is_no_word rest h
one_is_no_word (tree.specifiers (tree.TypedefName name) rest) h = refl
one_is_no_word (tree.specifiers (tree.StructureTag tag span) rest) h = refl
one_is_no_word (tree.specifiers (tree.Structure tag all span) rest) h = refl
one_is_no_word (tree.specifiers (tree.EnumerationTag tag span) rest) h = refl
one_is_no_word (tree.specifiers (tree.Enumeration tag all span) rest) h = refl

type_fine : (all : Specifiers) (stars : ℕ) (span : Span) (s : Scope) → IsOneType all → IsFineType (judge_type (tree.type_name all stars span) s)
type_fine all stars span s (inl words) =
    let y = words_found all s words in
    by_base (base_of_words all) (judge_specifiers false all s).value y.value y.faults
  where
    by_base : (b : Option Base) (o : Option CType) → o ≡ None → (judge_specifiers false all s).faults ≡ [] → WhereSome (λ u. (judge_specifiers false all s).faults ++ fault_if (not (is_some b || any_is_no_word all)) Mismatch span.start ≡ []) (option_map (qualified (has word.Const all)) (type_of_words_or o b))
    by_base None o p q = subst (λ o. WhereSome (λ u. (judge_specifiers false all s).faults ++ fault_if (not (any_is_no_word all)) Mismatch span.start ≡ []) (option_map (qualified (has word.Const all)) o)) (sym p) tt
    by_base (Some b) o p q = λ i. q i ++ []
type_fine all stars span s (inr (one, none)) =
    subst (λ b. WhereSome (λ u. (judge_specifiers false all s).faults ++ fault_if (not (is_some b || any_is_no_word all)) Mismatch span.start ≡ []) (option_map (qualified (has word.Const all)) (type_of_words_or (judge_specifiers false all s).value b))) (sym none)
    (by_value (judge_specifiers false all s).value (one_found all s one))
  where
    by_value : (o : Option CType) → WhereSome (λ u. (judge_specifiers false all s).faults ≡ []) o → WhereSome (λ u. (judge_specifiers false all s).faults ++ fault_if (not (any_is_no_word all)) Mismatch span.start ≡ []) (option_map (qualified (has word.Const all)) o)
    by_value None p = tt
    by_value (Some u) p = λ i. p i ++ fault_if (not (one_is_no_word all one i)) Mismatch span.start

-- ---- expressions

assignment_fine : (operator : AssignmentOperator) (span : Span) (x y : Found) → IsFineFound (assignment_found operator span x y)
assignment_fine assign.Assign span x y = assigned_fine _ (assign_effect y.scope.structures span) x.value y.value
assignment_fine assign.Multiply span x y = assigned_fine _ (update_effect assign.Multiply span) x.value y.value
assignment_fine assign.Divide span x y = assigned_fine _ (update_effect assign.Divide span) x.value y.value
assignment_fine assign.Remainder span x y = assigned_fine _ (update_effect assign.Remainder span) x.value y.value
assignment_fine assign.Add span x y = assigned_fine _ (update_effect assign.Add span) x.value y.value
assignment_fine assign.Subtract span x y = assigned_fine _ (update_effect assign.Subtract span) x.value y.value
assignment_fine assign.ShiftLeft span x y = assigned_fine _ (update_effect assign.ShiftLeft span) x.value y.value
assignment_fine assign.ShiftRight span x y = assigned_fine _ (update_effect assign.ShiftRight span) x.value y.value
assignment_fine assign.BitAnd span x y = assigned_fine _ (update_effect assign.BitAnd span) x.value y.value
assignment_fine assign.BitXor span x y = assigned_fine _ (update_effect assign.BitXor span) x.value y.value
assignment_fine assign.BitOr span x y = assigned_fine _ (update_effect assign.BitOr span) x.value y.value

step_fine : (operator : StepOperator) (at span : Span) (x : Found) → IsFineFound (step_found operator at span x)
step_fine operator at span x = assigned_fine _ (update_effect (step_operator operator) span) x.value (literal (pos 1) (Some the.Int) at x.scope).value

mutual
  pub found_fine : (e : Expression) (s : Scope) → IsRead e → IsFineFound (judge e s)
  found_fine (tree.Named name) s r = named_fine name (meaning_of name s)
  found_fine (tree.Constant v decimal unsigned longs span) s r = literal_fine (pos v) (type_of_constant v decimal unsigned longs) span s
  found_fine (tree.Character v span) s r = literal_fine v (if in_range the.Int v then Some the.Int else None) span s
  found_fine (tree.Parenthesized inner span) s r = found_fine inner s r
  found_fine (tree.Call name given span) s r =
      let m = meaning_of name s in
      let x = judge_arguments given (parameters_of m) s in
      call_fine name span m (argument_count given) x.scope x.faults x.value r.0 r.1 (arguments_fine given (parameters_of m) s r.2)
  found_fine (tree.Index a b span) s r =
      let x = judge a s in
      let y = judge b x.scope in
      index_fine y.scope.structures span x y (found_fine a s r.0) (found_fine b x.scope r.1)
  found_fine (tree.Member a name span) s r =
      let x = judge a s in member_fine x.scope.structures name span x (found_fine a s r)
  found_fine (tree.PostfixStep operator a span) s r = step_fine operator (operator_after span) span (judge a s)
  found_fine (tree.PrefixStep operator a span) s r = step_fine operator (operator_before span) span (judge a s)
  found_fine (tree.Unary operator a span) s r = unary_fine operator span (judge a s) (found_fine a s r)
  found_fine (tree.Cast (tree.type_name all stars at) a span) s r =
      let x = judge_type (tree.type_name all stars at) s in
      cast_fine span x a (judge a x.scope) (type_fine all stars at s r.0) (found_fine a x.scope r.1)
  found_fine (tree.Binary operator a b span) s r =
      let x = judge a s in
      binary_fine operator span x (judge b x.scope) (found_fine a s r.0) (found_fine b x.scope r.1)
  found_fine (tree.Conditional a b c span) s r =
      let x = judge a s in
      let y = judge b x.scope in
      conditional_fine span x y (judge c y.scope) (found_fine a s r.0) (found_fine b x.scope r.1) (found_fine c y.scope r.2)
  found_fine (tree.Assignment operator a b span) s r =
      let x = judge a s in assignment_fine operator span x (judge b x.scope)
  found_fine (tree.Comma operands span) s r = tt

  pub arguments_fine : (es : Expressions) (ps : List ParameterKind) (s : Scope) → AreRead es → WhereSome (λ a. ((judge_arguments es ps s).faults ≡ []) × (argument_count es ≡ length ps)) (judge_arguments es ps s).value
  arguments_fine tree.no_expressions [] s r = (refl, refl)
  arguments_fine tree.no_expressions (p ∷ ps) s r = tt
  arguments_fine (tree.expressions e rest) [] s r = tt
  arguments_fine (tree.expressions e rest) (p ∷ ps) s r =
      let x = judge e s in
      let one = argument_judged (span_of e).start (Some p) x in
      lift_where (λ a. one.faults ≡ []) (λ a. ((judge_arguments rest ps one.scope).faults ≡ []) × (argument_count rest ≡ length ps))
      (λ a. (one.faults ++ (judge_arguments rest ps one.scope).faults ≡ []) × (argument_count rest + 1 ≡ suc (length ps))) typed.arguments one.value (judge_arguments rest ps one.scope).value
      (λ a more h k. (λ i. h i ++ k.0 i, omega (arith, k.1)))
      (argument_fine x.scope (span_of e).start p x.faults x.place x.value (found_fine e s r.0))
      (arguments_fine rest ps one.scope r.1)

free : (fs : List Fault) (place : Bool) (v : Value) → IsFine fs place v → IsFree v fs
free fs place (Number e) h = h
free fs place (Stored p u) h = h.0
free fs place (Borrowed array u span) h = h.0
free fs place (Returned c k) h = h
free fs place (Done effect) h = h
free fs place (Assigned effect) h = tt
free fs place Designator h = h

pub values_free : ValuesHaveNoFault
values_free e s v r q =
    free (judge e s).faults (judge e s).place v (subst (WhereSome (IsFine (judge e s).faults (judge e s).place)) q (found_fine e s r))
