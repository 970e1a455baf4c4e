-- What is found at each node of an expression but a call, at other places.
use Rattle.std.proofs.Common.{◌≡◌, ℕ, ℤ, pos, Bool, true, false, not, ◌&&◌, ◌||◌, if◌then◌else◌, List, [], ◌∷◌, slice_get, is_none, Option, Some, None, option_map, option_and_then, refl, sym, ap, subst, ◌∙◌}
use Rattle.mc_span.specs.declared.span.Span.{Span}
use Rattle.mc_tree.specs.declared.expressions.unary_operator.UnaryOperator.{UnaryOperator}
use Rattle.mc_tree.specs.declared.expressions.step_operator.StepOperator.{StepOperator}
use Rattle.mc_tree.specs.declared.expressions.step_operator.StepOperator.TheVariants as step
use Rattle.mc_tree.specs.declared.expressions.binary_operator.BinaryOperator.{BinaryOperator}
use Rattle.mc_tree.specs.declared.expressions.assignment_operator.AssignmentOperator.{AssignmentOperator}
use Rattle.mc_tree.specs.declared.expressions.assignment_operator.AssignmentOperator.TheVariants as assign
use Rattle.mc_tree.specs.Tree.{Name, Expression}
use Rattle.mc_value.specs.declared.int_type.IntType.{IntType}
use Rattle.mc_value.specs.declared.int_type.IntType.TheVariants as the
use Rattle.mc_value.specs.declared.operators.BinOp.{BinOp}
use Rattle.mc_value.specs.declared.operators.BinOp.TheVariants as op
use Rattle.mc_value.specs.declared.operators.ShiftOp.TheVariants as shift
use Rattle.mc_value.specs.Conversions.{promoted, common_of}
use Rattle.mc_typed.specs.declared.operators.Operator.TheVariants.{Binary, Shift}
use Rattle.mc_typed.specs.Layout.{start}
use Rattle.mc_typed.specs.Sound.{type_of}
use Rattle.mc_typed.specs.Tree.{Place, Effect}
use Rattle.mc_typed.specs.Tree as t
use Rattle.types_faults.specs.declared.fault.FaultKind.TheVariants.{Undeclared, Mismatch}
use Rattle.types_rules.specs.Profile.{counted}
use Rattle.types_rules.specs.Types.{Base, Void, Integer, Tagged, CType, plain, Structure, Member, members_of, cells_of, same_integer}
use Rattle.types_rules.specs.Scopes.{Meaning, Automatic, Constant, Function, Typedef, Scope, meaning_of}
use Rattle.types_rules.specs.Scopes as scope
use Rattle.types_rules.specs.Values.{Judged, Value, Number, Stored, Borrowed, Done, Assigned, Kind, IsStructure, Found, kind_found, is_integer, is_array, is_structure, fails, number_in, number_found, structure_in, discarded_in, lift2}
use Rattle.types_rules.specs.Expressions.{convert_to, common_type, name_faults, value_of_name, name_found, literal, stored_element, element_of, index_value, index_found, Selected, selected, undeclared_member, member_type, layouts_of, member_at, stored_member, member_of, member_found, typed_unary, is_arithmetic, unary_found, cast_base, cast_faults_to, cast_faults, cast_value_to, cast_value, may_cast_to_integer, cast_found, typed_binary, binary_found, arms_fail, choice_of, arms_value, conditional_value, conditional_found, is_assigned, is_const_value, target_fails, sides_fail, assign_effect, update_in_common_type, update_of, update_effect, effect_on, assignment_value, assign_found, update_found, assignment_found, step_operator, step_found}
use Rattle.reread_law_texts.specs.alike.Moves.{Move, moved_span}
use Rattle.reread_law_texts.specs.alike.Trees.{moved, moved_name}
use Rattle.reread_law_places.specs.natural.Moved.{moved_place, moved_number, moved_structure, moved_effect}
use Rattle.reread_law_places.specs.natural.Settled.{settled_operand}
use Rattle.reread_law_places.specs.natural.Found.{moved_value, settled_value}
use Rattle.reread_law_places.proofs.Natural.Basics.{Shifts, both, none, one, one_if, same2, same3, lift_moved, map_moved, map_over, then_over, Goes, Same}
use Rattle.reread_law_places.proofs.Natural.Numbers.{type_kept, convert_moved, promote_moved, common_kept, unary_moved, binary_moved}
use Rattle.reread_law_places.proofs.Natural.Values.{Like, exact, Follows, asked, carried, carried_like, then_none, lift_none, kind_same, kinds, number_moved, number_goes, structure_moved, discarded_moved, integer_faults_go, discarded_faults_go}

-- ---- names and constants

name_faults_go : (m : Move) (o : Option Meaning) (at : ℕ) → Shifts m (name_faults o (m.start at)) (name_faults o at)
name_faults_go m None at = one m Undeclared at
name_faults_go m (Some (Typedef u)) at = one m Mismatch at
name_faults_go m (Some v) at = none

name_value : (m : Move) (span : Span) (o : Option Meaning) → option_and_then (value_of_name (moved_span m span)) o ≡ option_map (moved_value m) (option_and_then (value_of_name span) o)
name_value m span None = refl
name_value m span (Some (Automatic slot None)) = refl
name_value m span (Some (Automatic slot (Some u))) = refl
name_value m span (Some (scope.Stored slot None)) = refl
name_value m span (Some (scope.Stored slot (Some u))) = refl
name_value m span (Some (scope.Borrowed array u)) = refl
name_value m span (Some (Constant None)) = refl
name_value m span (Some (Constant (Some v))) = refl
name_value m span (Some (Function f b)) = refl
name_value m span (Some (Typedef u)) = refl

name_at : (m : Move) (name : Name) (s : Scope) → Follows m (name_found (moved_name m name) s) (name_found name s)
name_at m name s = record {
  faults = name_faults_go m (meaning_of name s) name.span.start;
  value = exact (name_value m name.span (meaning_of name s));
  place = refl;
  constant = refl;
  scope = refl;
}

pub name_goes : (m : Move) (name : Name) {s u : Scope} → s ≡ u → Follows m (name_found (moved_name m name) s) (name_found name u)
name_goes m name {s = s} {u = u} h = subst (λ x. Follows m (name_found (moved_name m name) x) (name_found name u)) (sym h) (name_at m name u)

literal_value : (m : Move) (v : ℤ) (a : Option IntType) (span : Span) → option_map (λ b. Number (t.Constant v b (moved_span m span))) a ≡ option_map (moved_value m) (option_map (λ b. Number (t.Constant v b span)) a)
literal_value m v None span = refl
literal_value m v (Some a) span = refl

pub literal_goes : (m : Move) (v : ℤ) (a : Option IntType) (span : Span) {s u : Scope} → s ≡ u → Follows m (literal v a (moved_span m span) s) (literal v a span u)
literal_goes m v a span {s = s} {u = u} h = record {
  faults = one_if m Mismatch span.start (refl {a = is_none a});
  value = exact (literal_value m v a span);
  place = refl;
  constant = refl;
  scope = h;
}

-- ---- elements

stored_element_moved : (m : Move) (all : List Structure) (span : Span) (place : Place) (u : CType) (ns : List ℕ) (e : t.Expression)
    → stored_element all (moved_place m place) u ns (moved_number m e) (moved_span m span) ≡ option_map (moved_value m) (stored_element all place u ns e span)
stored_element_moved m all span place u [] e = refl
stored_element_moved m all span place u (n ∷ ns) e = refl

element_moved : (m : Move) (all : List Structure) (span : Span) (v : Value) (e : Option t.Expression)
    → option_and_then (element_of all (moved_span m span) (moved_value m v)) (option_map (moved_number m) e) ≡ option_map (moved_value m) (option_and_then (element_of all span v) e)
element_moved m all span v None = refl
element_moved m all span (Stored place u) (Some e) = stored_element_moved m all span place u u.lengths e
element_moved m all span v (Some e) = refl

index_like : (m : Move) (all : List Structure) (span : Span) (e : Option t.Expression) {a b : Option Value} → Like m a b
    → Like m (index_value all (moved_span m span) a (option_map (moved_number m) e)) (index_value all span b e)
index_like m all span e h = exact (carried
    (λ w. option_and_then (element_of all (moved_span m span) w) (option_map (moved_number m) e)) (λ w. option_and_then (element_of all span w) e) (moved_value m)
    (λ effect. then_none (option_map (moved_number m) e)) (λ v. element_moved m all span v e) h)

pub index_goes : (m : Move) (span : Span) {x y v w : Found} → Follows m x v → Follows m y w → Follows m (index_found (moved_span m span) x y) (index_found span v w)
index_goes m span {x = x} {y = y} {v = v} {w = w} h k = record {
  faults = both h.faults (both k.faults (one_if m Mismatch span.start (same3 (λ (p : Bool) (a b : Option Kind). not p || fails is_array a || fails is_integer b) h.place (kind_same h) (kind_same k))));
  value = rw (k.scope, number_goes k) (index_like m w.scope.structures span (number_found w) h.value);
  place = h.place;
  constant = refl;
  scope = k.scope;
}

-- ---- members

member_at_moved : (m : Move) (members : List Member) (place : Place) (b : Bool) (span : Span) (o : Option Selected)
    → option_and_then (member_at members (moved_place m place) b (moved_span m span)) o ≡ option_map (moved_value m) (option_and_then (member_at members place b span) o)
member_at_moved m members place b span None = refl
member_at_moved m members place b span (Some one) = map_moved
    (λ u. Stored (t.Member (moved_place m place) (counted one.number) (counted (start (layouts_of members) one.number)) (moved_span m span)) (member_type b u))
    (λ u. Stored (t.Member place (counted one.number) (counted (start (layouts_of members) one.number)) span) (member_type b u))
    (moved_value m) one.member.member_type (λ u. refl)

stored_member_moved : (m : Move) (all : List Structure) (name : Name) (span : Span) (place : Place) (u : CType) (ns : List ℕ) (b : Base)
    → stored_member all (moved_name m name) (moved_span m span) (moved_place m place) u ns b ≡ option_map (moved_value m) (stored_member all name span place u ns b)
stored_member_moved m all name span place u [] (Tagged k) =
    let members = members_of (slice_get all k) in
    member_at_moved m members place u.is_const span (selected 0 name.text members)
stored_member_moved m all name span place u [] Void = refl
stored_member_moved m all name span place u [] (Integer a) = refl
stored_member_moved m all name span place u (n ∷ ns) b = refl

member_moved : (m : Move) (all : List Structure) (name : Name) (span : Span) (v : Value) → member_of all (moved_name m name) (moved_span m span) (moved_value m v) ≡ option_map (moved_value m) (member_of all name span v)
member_moved m all name span (Stored place u) = stored_member_moved m all name span place u u.lengths u.base
member_moved m all name span v = refl

undeclared_kept : (m : Move) (all : List Structure) (name : Name) (k : Option Kind) → undeclared_member all (moved_name m name) k ≡ undeclared_member all name k
undeclared_kept m all name None = refl
undeclared_kept m all name (Some (IsStructure k)) = refl
undeclared_kept m all name (Some k) = refl

pub member_goes : (m : Move) (name : Name) (span : Span) {x v : Found} → Follows m x v → Follows m (member_found (moved_name m name) (moved_span m span) x) (member_found name span v)
member_goes m name span {x = x} {v = v} h = record {
  faults = both h.faults (both (one_if m Mismatch span.start (same2 (λ (p : Bool) (k : Option Kind). not p || fails is_structure k) h.place (kind_same h)))
      (one_if m Undeclared name.span.start (same2 (λ (s : Scope) (k : Option Kind). undeclared_member s.structures (moved_name m name) k) h.scope (kind_same h) ∙ undeclared_kept m v.scope.structures name (kind_found v))));
  value = rw h.scope (exact (carried (member_of v.scope.structures (moved_name m name) (moved_span m span)) (member_of v.scope.structures name span) (moved_value m)
      (λ effect. refl) (member_moved m v.scope.structures name span) h.value));
  place = h.place;
  constant = refl;
  scope = h.scope;
}

-- ---- operators

numbers_moved : (m : Move) (o : Option t.Expression) → option_map Number (option_map (moved_number m) o) ≡ option_map (moved_value m) (option_map Number o)
numbers_moved m None = refl
numbers_moved m (Some e) = refl

unary_value : (m : Move) (operator : UnaryOperator) (span : Span) (e : Option t.Expression)
    → option_map Number (option_and_then (typed_unary operator (moved_span m span)) (option_map (moved_number m) e)) ≡ option_map (moved_value m) (option_map Number (option_and_then (typed_unary operator span) e))
unary_value m operator span None = refl
unary_value m operator span (Some e) = ap (option_map Number) (unary_moved m operator span e) ∙ numbers_moved m (typed_unary operator span e)

pub unary_goes : (m : Move) (operator : UnaryOperator) (span : Span) {x v : Found} → Follows m x v → Follows m (unary_found operator (moved_span m span) x) (unary_found operator span v)
unary_goes m operator span {x = x} {v = v} h = record {
  faults = both h.faults (one_if m Mismatch span.start (ap (λ (k : Option Kind). not (is_arithmetic operator) || fails is_integer k) (kind_same h)));
  value = rw (number_goes h) (exact (unary_value m operator span (number_found v)));
  place = refl;
  constant = ap (λ c. is_arithmetic operator && c) h.constant;
  scope = h.scope;
}

pub binary_goes : (m : Move) (operator : BinaryOperator) (span : Span) {x y v w : Found} → Follows m x v → Follows m y w → Follows m (binary_found operator (moved_span m span) x y) (binary_found operator span v w)
binary_goes m operator span {x = x} {y = y} {v = v} {w = w} h k = record {
  faults = both h.faults (both k.faults (one_if m Mismatch span.start (same2 (λ (a b : Option Kind). fails is_integer a || fails is_integer b) (kind_same h) (kind_same k))));
  value = rw (number_goes h, number_goes k) (exact (ap (option_map Number)
      (lift_moved (typed_binary operator (moved_span m span)) (typed_binary operator span) (moved_number m) (moved_number m) (moved_number m) (number_found v) (number_found w) (binary_moved m operator span))
      ∙ numbers_moved m (lift2 (typed_binary operator span) (number_found v) (number_found w))));
  place = refl;
  constant = same2 (λ (a b : Bool). a && b) h.constant k.constant;
  scope = k.scope;
}

-- ---- casts

cast_faults_to_go : (m : Move) (at : ℕ) (a : Expression) (b : Option Base) {k l : Option Kind} → k ≡ l → Shifts m (cast_faults_to (m.start at) (moved m a) k b) (cast_faults_to at a l b)
cast_faults_to_go m at a None e = one m Mismatch at
cast_faults_to_go m at a (Some Void) e = discarded_faults_go m a e
cast_faults_to_go m at a (Some (Integer i)) e = integer_faults_go m at e
cast_faults_to_go m at a (Some (Tagged n)) e = integer_faults_go m at e

cast_faults_go : (m : Move) (at : ℕ) (a : Expression) (type : Option CType) {k l : Option Kind} → k ≡ l → Shifts m (cast_faults (m.start at) (moved m a) k type) (cast_faults at a l type)
cast_faults_go m at a None e = none
cast_faults_go m at a (Some u) e = cast_faults_to_go m at a (cast_base u u.lengths) e

cast_value_moved : (m : Move) (span : Span) (b : Option Base) (v : Value) → cast_value_to (moved_span m span) (moved_value m v) b ≡ option_map (moved_value m) (cast_value_to span v b)
cast_value_moved m span (Some Void) v =
    ap (option_map (λ effect. Done (t.Discard effect (moved_span m span)))) (discarded_moved m v) ∙ effects_cast (discarded_in v)
  where
    effects_cast : (o : Option Effect) → option_map (λ effect. Done (t.Discard effect (moved_span m span))) (option_map (moved_effect m) o) ≡ option_map (moved_value m) (option_map (λ effect. Done (t.Discard effect span)) o)
    effects_cast None = refl
    effects_cast (Some effect) = refl
cast_value_moved m span (Some (Integer a)) v =
    ap (option_map (λ e. Number (t.Convert a true e (moved_span m span)))) (number_moved m v) ∙ numbers_cast (number_in v)
  where
    numbers_cast : (o : Option t.Expression) → option_map (λ e. Number (t.Convert a true e (moved_span m span))) (option_map (moved_number m) o) ≡ option_map (moved_value m) (option_map (λ e. Number (t.Convert a true e span)) o)
    numbers_cast None = refl
    numbers_cast (Some e) = refl
cast_value_moved m span (Some (Tagged k)) v = refl
cast_value_moved m span None v = refl

cast_assigned : (span : Span) (b : Option Base) (effect : Effect) → cast_value_to span (Assigned effect) b ≡ None
cast_assigned span None effect = refl
cast_assigned span (Some Void) effect = refl
cast_assigned span (Some (Integer a)) effect = refl
cast_assigned span (Some (Tagged k)) effect = refl

cast_like : (m : Move) (span : Span) (type : Option CType) {a b : Option Value} → Like m a b → Like m (cast_value (moved_span m span) type a) (cast_value span type b)
cast_like m span None h = exact refl
cast_like m span (Some u) h = exact (carried (λ w. cast_value_to (moved_span m span) w (cast_base u u.lengths)) (λ w. cast_value_to span w (cast_base u u.lengths)) (moved_value m)
    (cast_assigned (moved_span m span) (cast_base u u.lengths)) (cast_value_moved m span (cast_base u u.lengths)) h)

pub cast_goes : (m : Move) (span : Span) (a : Expression) {x y : Judged CType} {v w : Found} → Goes m Same x y → Follows m v w → Follows m (cast_found (moved_span m span) x (moved m a) v) (cast_found span y a w)
cast_goes m span a {x = x} {y = y} {v = v} {w = w} h k = record {
  faults = both h.faults (both k.faults (rw h.value (cast_faults_go m span.start a y.value (kind_same k))));
  value = rw h.value (cast_like m span y.value k.value);
  place = refl;
  constant = same2 (λ (c : Bool) (u : Option CType). c && may_cast_to_integer u) k.constant h.value;
  scope = k.scope;
}

-- ---- `?:`

choice_moved : (m : Move) (span : Span) (e f g : t.Expression) → choice_of (moved_span m span) (moved_number m e) (moved_number m f) (moved_number m g) ≡ moved_value m (choice_of span e f g)
choice_moved m span e f g = rw (common_kept m f g, convert_moved m (common_type f g) f, convert_moved m (common_type f g) g)

arms_of_numbers : (m : Move) (span : Span) (e : t.Expression) (v w : Value)
    → lift2 (choice_of (moved_span m span) (moved_number m e)) (number_in (moved_value m v)) (number_in (moved_value m w)) ≡ option_map (moved_value m) (lift2 (choice_of span e) (number_in v) (number_in w))
arms_of_numbers m span e v w =
    same2 (lift2 (choice_of (moved_span m span) (moved_number m e))) (number_moved m v) (number_moved m w)
    ∙ lift_moved (choice_of (moved_span m span) (moved_number m e)) (choice_of span e) (moved_value m) (moved_number m) (moved_number m) (number_in v) (number_in w) (choice_moved m span e)

arms_moved : (m : Move) (span : Span) (e : t.Expression) (v w : Value) → arms_value (moved_span m span) (moved_number m e) (moved_value m v) (moved_value m w) ≡ option_map (moved_value m) (arms_value span e v w)
arms_moved m span e (Done a) (Done b) = refl
arms_moved m span e (Done a) w = refl
arms_moved m span e (Number f) w = arms_of_numbers m span e (Number f) w
arms_moved m span e (Stored place u) w = arms_of_numbers m span e (Stored place u) w
arms_moved m span e v w = refl

arms_assigned : (span : Span) (e : t.Expression) (v : Value) (effect : Effect) → arms_value span e v (Assigned effect) ≡ None
arms_assigned span e (Done a) effect = refl
arms_assigned span e (Number f) effect = refl
arms_assigned span e (Stored place u) effect = lift_none (choice_of span e) (number_in (Stored place u))
arms_assigned span e v effect = refl

conditional_like : (m : Move) (span : Span) (e : Option t.Expression) {a b c d : Option Value} → Like m a b → Like m c d
    → Like m (conditional_value (moved_span m span) (option_map (moved_number m) e) a c) (conditional_value span e b d)
conditional_like m span None h k = exact refl
conditional_like m span (Some e) {c = c} {d = d} h k = exact (carried
    (λ one. option_and_then (arms_value (moved_span m span) (moved_number m e) one) c) (λ one. option_and_then (arms_value span e one) d) (moved_value m) (λ effect. then_none c)
    (λ v. carried (arms_value (moved_span m span) (moved_number m e) (moved_value m v)) (arms_value span e v) (moved_value m) (arms_assigned (moved_span m span) (moved_number m e) (moved_value m v))
    (arms_moved m span e v) k) h)

pub conditional_goes : (m : Move) (span : Span) {x y z u v w : Found} → Follows m x u → Follows m y v → Follows m z w → Follows m (conditional_found (moved_span m span) x y z) (conditional_found span u v w)
conditional_goes m span {u = u} h k l = record {
  faults = both h.faults (both k.faults (both l.faults (one_if m Mismatch span.start
      (same3 (λ (a b c : Option Kind). fails is_integer a || arms_fail b c) (kind_same h) (kind_same k) (kind_same l)))));
  value = rw (number_goes h) (conditional_like m span (number_found u) k.value l.value);
  place = refl;
  constant = same3 (λ (a b c : Bool). a && b && c) h.constant k.constant l.constant;
  scope = l.scope;
}

-- ---- assignments

const_settled : (v : Option Value) → is_const_value (option_map settled_value v) ≡ is_const_value v
const_settled None = refl
const_settled (Some (Assigned effect)) = refl
const_settled (Some v) = refl

const_moved : (m : Move) (v : Option Value) → is_const_value (option_map (moved_value m) v) ≡ is_const_value v
const_moved m None = refl
const_moved m (Some (Stored place u)) = refl
const_moved m (Some v) = refl

const_same : {m : Move} {a b : Option Value} → Like m a b → is_const_value a ≡ is_const_value b
const_same {m = m} {b = b} h = asked is_const_value (is_const_value b) const_settled (const_moved m b) h

target_same : (test : Kind → Bool) {m : Move} {x v : Found} → Follows m x v → target_fails test x.place x.value ≡ target_fails test v.place v.value
target_same test h = same3 (λ (p : Bool) (k : Option Kind) (c : Bool). not p || fails test k || c) h.place (kinds h.value) (const_same h.value)

assigned_moved : (m : Move) (o : Option Effect) → option_map Assigned (option_map (moved_effect m) o) ≡ option_map (moved_value m) (option_map Assigned o)
assigned_moved m None = refl
assigned_moved m (Some effect) = refl

abbrev Make : Type 0
Make = Value → Place → Base → List ℕ → Option Effect

on_moved : (m : Move) (f g : Make) {c d : Option Value} → ((effect : Effect) (place : Place) (b : Base) (ns : List ℕ) → f (Assigned effect) place b ns ≡ None)
    → ((v : Value) (place : Place) (b : Base) (ns : List ℕ) → f (moved_value m v) (moved_place m place) b ns ≡ option_map (moved_effect m) (g v place b ns)) → Like m c d
    → (v : Value) → option_and_then (effect_on f (moved_value m v)) c ≡ option_map (moved_value m) (option_and_then (effect_on g v) d)
on_moved m f g blind natural k (Stored place u) = carried (effect_on f (Stored (moved_place m place) u)) (effect_on g (Stored place u)) (moved_value m)
    (λ effect. ap (option_map Assigned) (blind effect (moved_place m place) u.base u.lengths))
    (λ v. ap (option_map Assigned) (natural v place u.base u.lengths) ∙ assigned_moved m (g v place u.base u.lengths)) k
on_moved m f g {c = c} {d = d} blind natural k v = then_none c ∙ ap (option_map (moved_value m)) (sym (then_none d))

assignment_like : (m : Move) (f g : Make) {a b c d : Option Value} → ((effect : Effect) (place : Place) (b : Base) (ns : List ℕ) → f (Assigned effect) place b ns ≡ None)
    → ((v : Value) (place : Place) (b : Base) (ns : List ℕ) → f (moved_value m v) (moved_place m place) b ns ≡ option_map (moved_effect m) (g v place b ns))
    → Like m a b → Like m c d → Like m (assignment_value f a c) (assignment_value g b d)
assignment_like m f g {c = c} {d = d} blind natural h k = exact (carried (λ one. option_and_then (effect_on f one) c) (λ one. option_and_then (effect_on g one) d) (moved_value m)
    (λ effect. then_none c) (on_moved m f g blind natural k) h)

assign_blind : (all : List Structure) (span : Span) (effect : Effect) (place : Place) (b : Base) (ns : List ℕ) → assign_effect all span (Assigned effect) place b ns ≡ None
assign_blind all span effect place (Integer a) [] = refl
assign_blind all span effect place (Tagged k) [] = refl
assign_blind all span effect place Void ns = refl
assign_blind all span effect place (Integer a) (n ∷ ns) = refl
assign_blind all span effect place (Tagged k) (n ∷ ns) = refl

assign_moved : (m : Move) (all : List Structure) (span : Span) (v : Value) (place : Place) (b : Base) (ns : List ℕ)
    → assign_effect all (moved_span m span) (moved_value m v) (moved_place m place) b ns ≡ option_map (moved_effect m) (assign_effect all span v place b ns)
assign_moved m all span v place (Integer a) [] =
    ap (option_map (λ e. t.Assign (moved_place m place) a (convert_to a e) (moved_span m span))) (number_moved m v)
    ∙ map_over (λ e. t.Assign (moved_place m place) a (convert_to a e) (moved_span m span)) (λ e. t.Assign place a (convert_to a e) span) (moved_effect m) (moved_number m) (number_in v)
    (λ e. ap (λ f. t.Assign (moved_place m place) a f (moved_span m span)) (convert_moved m a e))
assign_moved m all span v place (Tagged k) [] =
    ap (option_map (λ w. t.Copy (moved_place m place) w (cells_of all (plain (Tagged k))) (moved_span m span))) (structure_moved m k v)
    ∙ map_over (λ w. t.Copy (moved_place m place) w (cells_of all (plain (Tagged k))) (moved_span m span)) (λ w. t.Copy place w (cells_of all (plain (Tagged k))) span) (moved_effect m)
    (moved_structure m) (structure_in k v) (λ w. refl)
assign_moved m all span v place Void ns = refl
assign_moved m all span v place (Integer a) (n ∷ ns) = refl
assign_moved m all span v place (Tagged k) (n ∷ ns) = refl

assign_goes : (m : Move) (span : Span) {x y v w : Found} → Follows m x v → Follows m y w → Follows m (assign_found (moved_span m span) x y) (assign_found span v w)
assign_goes m span {w = w} h k = record {
  faults = both h.faults (both k.faults (one_if m Mismatch span.start (same3 (λ (a : Bool) (b c : Option Kind). a || sides_fail b c) (target_same is_assigned h) (kinds h.value) (kind_same k))));
  value = rw (k.scope) (assignment_like m (assign_effect w.scope.structures (moved_span m span)) (assign_effect w.scope.structures span)
      (assign_blind w.scope.structures (moved_span m span)) (assign_moved m w.scope.structures span) h.value k.value);
  place = refl;
  constant = refl;
  scope = k.scope;
}

common_update : (m : Move) (operator : BinOp) (place : Place) (a : IntType) (e : t.Expression) (span : Span)
    → update_in_common_type operator (moved_place m place) a (moved_number m e) (moved_span m span) ≡ moved_effect m (update_in_common_type operator place a e span)
common_update m operator place a e span =
    ap (λ c. t.Update (moved_place m place) a (Binary operator) (common_of a c) (convert_to (common_of a c) (moved_number m e)) (moved_span m span)) (type_kept m e)
    ∙ ap (λ f. t.Update (moved_place m place) a (Binary operator) (common_of a (type_of e)) f (moved_span m span)) (convert_moved m (common_of a (type_of e)) e)

update_moved : (m : Move) (operator : AssignmentOperator) (place : Place) (a : IntType) (e : t.Expression) (span : Span)
    → update_of operator (moved_place m place) a (moved_number m e) (moved_span m span) ≡ option_map (moved_effect m) (update_of operator place a e span)
update_moved m assign.Assign place a e span = refl
update_moved m assign.Multiply place a e span = ap Some (common_update m op.Mul place a e span)
update_moved m assign.Divide place a e span = ap Some (common_update m op.Div place a e span)
update_moved m assign.Remainder place a e span = ap Some (common_update m op.Rem place a e span)
update_moved m assign.Add place a e span = ap Some (common_update m op.Add place a e span)
update_moved m assign.Subtract place a e span = ap Some (common_update m op.Sub place a e span)
update_moved m assign.ShiftLeft place a e span = ap (λ f. Some (t.Update (moved_place m place) a (Shift shift.Left) (promoted a) f (moved_span m span))) (promote_moved m e)
update_moved m assign.ShiftRight place a e span = ap (λ f. Some (t.Update (moved_place m place) a (Shift shift.Right) (promoted a) f (moved_span m span))) (promote_moved m e)
update_moved m assign.BitAnd place a e span = ap Some (common_update m op.And place a e span)
update_moved m assign.BitXor place a e span = ap Some (common_update m op.Xor place a e span)
update_moved m assign.BitOr place a e span = ap Some (common_update m op.Or place a e span)

update_blind : (operator : AssignmentOperator) (span : Span) (effect : Effect) (place : Place) (b : Base) (ns : List ℕ) → update_effect operator span (Assigned effect) place b ns ≡ None
update_blind operator span effect place (Integer a) [] = refl
update_blind operator span effect place (Integer a) (n ∷ ns) = refl
update_blind operator span effect place b ns = refl

update_effect_moved : (m : Move) (operator : AssignmentOperator) (span : Span) (v : Value) (place : Place) (b : Base) (ns : List ℕ)
    → update_effect operator (moved_span m span) (moved_value m v) (moved_place m place) b ns ≡ option_map (moved_effect m) (update_effect operator span v place b ns)
update_effect_moved m operator span v place (Integer a) [] =
    ap (option_and_then (λ e. update_of operator (moved_place m place) a e (moved_span m span))) (number_moved m v)
    ∙ then_over (λ e. update_of operator (moved_place m place) a e (moved_span m span)) (λ e. update_of operator place a e span) (moved_effect m) (moved_number m) (number_in v)
    (λ e. update_moved m operator place a e span)
update_effect_moved m operator span v place (Integer a) (n ∷ ns) = refl
update_effect_moved m operator span v place b ns = refl

update_goes : (m : Move) (operator : AssignmentOperator) (span : Span) {x y v w : Found} → Follows m x v → Follows m y w → Follows m (update_found operator (moved_span m span) x y) (update_found operator span v w)
update_goes m operator span h k = record {
  faults = both h.faults (both k.faults (one_if m Mismatch span.start (same2 (λ (a : Bool) (b : Option Kind). a || fails is_integer b) (target_same is_integer h) (kind_same k))));
  value = assignment_like m (update_effect operator (moved_span m span)) (update_effect operator span) (update_blind operator (moved_span m span)) (update_effect_moved m operator span) h.value k.value;
  place = refl;
  constant = refl;
  scope = k.scope;
}

pub assignment_goes : (m : Move) (operator : AssignmentOperator) (span : Span) {x y v w : Found} → Follows m x v → Follows m y w → Follows m (assignment_found operator (moved_span m span) x y) (assignment_found operator span v w)
assignment_goes m assign.Assign span h k = assign_goes m span h k
assignment_goes m assign.Multiply span h k = update_goes m assign.Multiply span h k
assignment_goes m assign.Divide span h k = update_goes m assign.Divide span h k
assignment_goes m assign.Remainder span h k = update_goes m assign.Remainder span h k
assignment_goes m assign.Add span h k = update_goes m assign.Add span h k
assignment_goes m assign.Subtract span h k = update_goes m assign.Subtract span h k
assignment_goes m assign.ShiftLeft span h k = update_goes m assign.ShiftLeft span h k
assignment_goes m assign.ShiftRight span h k = update_goes m assign.ShiftRight span h k
assignment_goes m assign.BitAnd span h k = update_goes m assign.BitAnd span h k
assignment_goes m assign.BitXor span h k = update_goes m assign.BitXor span h k
assignment_goes m assign.BitOr span h k = update_goes m assign.BitOr span h k

-- ---- steps, whose 1 may stand anywhere

abbrev one_at : Span → t.Expression
one_at span = t.Constant (pos 1) the.Int span

one_settled : (m : Move) (b : IntType) (at from : Span) → settled_operand (convert_to b (one_at at)) ≡ settled_operand (moved_number m (convert_to b (one_at from)))
one_settled m b at from = by_test (same_integer the.Int b)
  where
    by_test : (c : Bool) → settled_operand (if c then one_at at else t.Convert b false (one_at at) at) ≡ settled_operand (moved_number m (if c then one_at from else t.Convert b false (one_at from) from))
    by_test true = refl
    by_test false = refl

step_common : (m : Move) (operator : BinOp) (place : Place) (a : IntType) (at from span : Span)
    → Like m (Some (Assigned (update_in_common_type operator (moved_place m place) a (one_at at) (moved_span m span)))) (Some (Assigned (update_in_common_type operator place a (one_at from) span)))
step_common m operator place a at from span = record {
  is = ap (λ e. Some (Assigned (t.Update (moved_place m place) a (Binary operator) (common_of a the.Int) e (moved_span m span)))) (one_settled m (common_of a the.Int) at from);
}

step_stored : (m : Move) (operator : StepOperator) (at from span : Span) (place : Place) (b : Base) (ns : List ℕ)
    → Like m (option_map Assigned (update_effect (step_operator operator) (moved_span m span) (Number (one_at at)) (moved_place m place) b ns)) (option_map Assigned (update_effect (step_operator operator) span (Number (one_at from)) place b ns))
step_stored m step.Increment at from span place (Integer a) [] = step_common m op.Add place a at from span
step_stored m step.Decrement at from span place (Integer a) [] = step_common m op.Sub place a at from span
step_stored m operator at from span place (Integer a) (n ∷ ns) = exact refl
step_stored m operator at from span place b ns = exact refl

step_on : (m : Move) (operator : StepOperator) (at from span : Span) (v : Value)
    → Like m (effect_on (update_effect (step_operator operator) (moved_span m span)) (moved_value m v) (Number (one_at at))) (effect_on (update_effect (step_operator operator) span) v (Number (one_at from)))
step_on m operator at from span (Stored place u) = step_stored m operator at from span place u.base u.lengths
step_on m operator at from span v = exact refl

pub step_goes : (m : Move) (operator : StepOperator) (at from span : Span) {x v : Found} → Follows m x v → Follows m (step_found operator at (moved_span m span) x) (step_found operator from span v)
step_goes m operator at from span h = record {
  faults = both h.faults (one_if m Mismatch span.start (ap (λ (a : Bool). a || false) (target_same is_integer h)));
  value = carried_like (λ one. effect_on (update_effect (step_operator operator) (moved_span m span)) one (Number (one_at at)))
      (λ one. effect_on (update_effect (step_operator operator) span) one (Number (one_at from))) (λ effect. refl) (step_on m operator at from span) h.value;
  place = refl;
  constant = refl;
  scope = h.scope;
}
