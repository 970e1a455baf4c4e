-- Values of expressions at other places.
use Rattle.std.proofs.Common.{◌≡◌, ℕ, ◌==◌, Bool, true, false, if◌then◌else◌, List, [], ◌∷◌, Option, Some, None, option_map, option_and_then, refl, sym, ap, ◌∙◌}
use Rattle.mc_tree.specs.Tree.{Expression}
use Rattle.mc_tree.specs.Tree as tree
use Rattle.mc_typed.specs.Tree.{Place, StructureValue, Effect}
use Rattle.mc_typed.specs.Tree as t
use Rattle.types_faults.specs.declared.fault.FaultKind.TheVariants.{Mismatch}
use Rattle.types_rules.specs.Types.{Base, Void, Integer, Tagged}
use Rattle.types_rules.specs.Values.{Value, Number, Stored, Borrowed, Returned, Done, Assigned, Designator, Kind, IsVoid, IsAssignment, IsInteger, IsStructure, IsArray, IsFunction, kind_of, Found, kind_found, part, is_integer, is_effect, is_discarded, fails, integer_faults, number_stored, number_in, structure_stored, structure_in, any_structure_in, number_found, value_effect, discarded_in, effect_in, whole, bare_start, effect_faults, discarded_faults, lift2}
use Rattle.types_rules.specs.Constants.{value_of_constant, constant_found, constant_faults}
use Rattle.reread_law_texts.specs.alike.Moves.{Move}
use Rattle.reread_law_texts.specs.alike.Trees.{moved}
use Rattle.reread_law_places.specs.natural.Moved.{moved_place, moved_number, moved_structure, moved_call, moved_effect}
use Rattle.reread_law_places.specs.natural.Settled.{settled_operand, settled_effect}
use Rattle.reread_law_places.specs.natural.Found.{moved_value, settled_value}
use Rattle.reread_law_places.proofs.Natural.Basics.{Shifts, one_if, Goes}
use Rattle.reread_law_places.proofs.Natural.Numbers.{value_constant, constant_faults_go}

-- the first value is the second, moved, but for the places that are settled
pub record Like (m : Move) (a b : Option Value) : Type 0 where
  pub is : option_map settled_value a ≡ option_map settled_value (option_map (moved_value m) b)

pub exact : {m : Move} {a b : Option Value} → a ≡ option_map (moved_value m) b → Like m a b
exact h = record { is = ap (option_map settled_value) h }

pub record Follows (m : Move) (x y : Found) : Type 0 where
  pub faults : Shifts m x.faults y.faults
  pub value : Like m x.value y.value
  pub place : x.place ≡ y.place
  pub constant : x.constant ≡ y.constant
  pub scope : x.scope ≡ y.scope

pub part_goes : {m : Move} {x y : Found} → Follows m x y → Goes m (Like m) (part x) (part y)
part_goes h = record { faults = h.faults; value = h.value; scope = h.scope }

-- ---- what is asked of a value

-- A function that does not look into an assignment gives the same for both.
pub asked : {A : Type 0} {m : Move} {a b : Option Value} (f : Option Value → A) (c : A) → ((v : Option Value) → f (option_map settled_value v) ≡ f v) → f (option_map (moved_value m) b) ≡ c → Like m a b → f a ≡ c
asked {m = m} {a = a} {b = b} f c blind natural h = sym (blind a) ∙ ap f h.is ∙ blind (option_map (moved_value m) b) ∙ natural

blind_to : {A : Type 0} (g : Value → Option A) → ((effect : Effect) → g (Assigned effect) ≡ None) → (v : Option Value) → option_and_then g (option_map settled_value v) ≡ option_and_then g v
blind_to g h None = refl
blind_to g h (Some (Assigned effect)) = h (settled_effect effect) ∙ sym (h effect)
blind_to g h (Some v) = refl

then_moved : {A : Type 0} (m : Move) (f g : Value → Option A) (h : A → A) (v : Option Value) → ((w : Value) → f (moved_value m w) ≡ option_map h (g w)) → option_and_then f (option_map (moved_value m) v) ≡ option_map h (option_and_then g v)
then_moved m f g h None e = refl
then_moved m f g h (Some w) e = e w

-- One that gives nothing for an assignment, and what is moved for what is moved.
pub carried : {A : Type 0} {m : Move} {a b : Option Value} (f g : Value → Option A) (h : A → A) → ((effect : Effect) → f (Assigned effect) ≡ None) → ((v : Value) → f (moved_value m v) ≡ option_map h (g v)) → Like m a b → option_and_then f a ≡ option_map h (option_and_then g b)
carried {A = A} {m = m} {b = b} f g h blind natural like =
    asked (option_and_then f) (option_map h (option_and_then g b)) (blind_to f blind) (then_moved m f g h b natural) like

-- The same, where what it gives may have such a place too.
pub carried_like : {m : Move} {a b : Option Value} (f g : Value → Option Value) → ((effect : Effect) → f (Assigned effect) ≡ None) → ((v : Value) → Like m (f (moved_value m v)) (g v)) → Like m a b → Like m (option_and_then f a) (option_and_then g b)
carried_like {m = m} {b = b} f g blind natural like = record {
  is = asked (λ v. option_map settled_value (option_and_then f v)) (option_map settled_value (option_map (moved_value m) (option_and_then g b)))
      (λ v. ap (option_map settled_value) (blind_to f blind v)) (by_value b) like;
}
  where
    by_value : (v : Option Value) → option_map settled_value (option_and_then f (option_map (moved_value m) v)) ≡ option_map settled_value (option_map (moved_value m) (option_and_then g v))
    by_value None = refl
    by_value (Some w) = (natural w).is

abbrev nothing : {A B : Type 0} → A → Option B
nothing a = None

pub then_none : {A B : Type 0} (o : Option A) → option_and_then (nothing {A = A} {B = B}) o ≡ None
then_none None = refl
then_none (Some a) = refl

pub lift_none : {A B C : Type 0} (f : A → B → C) (o : Option A) → lift2 f o None ≡ None
lift_none f None = refl
lift_none f (Some a) = refl

-- ---- kinds

kind_moved : (m : Move) (v : Value) → kind_of (moved_value m v) ≡ kind_of v
kind_moved m (Number e) = refl
kind_moved m (Stored place u) = refl
kind_moved m (Borrowed array u span) = refl
kind_moved m (Returned c k) = refl
kind_moved m (Done effect) = refl
kind_moved m (Assigned effect) = refl
kind_moved m Designator = refl

kinds_moved : (m : Move) (v : Option Value) → option_map kind_of (option_map (moved_value m) v) ≡ option_map kind_of v
kinds_moved m None = refl
kinds_moved m (Some v) = ap Some (kind_moved m v)

kind_settled : (v : Option Value) → option_map kind_of (option_map settled_value v) ≡ option_map kind_of v
kind_settled None = refl
kind_settled (Some (Assigned effect)) = refl
kind_settled (Some v) = refl

pub kinds : {m : Move} {a b : Option Value} → Like m a b → option_map kind_of a ≡ option_map kind_of b
kinds {m = m} {b = b} h = asked (option_map kind_of) (option_map kind_of b) kind_settled (kinds_moved m b) h

pub kind_same : {m : Move} {x y : Found} → Follows m x y → kind_found x ≡ kind_found y
kind_same h = kinds h.value

-- ---- numbers and structures

stored_number : (m : Move) (place : Place) (b : Base) (ns : List ℕ) → number_stored (moved_place m place) b ns ≡ option_map (moved_number m) (number_stored place b ns)
stored_number m place Void ns = refl
stored_number m place (Integer a) [] = refl
stored_number m place (Integer a) (n ∷ ns) = refl
stored_number m place (Tagged k) ns = refl

pub number_moved : (m : Move) (v : Value) → number_in (moved_value m v) ≡ option_map (moved_number m) (number_in v)
number_moved m (Number e) = refl
number_moved m (Stored place u) = stored_number m place u.base u.lengths
number_moved m (Borrowed array u span) = refl
number_moved m (Returned c k) = refl
number_moved m (Done effect) = refl
number_moved m (Assigned effect) = refl
number_moved m Designator = refl

pub numbers : {m : Move} {a b : Option Value} → Like m a b → option_and_then number_in a ≡ option_map (moved_number m) (option_and_then number_in b)
numbers {m = m} h = carried number_in number_in (moved_number m) (λ effect. refl) (number_moved m) h

pub number_goes : {m : Move} {x y : Found} → Follows m x y → number_found x ≡ option_map (moved_number m) (number_found y)
number_goes h = numbers h.value

stored_structure : (m : Move) (k : ℕ) (place : Place) (b : Base) (ns : List ℕ) → structure_stored k (moved_place m place) b ns ≡ option_map (moved_structure m) (structure_stored k place b ns)
stored_structure m k place Void ns = refl
stored_structure m k place (Integer a) ns = refl
stored_structure m k place (Tagged j) (n ∷ ns) = refl
stored_structure m k place (Tagged j) [] = by_test (j == k)
  where
    by_test : (b : Bool) → (if b then Some (t.Stored (moved_place m place)) else None) ≡ option_map (moved_structure m) (if b then Some (t.Stored place) else None)
    by_test true = refl
    by_test false = refl

pub structure_moved : (m : Move) (k : ℕ) (v : Value) → structure_in k (moved_value m v) ≡ option_map (moved_structure m) (structure_in k v)
structure_moved m k (Number e) = refl
structure_moved m k (Stored place u) = stored_structure m k place u.base u.lengths
structure_moved m k (Borrowed array u span) = refl
structure_moved m k (Returned c j) = by_test (j == k)
  where
    by_test : (b : Bool) → (if b then Some (t.Returned (moved_call m c)) else None) ≡ option_map (moved_structure m) (if b then Some (t.Returned c) else None)
    by_test true = refl
    by_test false = refl
structure_moved m k (Done effect) = refl
structure_moved m k (Assigned effect) = refl
structure_moved m k Designator = refl

any_structure_moved : (m : Move) (k : Kind) (v : Value) → any_structure_in k (moved_value m v) ≡ option_map (moved_structure m) (any_structure_in k v)
any_structure_moved m IsVoid v = refl
any_structure_moved m IsAssignment v = refl
any_structure_moved m IsInteger v = refl
any_structure_moved m (IsStructure k) v = structure_moved m k v
any_structure_moved m (IsArray u) v = refl
any_structure_moved m IsFunction v = refl

-- ---- effects

value_effect_moved : (m : Move) (e : Option t.Expression) (w : Option StructureValue) → value_effect (option_map (moved_number m) e) (option_map (moved_structure m) w) ≡ option_map (moved_effect m) (value_effect e w)
value_effect_moved m (Some e) w = refl
value_effect_moved m None (Some w) = refl
value_effect_moved m None None = refl

used_moved : (m : Move) (v : Value) → value_effect (number_in (moved_value m v)) (any_structure_in (kind_of (moved_value m v)) (moved_value m v)) ≡ option_map (moved_effect m) (value_effect (number_in v) (any_structure_in (kind_of v) v))
used_moved m v =
    ap (λ e. value_effect e (any_structure_in (kind_of (moved_value m v)) (moved_value m v))) (number_moved m v)
    ∙ ap (λ k. value_effect (option_map (moved_number m) (number_in v)) (any_structure_in k (moved_value m v))) (kind_moved m v)
    ∙ ap (value_effect (option_map (moved_number m) (number_in v))) (any_structure_moved m (kind_of v) v)
    ∙ value_effect_moved m (number_in v) (any_structure_in (kind_of v) v)

pub discarded_moved : (m : Move) (v : Value) → discarded_in (moved_value m v) ≡ option_map (moved_effect m) (discarded_in v)
discarded_moved m (Done effect) = refl
discarded_moved m (Number e) = used_moved m (Number e)
discarded_moved m (Stored place u) = used_moved m (Stored place u)
discarded_moved m (Borrowed array u span) = used_moved m (Borrowed array u span)
discarded_moved m (Returned c k) = used_moved m (Returned c k)
discarded_moved m (Assigned effect) = used_moved m (Assigned effect)
discarded_moved m Designator = used_moved m Designator

effect_moved : (m : Move) (v : Value) → effect_in (moved_value m v) ≡ option_map (moved_effect m) (effect_in v)
effect_moved m (Assigned effect) = refl
effect_moved m (Number e) = discarded_moved m (Number e)
effect_moved m (Stored place u) = discarded_moved m (Stored place u)
effect_moved m (Borrowed array u span) = discarded_moved m (Borrowed array u span)
effect_moved m (Returned c k) = discarded_moved m (Returned c k)
effect_moved m (Done effect) = discarded_moved m (Done effect)
effect_moved m Designator = discarded_moved m Designator

-- the first effect is the second, moved, but for the places that are settled
pub record Acts (m : Move) (a b : Option Effect) : Type 0 where
  pub is : option_map settled_effect a ≡ option_map settled_effect (option_map (moved_effect m) b)

-- settling settles all of an effect
twice_operand : (e : t.Expression) → settled_operand (settled_operand e) ≡ settled_operand e
twice_operand (t.Constant v a span) = refl
twice_operand (t.Convert a true e span) = refl
twice_operand (t.Convert a false (t.Constant v b place) span) = refl
twice_operand (t.Convert a false e span) = refl
twice_operand e = refl

twice_settled : (effect : Effect) → settled_effect (settled_effect effect) ≡ settled_effect effect
twice_settled (t.Update target a operator common e span) = ap (λ f. t.Update target a operator common f span) (twice_operand e)
twice_settled (t.ChoiceEffect e a b span) = rw (twice_settled a, twice_settled b)
twice_settled (t.Discard effect span) = rw (twice_settled effect)
twice_settled effect = refl

effects_settled : (v : Option Value) → option_map settled_effect (option_and_then effect_in (option_map settled_value v)) ≡ option_map settled_effect (option_and_then effect_in v)
effects_settled None = refl
effects_settled (Some (Assigned effect)) = ap Some (twice_settled effect)
effects_settled (Some v) = refl

effects_moved : (m : Move) (v : Option Value) → option_and_then effect_in (option_map (moved_value m) v) ≡ option_map (moved_effect m) (option_and_then effect_in v)
effects_moved m None = refl
effects_moved m (Some v) = effect_moved m v

pub effects : {m : Move} {a b : Option Value} → Like m a b → Acts m (option_and_then effect_in a) (option_and_then effect_in b)
effects {m = m} {b = b} h = record {
  is = asked (λ v. option_map settled_effect (option_and_then effect_in v)) (option_map settled_effect (option_map (moved_effect m) (option_and_then effect_in b)))
      effects_settled (ap (option_map settled_effect) (effects_moved m b)) h;
}

-- whole effects

whole_settled : (effect : Effect) → settled_effect (whole effect) ≡ whole (settled_effect effect)
whole_settled (t.NumberEffect e b) = refl
whole_settled (t.StructureEffect value b) = refl
whole_settled (t.Discard effect span) = rw (whole_settled effect)
whole_settled (t.Assign target a e span) = refl
whole_settled (t.Update target a operator common e span) = refl
whole_settled (t.Copy target value n span) = refl
whole_settled (t.CallEffect c) = refl
whole_settled (t.Output e span) = refl
whole_settled (t.ChoiceEffect e a b span) = refl

whole_moved : (m : Move) (effect : Effect) → moved_effect m (whole effect) ≡ whole (moved_effect m effect)
whole_moved m (t.NumberEffect e b) = refl
whole_moved m (t.StructureEffect value b) = refl
whole_moved m (t.Discard effect span) = rw (whole_moved m effect)
whole_moved m (t.Assign target a e span) = refl
whole_moved m (t.Update target a operator common e span) = refl
whole_moved m (t.Copy target value n span) = refl
whole_moved m (t.CallEffect c) = refl
whole_moved m (t.Output e span) = refl
whole_moved m (t.ChoiceEffect e a b span) = refl

wholes_settled : (a : Option Effect) → option_map settled_effect (option_map whole a) ≡ option_map whole (option_map settled_effect a)
wholes_settled None = refl
wholes_settled (Some a) = ap Some (whole_settled a)

wholes_moved : (m : Move) (a : Option Effect) → option_map (moved_effect m) (option_map whole a) ≡ option_map whole (option_map (moved_effect m) a)
wholes_moved m None = refl
wholes_moved m (Some a) = ap Some (whole_moved m a)

pub wholes : {m : Move} {a b : Option Effect} → Acts m a b → Acts m (option_map whole a) (option_map whole b)
wholes {m = m} {a = a} {b = b} h = record {
  is = wholes_settled a ∙ ap (option_map whole) h.is ∙ sym (wholes_settled (option_map (moved_effect m) b)) ∙ ap (option_map settled_effect) (sym (wholes_moved m b));
}

-- ---- faults

pub integer_faults_go : (m : Move) (at : ℕ) {k l : Option Kind} → k ≡ l → Shifts m (integer_faults (m.start at) k) (integer_faults at l)
integer_faults_go m at e = one_if m Mismatch at (ap (fails is_integer) e)

bare_kept : (m : Move) (a : Expression) → bare_start (moved m a) ≡ m.start (bare_start a)
bare_kept m (tree.Parenthesized a span) = bare_kept m a
bare_kept m a = refl

pub effect_faults_go : (m : Move) (a : Expression) {k l : Option Kind} → k ≡ l → Shifts m (effect_faults (moved m a) k) (effect_faults a l)
effect_faults_go m a {k = k} {l = l} e = rw (bare_kept m a) (one_if m Mismatch (bare_start a) (ap (fails is_effect) e))

pub discarded_faults_go : (m : Move) (a : Expression) {k l : Option Kind} → k ≡ l → Shifts m (discarded_faults (moved m a) k) (discarded_faults a l)
discarded_faults_go m a {k = k} {l = l} e = rw (bare_kept m a) (one_if m Mismatch (bare_start a) (ap (fails is_discarded) e))

-- ---- constants

pub constant_same : {m : Move} {x y : Found} → Follows m x y → constant_found x ≡ constant_found y
constant_same {m = m} {x = x} {y = y} h =
    ap (λ b. value_of_constant b (number_found x)) h.constant ∙ ap (value_of_constant y.constant) (number_goes h) ∙ value_constant m y.constant (number_found y)

pub constant_found_faults : {m : Move} {x y : Found} (at : ℕ) → Follows m x y → Shifts m (constant_faults (m.start at) x.constant (number_found x)) (constant_faults at y.constant (number_found y))
constant_found_faults {m = m} {y = y} at h = constant_faults_go m at (number_found y) h.constant (number_goes h)
