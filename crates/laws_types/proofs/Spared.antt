-- A part whose type is missing brings no fault.
use Rattle.std.proofs.Common.{◌≡◌, refl, sym, subst, ℕ, Bool, true, false, not, ◌||◌, ◌++◌, List, [], ◌∷◌, Option, Some, None}
use Rattle.mc_tree.specs.Tree.{Expression}
use Rattle.types_faults.specs.declared.fault.Fault.{Fault}
use Rattle.types_faults.specs.declared.fault.FaultKind.TheVariants.{Mismatch, Undeclared}
use Rattle.types_faults.specs.Faults.{fault_if}
use Rattle.types_rules.specs.Types.{Base, Void, Integer, Tagged, CType, ParameterKind}
use Rattle.types_rules.specs.Values.{Value, Kind, IsVoid, IsAssignment, IsInteger, IsStructure, IsArray, IsFunction, is_integer, is_array, is_structure, fails, kind_of}
use Rattle.types_rules.specs.Expressions.{is_arithmetic, cast_base, cast_faults_to, cast_faults, undeclared_member, is_arm, are_arms, arms_fail, is_assigned, is_const_value, target_fails, sides_fit, assign_faults, update_faults}
use Rattle.types_rules.specs.Calls.{argument_faults}
use Rattle.types_rules.specs.Initializers.{Target, Missing, ScalarTarget, ArrayTarget, StructureTarget, item_faults}
use Rattle.types_rules.specs.Statements.{is_compound, return_faults}
use Rattle.laws_types.specs.Silence.{MissingIsSpared}

abbrev HasOne : List Fault → Type 0
HasOne [] = ⊥
HasOne (f ∷ fs) = Unit {0}

-- one test of several
first : (b c : Bool) (at : ℕ) → fault_if (b || c) Mismatch at ≡ [] → fault_if (false || c) Mismatch at ≡ []
first true c at h = absurd (subst HasOne h tt)
first false c at h = h

second : (a b : Bool) (at : ℕ) → fault_if (a || b) Mismatch at ≡ [] → fault_if (a || false) Mismatch at ≡ []
second true b at h = h
second false b at h = refl

middle : (a b c : Bool) (at : ℕ) → fault_if (a || b || c) Mismatch at ≡ [] → fault_if (a || false || c) Mismatch at ≡ []
middle true b c at h = h
middle false true c at h = absurd (subst HasOne h tt)
middle false false c at h = h

member_spared : (a b c : Bool) (at k : ℕ) → fault_if (a || b) Mismatch at ++ fault_if c Undeclared k ≡ [] → fault_if (a || false) Mismatch at ++ fault_if false Undeclared k ≡ []
member_spared true b c at k h = absurd (subst HasOne h tt)
member_spared false b c at k h = refl

cast_spared : (at : ℕ) (e : Expression) (o : Option Base) (u : CType) (k : Kind) → cast_base u u.lengths ≡ o → cast_faults at e (Some k) (Some u) ≡ [] → cast_faults at e None (Some u) ≡ []
cast_spared at e None u k q h = absurd (subst HasOne h (subst (λ o. HasOne (cast_faults_of o)) (sym q) tt))
  where
    cast_faults_of : Option Base → List Fault
    cast_faults_of o = cast_faults_to at e (Some k) o
cast_spared at e (Some Void) u k q h = λ i. cast_faults_to at e None (q i)
cast_spared at e (Some (Integer a)) u k q h = λ i. cast_faults_to at e None (q i)
cast_spared at e (Some (Tagged n)) u k q h = λ i. cast_faults_to at e None (q i)

returned_spared : (result : Option Base) (at : ℕ) (k : Kind) → return_faults result at (Some k) ≡ [] → return_faults result at None ≡ []
returned_spared None at k h = refl
returned_spared (Some Void) at k h = absurd (subst HasOne h tt)
returned_spared (Some (Integer a)) at k h = refl
returned_spared (Some (Tagged n)) at k h = refl

initial_spared : (static : Bool) (target : Target) (at : ℕ) (k : Kind) → item_faults static target at (Some k) ≡ [] → item_faults static target at None ≡ []
initial_spared static Missing at k h = refl
initial_spared static (ScalarTarget u) at k h = refl
initial_spared static (ArrayTarget n u) at k h = absurd (subst HasOne h tt)
initial_spared true (StructureTarget n ms) at k h = absurd (subst HasOne h tt)
initial_spared false (StructureTarget n ms) at k h = refl

argument_spared : (at : ℕ) (p : Option ParameterKind) (k : Kind) → argument_faults at p (Some k) ≡ [] → argument_faults at p None ≡ []
argument_spared at None k h = refl
argument_spared at (Some p) k h = refl

converted_spared : (at : ℕ) (e : Expression) (u : Option CType) (k : Kind) → cast_faults at e (Some k) u ≡ [] → cast_faults at e None u ≡ []
converted_spared at e None k h = refl
converted_spared at e (Some u) k h = cast_spared at e (cast_base u u.lengths) u k refl h

-- ---- `?:`

all_false : (b : Bool) (at : ℕ) → fault_if b Mismatch at ≡ [] → b ≡ false
all_false true at h = absurd (subst HasOne h tt)
all_false false at h = refl

-- what fits something is of a kind that can
abbrev Fit : Bool → Bool → Bool → Type 0
Fit fit one other = not fit ≡ false → (not one ≡ false) × (not other ≡ false)

arms_fit : (k l : Kind) → Fit (are_arms k l) (is_arm k) (is_arm l)
arms_fit IsVoid IsVoid h = (refl, refl)
arms_fit IsVoid IsAssignment h = absurd (cc)
arms_fit IsVoid IsInteger h = absurd (cc)
arms_fit IsVoid (IsStructure n) h = absurd (cc)
arms_fit IsVoid (IsArray u) h = absurd (cc)
arms_fit IsVoid IsFunction h = absurd (cc)
arms_fit IsInteger IsVoid h = absurd (cc)
arms_fit IsInteger IsAssignment h = absurd (cc)
arms_fit IsInteger IsInteger h = (refl, refl)
arms_fit IsInteger (IsStructure n) h = absurd (cc)
arms_fit IsInteger (IsArray u) h = absurd (cc)
arms_fit IsInteger IsFunction h = absurd (cc)
arms_fit IsAssignment l h = absurd (cc)
arms_fit (IsStructure n) l h = absurd (cc)
arms_fit (IsArray u) l h = absurd (cc)
arms_fit IsFunction l h = absurd (cc)

one_arm_spared : (a : Bool) (at : ℕ) (k : Kind) (m : Option Kind) → fault_if (a || arms_fail (Some k) m) Mismatch at ≡ [] → fault_if (a || arms_fail None m) Mismatch at ≡ []
one_arm_spared true at k m h = h
one_arm_spared false at k None h = refl
one_arm_spared false at k (Some l) h = λ i. fault_if ((arms_fit k l (all_false (not (are_arms k l)) at h)).1 i) Mismatch at

other_arm_spared : (a : Bool) (at : ℕ) (l : Option Kind) (k : Kind) → fault_if (a || arms_fail l (Some k)) Mismatch at ≡ [] → fault_if (a || arms_fail l None) Mismatch at ≡ []
other_arm_spared true at l k h = h
other_arm_spared false at None k h = refl
other_arm_spared false at (Some l) k h = λ i. fault_if ((arms_fit l k (all_false (not (are_arms l k)) at h)).0 i) Mismatch at

-- ---- assignments

sides_are_assigned : (k l : Kind) → Fit (sides_fit k l) (is_assigned k) (is_assigned l)
sides_are_assigned IsInteger IsVoid h = absurd (cc)
sides_are_assigned IsInteger IsAssignment h = absurd (cc)
sides_are_assigned IsInteger IsInteger h = (refl, refl)
sides_are_assigned IsInteger (IsStructure n) h = absurd (cc)
sides_are_assigned IsInteger (IsArray u) h = absurd (cc)
sides_are_assigned IsInteger IsFunction h = absurd (cc)
sides_are_assigned (IsStructure n) IsVoid h = absurd (cc)
sides_are_assigned (IsStructure n) IsAssignment h = absurd (cc)
sides_are_assigned (IsStructure n) IsInteger h = absurd (cc)
sides_are_assigned (IsStructure n) (IsStructure m) h = (refl, refl)
sides_are_assigned (IsStructure n) (IsArray u) h = absurd (cc)
sides_are_assigned (IsStructure n) IsFunction h = absurd (cc)
sides_are_assigned IsVoid l h = absurd (cc)
sides_are_assigned IsAssignment l h = absurd (cc)
sides_are_assigned (IsArray u) l h = absurd (cc)
sides_are_assigned IsFunction l h = absurd (cc)

assigned_spared : (at : ℕ) (place : Bool) (v : Option Value) (l : Kind) → assign_faults at place v (Some l) ≡ [] → assign_faults at place v None ≡ []
assigned_spared at place None l h = second (target_fails is_assigned place None) (fails is_assigned (Some l)) at h
assigned_spared at place (Some v) l h = by_target (target_fails is_assigned place (Some v)) h
  where
    by_target : (a : Bool) → fault_if (a || not (sides_fit (kind_of v) l)) Mismatch at ≡ [] → fault_if (a || fails is_assigned (Some (kind_of v))) Mismatch at ≡ []
    by_target true h = h
    by_target false h = λ i. fault_if ((sides_are_assigned (kind_of v) l (all_false (not (sides_fit (kind_of v) l)) at h)).0 i) Mismatch at

-- a place that is known to be one
target_spared : (at : ℕ) (place : Bool) (l : Option Kind) (v : Value) → assign_faults at place (Some v) l ≡ [] → assign_faults at place None l ≡ []
target_spared at false l v h = absurd (subst HasOne h tt)
target_spared at true None v h = refl
target_spared at true (Some l) v h = by_tests (fails is_assigned (Some (kind_of v))) (is_const_value (Some v)) h
  where
    by_tests : (a b : Bool) → fault_if (false || a || b || not (sides_fit (kind_of v) l)) Mismatch at ≡ [] → fault_if (false || false || false || fails is_assigned (Some l)) Mismatch at ≡ []
    by_tests true b h = absurd (subst HasOne h tt)
    by_tests false true h = absurd (subst HasOne h tt)
    by_tests false false h = λ i. fault_if ((sides_are_assigned (kind_of v) l (all_false (not (sides_fit (kind_of v) l)) at h)).1 i) Mismatch at

updated_spared : (at : ℕ) (place : Bool) (l : Option Kind) (v : Value) → update_faults at place (Some v) l ≡ [] → update_faults at place None l ≡ []
updated_spared at false l v h = absurd (subst HasOne h tt)
updated_spared at true l v h = by_tests (fails is_integer (Some (kind_of v))) (is_const_value (Some v)) h
  where
    by_tests : (a b : Bool) → fault_if (false || a || b || fails is_integer l) Mismatch at ≡ [] → fault_if (false || false || false || fails is_integer l) Mismatch at ≡ []
    by_tests true b h = absurd (subst HasOne h tt)
    by_tests false true h = absurd (subst HasOne h tt)
    by_tests false false h = h

pub missing_spared : MissingIsSpared
missing_spared = record {
  controlling = λ at k h. refl;
  evaluated = λ e k h. refl;
  discarded = λ e k h. refl;
  operand = λ operator at k h. second (not (is_arithmetic operator)) (fails is_integer (Some k)) at h;
  left = λ at l k h. first (fails is_integer (Some k)) (fails is_integer l) at h;
  right = λ at k l h. second (fails is_integer k) (fails is_integer (Some l)) at h;
  array = λ at place l k h. middle (not place) (fails is_array (Some k)) (fails is_integer l) at h;
  index = λ at place k l h. second (not place || fails is_array k) (fails is_integer (Some l)) at h;
  structure = λ at name all place k h. member_spared (not place) (fails is_structure (Some k)) (undeclared_member all name (Some k)) at name.span.start h;
  converted = converted_spared;
  tested = λ at l m k h. first (fails is_integer (Some k)) (arms_fail l m) at h;
  one_arm = λ at k m l h. one_arm_spared (fails is_integer k) at l m h;
  other_arm = λ at k l m h. other_arm_spared (fails is_integer k) at l m h;
  target = target_spared;
  assigned = assigned_spared;
  updated = updated_spared;
  compound = λ at place v k h. second (target_fails is_integer place v) (fails is_integer (Some k)) at h;
  argument = argument_spared;
  switched = λ at body k h. first (fails is_integer (Some k)) (not (is_compound body)) at h;
  returned = returned_spared;
  initial = initial_spared;
}
