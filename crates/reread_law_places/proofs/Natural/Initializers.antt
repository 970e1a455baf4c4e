-- What is found of initializers, at other places.
use Rattle.std.proofs.Common.{◌≡◌, ℕ, pos, Bool, true, false, ◌||◌, if◌then◌else◌, List, [], ◌∷◌, ◌++◌, unwrap_or, Option, Some, None, option_map, option_and_then, refl, ap, ◌∙◌}
use Rattle.mc_tree.specs.Tree.{Expression, Initializer, Initializers, span_of}
use Rattle.mc_tree.specs.Tree as tree
use Rattle.mc_typed.specs.Tree.{Effect}
use Rattle.mc_typed.specs.Tree as t
use Rattle.types_faults.specs.declared.fault.FaultKind.TheVariants.{Mismatch}
use Rattle.types_rules.specs.Types.{Base, Void, Integer, Tagged, CType, Structure, cells_of}
use Rattle.types_rules.specs.Scopes.{Scope}
use Rattle.types_rules.specs.Values.{Judged, Value, Assigned, Kind, Found, is_integer, fails, number_in, structure_in, number_found, lift2}
use Rattle.types_rules.specs.Constants.{constant_found, is_zero_constant}
use Rattle.types_rules.specs.Expressions.{convert_to}
use Rattle.types_rules.specs.Judgement.{judge}
use Rattle.types_rules.specs.Initializers.{Target, Missing, ScalarTarget, ArrayTarget, StructureTarget, target_of, Parts, parts_of, first_part, later_parts, is_kind, item_faults, static_faults, scalar_value, item_value, single_judged, item_count, room_of, is_below, lacks_item, only_item, list_value, zero_value, zero_judged, list_judged, braced_judged, only_expression, items_judged, judge_initializer, judge_items, filled, values_of, values_of_items}
use Rattle.reread_law_texts.specs.alike.Moves.{Move}
use Rattle.reread_law_texts.specs.alike.Trees.{moved, moved_initializer, moved_initializers}
use Rattle.reread_law_places.specs.natural.Moved.{moved_number, moved_structure, moved_filling, moved_fillings}
use Rattle.reread_law_places.specs.natural.Found.{moved_value}
use Rattle.reread_law_places.proofs.Natural.Basics.{Shifts, both, none, one, one_if, same2, lift_moved, map_over, then_over, Goes, Carried}
use Rattle.reread_law_places.proofs.Natural.Numbers.{constant_kept, constant_faults_go, convert_moved}
use Rattle.reread_law_places.proofs.Natural.Values.{Follows, carried, kind_same, number_moved, number_goes, structure_moved, constant_same}
use Rattle.reread_law_places.proofs.Natural.Words.{start_kept, items_kept, only_kept}
use Rattle.reread_law_places.proofs.Natural.Judgement.{go}

-- ---- an expression

item_faults_go : (m : Move) (static : Bool) (target : Target) (at : ℕ) {k l : Option Kind} → k ≡ l → Shifts m (item_faults static target (m.start at) k) (item_faults static target at l)
item_faults_go m static Missing at e = none
item_faults_go m static (ScalarTarget u) at e = one_if m Mismatch at (ap (fails is_integer) e)
item_faults_go m static (ArrayTarget n u) at e = one m Mismatch at
item_faults_go m static (StructureTarget n members) at e = one_if m Mismatch at (ap (λ (k : Option Kind). static || fails (is_kind n) k) e)

item_faults_in : (m : Move) (static : Bool) (u : Option CType) (at : ℕ) {k l : Option Kind} {s t : Scope} → k ≡ l → s ≡ t → Shifts m (item_faults static (target_of s.structures u) (m.start at) k) (item_faults static (target_of t.structures u) at l)
item_faults_in m static u at {t = t} e h = rw h (item_faults_go m static (target_of t.structures u) at e)

static_faults_go : (m : Move) (static : Bool) (at : ℕ) {b c : Bool} {e : Option t.Expression} (f : Option t.Expression) → b ≡ c → e ≡ option_map (moved_number m) f → Shifts m (static_faults static (m.start at) b e) (static_faults static at c f)
static_faults_go m true at f p q = constant_faults_go m at f p q
static_faults_go m false at f p q = none

scalar_moved : (m : Move) (b : Base) (v : Value) → scalar_value b (moved_value m v) ≡ option_map (moved_filling m) (scalar_value b v)
scalar_moved m (Integer a) v =
    ap (option_map (λ e. t.NumberInitializer (convert_to a e))) (number_moved m v)
    ∙ map_over (λ e. t.NumberInitializer (convert_to a e)) (λ e. t.NumberInitializer (convert_to a e)) (moved_filling m) (moved_number m) (number_in v) (λ e. ap t.NumberInitializer (convert_moved m a e))
scalar_moved m Void v = refl
scalar_moved m (Tagged k) v = refl

item_moved : (m : Move) (all : List Structure) (u : Option CType) (target : Target) (v : Value) → item_value all u target (moved_value m v) ≡ option_map (moved_filling m) (item_value all u target v)
item_moved m all (Some u) (ScalarTarget w) v = scalar_moved m w.base v
item_moved m all (Some u) (StructureTarget k members) v =
    ap (option_map (λ w. t.StructureInitializer w (cells_of all u))) (structure_moved m k v)
    ∙ map_over (λ w. t.StructureInitializer w (cells_of all u)) (λ w. t.StructureInitializer w (cells_of all u)) (moved_filling m) (moved_structure m) (structure_in k v) (λ w. refl)
item_moved m all (Some u) Missing v = refl
item_moved m all (Some u) (ArrayTarget n w) v = refl
item_moved m all None target v = refl

scalar_blind : (b : Base) (effect : Effect) → scalar_value b (Assigned effect) ≡ None
scalar_blind (Integer a) effect = refl
scalar_blind Void effect = refl
scalar_blind (Tagged k) effect = refl

item_blind : (all : List Structure) (u : Option CType) (target : Target) (effect : Effect) → item_value all u target (Assigned effect) ≡ None
item_blind all (Some u) (ScalarTarget w) effect = scalar_blind w.base effect
item_blind all (Some u) (StructureTarget k members) effect = refl
item_blind all (Some u) Missing effect = refl
item_blind all (Some u) (ArrayTarget n w) effect = refl
item_blind all None target effect = refl

single_goes : (m : Move) (static : Bool) (u : Option CType) (at : ℕ) {x v : Found} → Follows m x v → Goes m (Carried (moved_filling m)) (single_judged static u (m.start at) x) (single_judged static u at v)
single_goes m static u at {x = x} {v = v} h = record {
  faults = both h.faults (both (item_faults_in m static u at (kind_same h) h.scope) (static_faults_go m static at (number_found v) h.constant (number_goes h)));
  value = ap (λ (s : Scope). option_and_then (item_value s.structures u (target_of s.structures u)) x.value) h.scope
      ∙ carried (item_value v.scope.structures u (target_of v.scope.structures u)) (item_value v.scope.structures u (target_of v.scope.structures u)) (moved_filling m)
      (item_blind v.scope.structures u (target_of v.scope.structures u)) (item_moved m v.scope.structures u (target_of v.scope.structures u)) h.value;
  scope = h.scope;
}

-- ---- a list

zero_moved : (m : Move) (all : List Structure) (u : Option CType) (e : Option t.Expression) → zero_value all u (option_map (moved_number m) e) ≡ option_map (moved_filling m) (zero_value all u e)
zero_moved m all (Some u) (Some e) = refl
zero_moved m all (Some u) None = refl
zero_moved m all None e = refl

zero_goes : (m : Move) (u : Option CType) (s t : Scope) {x v : Found} → Follows m x v → Goes m (Carried (moved_filling m)) (zero_judged u (Some x) s) (zero_judged u (Some v) t)
zero_goes m u s t {v = v} h = record {
  faults = h.faults;
  value = same2 (λ (s : Scope) e. zero_value s.structures u e) h.scope (number_goes h) ∙ zero_moved m v.scope.structures u (number_found v);
  scope = h.scope;
}

only_item_moved : (m : Move) (items : t.Initializers) → only_item (moved_fillings m items) ≡ option_map (moved_filling m) (only_item items)
only_item_moved m t.no_initializers = refl
only_item_moved m (t.initializers i t.no_initializers) = refl
only_item_moved m (t.initializers i (t.initializers j rest)) = refl

list_moved : (m : Move) (all : List Structure) (u : Option CType) (target : Target) (items : t.Initializers) → list_value all u target (moved_fillings m items) ≡ option_map (moved_filling m) (list_value all u target items)
list_moved m all (Some u) (ScalarTarget w) items = only_item_moved m items
list_moved m all (Some u) (ArrayTarget n w) items = refl
list_moved m all (Some u) (StructureTarget k members) items = refl
list_moved m all (Some u) Missing items = refl
list_moved m all None target items = refl

list_goes : (m : Move) (u : Option CType) (at count : ℕ) {x y : Judged t.Initializers} → Goes m (Carried (moved_fillings m)) x y → Goes m (Carried (moved_filling m)) (list_judged u (m.start at) count x) (list_judged u at count y)
list_goes m u at count {y = y} h = record {
  faults = both h.faults (one_if m Mismatch at (ap (λ (s : Scope). is_below (room_of (target_of s.structures u)) count || lacks_item (target_of s.structures u) count) h.scope));
  value = same2 (λ (s : Scope) o. option_and_then (list_value s.structures u (target_of s.structures u)) o) h.scope h.value
      ∙ then_over (list_value y.scope.structures u (target_of y.scope.structures u)) (list_value y.scope.structures u (target_of y.scope.structures u)) (moved_filling m) (moved_fillings m) y.value
      (list_moved m y.scope.structures u (target_of y.scope.structures u));
  scope = h.scope;
}

zero_or_list : (m : Move) (u : Option CType) (at count : ℕ) (before now : Scope) {v w : Found} {x y : Judged t.Initializers} → Follows m v w → Goes m (Carried (moved_fillings m)) x y
    → Goes m (Carried (moved_filling m)) (braced_judged u (m.start at) count (Some v) x before) (braced_judged u at count (Some w) y now)
zero_or_list m u at count before now {v = v} {w = w} {x = x} {y = y} h k = rw (constant_same h) (by_test (is_zero_constant (constant_found w)))
  where
    by_test : (b : Bool) → Goes m (Carried (moved_filling m)) (if b then zero_judged u (Some v) before else list_judged u (m.start at) count x) (if b then zero_judged u (Some w) now else list_judged u at count y)
    by_test true = zero_goes m u before now h
    by_test false = list_goes m u at count k

braced_goes : (m : Move) (u : Option CType) (at count : ℕ) (only : Option Expression) {x y : Judged t.Initializers} {s t : Scope} → s ≡ t → Goes m (Carried (moved_fillings m)) x y
    → Goes m (Carried (moved_filling m)) (braced_judged u (m.start at) count (option_map (λ e. judge e s) (option_map (moved m) only)) x s) (braced_judged u at count (option_map (λ e. judge e t) only) y t)
braced_goes m u at count None h k = list_goes m u at count k
braced_goes m u at count (Some e) {s = s} {t = t} h k = zero_or_list m u at count s t (go m e h) k

items_goes : (m : Move) {x v : Judged t.Initializer} {y w : Judged t.Initializers} → Goes m (Carried (moved_filling m)) x v → Goes m (Carried (moved_fillings m)) y w → Goes m (Carried (moved_fillings m)) (items_judged x y) (items_judged v w)
items_goes m {v = v} {w = w} h k = record {
  faults = both h.faults (both k.faults none);
  value = same2 (lift2 t.initializers) h.value k.value ∙ lift_moved t.initializers t.initializers (moved_fillings m) (moved_filling m) (moved_fillings m) v.value w.value (λ a b. refl);
  scope = k.scope;
}

mutual
  pub initializer_go : (m : Move) (static : Bool) (i : Initializer) {u v : Option CType} {s t : Scope} → u ≡ v → s ≡ t
      → Goes m (Carried (moved_filling m)) (judge_initializer static u (moved_initializer m i) s) (judge_initializer static v i t)
  initializer_go m static (tree.Single a) {v = v} e h = rw (e, start_kept m a) (single_goes m static v (span_of a).start (go m a h))
  initializer_go m static (tree.Braced items span) {v = v} e h =
      rw (e, items_kept m items, only_kept m items)
      (braced_goes m v span.start (item_count items) (only_expression items) h (items_go m static items (ap (λ (s : Scope). parts_of (target_of s.structures v)) h) h))

  items_go : (m : Move) (static : Bool) (items : Initializers) {p q : Parts} {s t : Scope} → p ≡ q → s ≡ t
      → Goes m (Carried (moved_fillings m)) (judge_items static p (moved_initializers m items) s) (judge_items static q items t)
  items_go m static tree.no_initializers e h = record { faults = none; value = refl; scope = h }
  items_go m static (tree.initializers one rest) e h =
      let x = initializer_go m static one (ap first_part e) h in
      items_goes m x (items_go m static rest (ap later_parts e) x.scope)

-- ---- initial values

mutual
  pub values_kept : (m : Move) (i : t.Initializer) → values_of (moved_filling m i) ≡ values_of i
  values_kept m (t.NumberInitializer e) = ap (λ v. unwrap_or v (pos 0) ∷ []) (constant_kept m e)
  values_kept m (t.StructureInitializer value n) = refl
  values_kept m (t.ListInitializer items n) = ap (filled n) (all_values_kept m items)
  values_kept m (t.ZeroInitializer e n) = refl

  all_values_kept : (m : Move) (items : t.Initializers) → values_of_items (moved_fillings m items) ≡ values_of_items items
  all_values_kept m t.no_initializers = refl
  all_values_kept m (t.initializers i rest) = same2 (λ xs ys. xs ++ ys) (values_kept m i) (all_values_kept m rest)
