-- Initializers and declarations: what is found of them is exact.
use Rattle.std.proofs.Common.{◌≡◌, ℕ, Bool, true, false, if◌then◌else◌, List, [], ◌∷◌, ◌++◌, Option, Some, None, option_map, refl}
use Rattle.mc_tree.specs.Tree.{Name, Expression, ArrayLengths, Initializer, Initializers, InitDeclarator, Declaration}
use Rattle.mc_tree.specs.Tree as tree
use Rattle.mc_typed.specs.declared.expressions.Slot.{Slot}
use Rattle.mc_typed.specs.Layout.{ObjectType}
use Rattle.mc_typed.specs.Tree.{Declarator}
use Rattle.mc_typed.specs.Tree as typed
use Rattle.types_faults.specs.declared.fault.Fault.{Fault}
use Rattle.types_faults.specs.Faults.{unless_faulty}
use Rattle.types_rules.specs.Types.{Base, Void, Integer, Tagged, CType, Structure, cells_of}
use Rattle.types_rules.specs.Scopes.{Automatic, Scope, next_slot, next_static, with_name, with_counted}
use Rattle.types_rules.specs.Scopes as scope
use Rattle.types_rules.specs.Values.{Judged, Value, number_in, structure_in, number_found}
use Rattle.types_rules.specs.Expressions.{convert_to}
use Rattle.types_rules.specs.Declarators.{declared_type}
use Rattle.types_rules.specs.Judgement.{typed_by, judge, judge_specifiers, judge_lengths}
use Rattle.types_rules.specs.Initializers.{Target, Missing, ScalarTarget, ArrayTarget, StructureTarget, target_of, Parts, parts_of, first_part, later_parts, scalar_value, item_value, item_count, only_item, list_value, zero_value, zero_judged, list_judged, braced_judged, only_expression, judge_initializer, judge_items}
use Rattle.types_rules.specs.Initializers as initializers
use Rattle.types_rules.specs.Declarations.{Storage, TypedefStorage, StaticStorage, AutomaticStorage, storage_of, count_listed, judge_optional_initializer, object_faults, layout_counted, declarator_value, static_value, object_judged, judge_init, judge_init_declarator, append, judge_init_declarators, is_tag_alone, judge_declaration}
use Rattle.laws_types.specs.Exact.{IsTested, IsExactStructure, IsExactInitializer, AreExactInitializers, IsExactInitial, AreExactDeclarators}
use Rattle.laws_types.proofs.ExactValues.{WhereSome, map_where, then_where, lift_where, IsExactValue, convert_exact, number_exact, number_found_exact, structure_exact, found_exact}

-- ---- initializers

zero_exact : (all : List Structure) (u : Option CType) (e : Option typed.Expression)
    → WhereSome IsTested e → WhereSome IsExactInitializer (zero_value all u e)
zero_exact all (Some u) (Some e) h = h
zero_exact all (Some u) None h = tt
zero_exact all None e h = tt

scalar_exact : (b : Base) (v : Value) → IsExactValue v → WhereSome IsExactInitializer (scalar_value b v)
scalar_exact (Integer a) v h =
    map_where IsTested IsExactInitializer (λ e. typed.NumberInitializer (convert_to a e)) (number_in v)
    (λ e p. (convert_exact a e p).operand) (number_exact v h)
scalar_exact Void v h = tt
scalar_exact (Tagged k) v h = tt

item_exact : (all : List Structure) (u : Option CType) (target : Target) (v : Value) → IsExactValue v
    → WhereSome IsExactInitializer (item_value all u target v)
item_exact all (Some u) (ScalarTarget z) v h = scalar_exact z.base v h
item_exact all (Some u) (StructureTarget k members) v h =
    map_where IsExactStructure IsExactInitializer (λ w. typed.StructureInitializer w (cells_of all u))
    (structure_in k v) (λ w p. p) (structure_exact k v h)
item_exact all (Some u) Missing v h = tt
item_exact all (Some u) (ArrayTarget n z) v h = tt
item_exact all None target v h = tt

only_item_exact : (items : typed.Initializers) → AreExactInitializers items
    → WhereSome IsExactInitializer (only_item items)
only_item_exact typed.no_initializers h = tt
only_item_exact (typed.initializers i typed.no_initializers) h = h.0
only_item_exact (typed.initializers i (typed.initializers j rest)) h = tt

list_exact : (all : List Structure) (u : Option CType) (target : Target) (items : typed.Initializers)
    → AreExactInitializers items → WhereSome IsExactInitializer (list_value all u target items)
list_exact all (Some u) (ScalarTarget v) items h = only_item_exact items h
list_exact all (Some u) (ArrayTarget n v) items h = h
list_exact all (Some u) (StructureTarget k members) items h = h
list_exact all (Some u) Missing items h = tt
list_exact all None target items h = tt

listed_exact : (u : Option CType) (at count : ℕ) (x : Judged typed.Initializers)
    → WhereSome AreExactInitializers x.value → WhereSome IsExactInitializer (list_judged u at count x).value
listed_exact u at count x h =
    let all = x.scope.structures in
    let target = target_of all u in
    then_where AreExactInitializers IsExactInitializer (list_value all u target) x.value
    (list_exact all u target) h

braced_exact : (u : Option CType) (at count : ℕ) (o : Option Expression) (x : Judged typed.Initializers)
    (s : Scope) → WhereSome AreExactInitializers x.value
    → WhereSome IsExactInitializer (braced_judged u at count (option_map (λ e. judge e s) o) x s).value
braced_exact u at count None x s h = listed_exact u at count x h
braced_exact u at count (Some e) x s h = by_test (initializers.is_zero (Some (judge e s))) refl
  where
    by_test : (b : Bool) → initializers.is_zero (Some (judge e s)) ≡ b
        → WhereSome IsExactInitializer
        (if b then zero_judged u (Some (judge e s)) s else list_judged u at count x).value
    by_test true q =
        zero_exact (judge e s).scope.structures u (number_found (judge e s))
        (number_found_exact (judge e s) (found_exact e s))
    by_test false q = listed_exact u at count x h

mutual
  initializer_exact : (static : Bool) (u : Option CType) (i : Initializer) (s : Scope)
      → WhereSome IsExactInitializer (judge_initializer static u i s).value
  initializer_exact static u (tree.Single e) s =
      let x = judge e s in
      let all = x.scope.structures in
      then_where IsExactValue IsExactInitializer (item_value all u (target_of all u)) x.value
      (item_exact all u (target_of all u)) (found_exact e s)
  initializer_exact static u (tree.Braced items span) s =
      let parts = parts_of (target_of s.structures u) in
      braced_exact u span.start (item_count items) (only_expression items) (judge_items static parts items s) s
      (items_exact static parts items s)

  items_exact : (static : Bool) (parts : Parts) (items : Initializers) (s : Scope)
      → WhereSome AreExactInitializers (judge_items static parts items s).value
  items_exact static parts tree.no_initializers s = tt
  items_exact static parts (tree.initializers one rest) s =
      let x = judge_initializer static (first_part parts) one s in
      lift_where IsExactInitializer AreExactInitializers AreExactInitializers typed.initializers x.value
      (judge_items static (later_parts parts) rest x.scope).value (λ i more p q. (p, q))
      (initializer_exact static (first_part parts) one s)
      (items_exact static (later_parts parts) rest x.scope)

optional_exact : (static : Bool) (u : Option CType) (i : Option Initializer) (s : Scope)
    → WhereSome IsExactInitial (judge_optional_initializer static u i s).value
optional_exact static u None s = tt
optional_exact static u (Some i) s =
    map_where IsExactInitializer IsExactInitial Some (judge_initializer static u i s).value (λ x p. p)
    (initializer_exact static u i s)

-- ---- declarations

static_exact : (layout : Option ObjectType) (value : Option (Option typed.Initializer))
    → WhereSome AreExactDeclarators (static_value layout value)
static_exact (Some layout) (Some value) = tt
static_exact (Some layout) None = tt
static_exact None value = tt

automatic_exact : (slot : Slot) (layout : Option ObjectType) (value : Option (Option typed.Initializer))
    → WhereSome IsExactInitial value → WhereSome AreExactDeclarators (declarator_value slot layout value)
automatic_exact slot (Some layout) (Some value) h = (h, tt)
automatic_exact slot (Some layout) None h = tt
automatic_exact slot None value h = tt

object_exact : (storage : Storage) (faults : List Fault) (name : Name) (lengths : ArrayLengths)
    (base u : Option CType) (value : Option Initializer) (s : Scope)
    → WhereSome AreExactDeclarators (object_judged storage faults name lengths base u value s).value
object_exact TypedefStorage faults name lengths base u value s = tt
object_exact StaticStorage faults name lengths base u value s =
    let own = object_faults name lengths (count_listed value) base u s in
    let named = with_name name (scope.Stored (next_static s) (unless_faulty (faults ++ own) u)) s in
    let x = judge_optional_initializer true (unless_faulty own u) value named in
    static_exact (layout_counted (own ++ x.faults) u x.scope) x.value
object_exact AutomaticStorage faults name lengths base u value s =
    let own = object_faults name lengths (count_listed value) base u s in
    let layout = layout_counted own u s in
    let named = with_name name (Automatic (next_slot s) (unless_faulty (faults ++ own) u)) s in
    let declared = with_counted layout named in
    let v = unless_faulty own u in
    automatic_exact (next_slot s) layout (judge_optional_initializer false v value declared).value
    (optional_exact false v value declared)

init_exact : (storage : Storage) (base : Option CType) (d : tree.Declarator) (value : Option Initializer)
    (s : Scope) → WhereSome AreExactDeclarators (judge_init storage base d value s).value
init_exact storage base (tree.object stars name lengths span) value s =
    let x = judge_lengths lengths s in
    object_exact storage x.faults name lengths base
    (declared_type lengths x.value (count_listed value) base) value x.scope
init_exact storage base (tree.function stars name all span) value s = tt

init_declarator_exact : (storage : Storage) (base : Option CType) (d : InitDeclarator) (s : Scope)
    → WhereSome AreExactDeclarators (judge_init_declarator storage base d s).value
init_declarator_exact storage base (tree.bare d) s = init_exact storage base d None s
init_declarator_exact storage base (tree.initialized d value) s = init_exact storage base d (Some value) s

declarators_append : (xs ys : List Declarator) → AreExactDeclarators xs → AreExactDeclarators ys
    → AreExactDeclarators (xs ++ ys)
declarators_append [] ys p q = q
declarators_append (x ∷ xs) ys p q = (p.0, declarators_append xs ys p.1 q)

init_declarators_exact : (storage : Storage) (base : Option CType) (ds : List InitDeclarator) (s : Scope)
    → WhereSome AreExactDeclarators (judge_init_declarators storage base ds s).value
init_declarators_exact storage base [] s = tt
init_declarators_exact storage base (d ∷ ds) s =
    let x = judge_init_declarator storage base d s in
    lift_where AreExactDeclarators AreExactDeclarators AreExactDeclarators append x.value
    (judge_init_declarators storage base ds x.scope).value declarators_append
    (init_declarator_exact storage base d s) (init_declarators_exact storage base ds x.scope)

pub declaration_exact : (d : Declaration) (s : Scope) → WhereSome AreExactDeclarators (judge_declaration d s).value
declaration_exact (tree.declaration all ds span) s =
    let x = typed_by span.start all (judge_specifiers (is_tag_alone all ds) all s) in
    init_declarators_exact (storage_of all s.is_file) x.value ds x.scope
