-- Initializers and declarations: what is found of them is plain.
use Rattle.std.proofs.Common.{◌≡◌, ℕ, ◌==◌, ℤ, pos, negsuc, Bool, true, false, if◌then◌else◌, List, [], ◌∷◌, ◌++◌, Option, Some, None, option_map, refl, ap, arith}
use Rattle.mc_tree.specs.Tree.{Name, Expression, ArrayLengths, Initializer, Initializers, InitDeclarator, Declaration}
use Rattle.mc_tree.specs.Tree as tree
use Rattle.mc_value.specs.Conversions.{is_zero}
use Rattle.mc_typed.specs.declared.expressions.Slot.{Slot}
use Rattle.mc_typed.specs.Layout.{ObjectType}
use Rattle.mc_typed.specs.Tree.{Declarator}
use Rattle.mc_typed.specs.Tree as t
use Rattle.types_faults.specs.declared.fault.Fault.{Fault}
use Rattle.types_faults.specs.Faults.{unless_faulty}
use Rattle.types_rules.specs.Types.{Base, Void, Integer, Tagged, CType, Structure, cells_of}
use Rattle.types_rules.specs.Scopes.{Automatic, Scope, next_slot, next_static, with_name, with_counted}
use Rattle.types_rules.specs.Scopes as scope
use Rattle.types_rules.specs.Values.{Judged, Value, Found, number_in, structure_in, number_found}
use Rattle.mc_typed.specs.Constants.{constant_value}
use Rattle.types_rules.specs.Constants.{value_of_constant, is_zero_constant}
use Rattle.types_rules.specs.Expressions.{convert_to}
use Rattle.types_rules.specs.Declarators.{declared_type}
use Rattle.types_rules.specs.Judgement.{typed_by, judge, judge_specifiers, judge_lengths}
use Rattle.types_rules.specs.Initializers.{Target, Missing, ScalarTarget, ArrayTarget, StructureTarget, target_of, Parts, parts_of, first_part, later_parts, scalar_value, item_value, item_count, only_item, list_value, zero_value, zero_judged, list_judged, braced_judged, only_expression, judge_initializer, judge_items}
use Rattle.types_rules.specs.Initializers as initializers
use Rattle.types_rules.specs.Declarations.{Storage, TypedefStorage, StaticStorage, AutomaticStorage, storage_of, count_listed, judge_optional_initializer, object_faults, layout_counted, declarator_value, static_value, object_judged, judge_init, judge_init_declarator, append, judge_init_declarators, is_tag_alone, judge_declaration}
use Rattle.laws_soundness.specs.Plain.{IsConstant, IsPlain, IsTested, IsPlainStructure, IsPlainInitializer, ArePlainInitializers, IsPlainInitial, ArePlainDeclarators}
use Rattle.laws_soundness.proofs.Tests.{false_true}
use Rattle.laws_soundness.proofs.PlainValues.{WhereSome, map_where, then_where, lift_where, IsPlainValue, IsPlainFound, convert_plain, number_plain, number_found_plain, structure_plain, found_plain}
use Rattle.laws_soundness.proofs.PlainConstants.{number_found_constant, found_constant}

-- ---- initializers

zero_only : (v : ℤ) → is_zero v ≡ true → v ≡ pos 0
zero_only (pos n) h = ap pos (zero_number n h)
  where
    zero_number : (n : ℕ) → (n == 0) ≡ true → n ≡ 0
    zero_number n h = grind (arith, h)
zero_only (negsuc n) h = false_true h

zero_constant : (v : Option ℤ) → is_zero_constant v ≡ true → v ≡ Some (pos 0)
zero_constant None h = false_true h
zero_constant (Some v) h = ap Some (zero_only v h)

zero_plain : (all : List Structure) (u : Option CType) (x : Found) → IsPlainFound x
    → (x.constant ≡ true → WhereSome IsConstant (number_found x)) → initializers.is_zero (Some x) ≡ true
    → WhereSome IsPlainInitializer (zero_value all u (number_found x))
zero_plain all u x h c z = by_parts x.constant (number_found x) (number_found_plain x h) c z
  where
    by_type : (o : Option CType) (e : t.Expression)
        → IsPlain e × IsConstant e × (constant_value e ≡ Some (pos 0))
        → WhereSome IsPlainInitializer (zero_value all o (Some e))
    by_type None e p = tt
    by_type (Some v) e p = p

    by_parts : (b : Bool) (o : Option t.Expression) → WhereSome IsTested o
        → (b ≡ true → WhereSome IsConstant o) → is_zero_constant (value_of_constant b o) ≡ true
        → WhereSome IsPlainInitializer (zero_value all u o)
    by_parts true (Some e) h c z = by_type u e (h.1, c refl, zero_constant (constant_value e) z)
    by_parts true None h c z = false_true z
    by_parts false o h c z = false_true z

scalar_plain : (b : Base) (v : Value) → IsPlainValue v → WhereSome IsPlainInitializer (scalar_value b v)
scalar_plain (Integer a) v h =
    map_where IsTested IsPlainInitializer (λ e. t.NumberInitializer (convert_to a e)) (number_in v)
    (λ e p. convert_plain a e p.1) (number_plain v h)
scalar_plain Void v h = tt
scalar_plain (Tagged k) v h = tt

item_plain : (all : List Structure) (u : Option CType) (target : Target) (v : Value) → IsPlainValue v
    → WhereSome IsPlainInitializer (item_value all u target v)
item_plain all (Some u) (ScalarTarget z) v h = scalar_plain z.base v h
item_plain all (Some u) (StructureTarget k members) v h =
    map_where IsPlainStructure IsPlainInitializer (λ w. t.StructureInitializer w (cells_of all u))
    (structure_in k v) (λ w p. p) (structure_plain k v h)
item_plain all (Some u) Missing v h = tt
item_plain all (Some u) (ArrayTarget n z) v h = tt
item_plain all None target v h = tt

only_item_plain : (items : t.Initializers) → ArePlainInitializers items
    → WhereSome IsPlainInitializer (only_item items)
only_item_plain t.no_initializers h = tt
only_item_plain (t.initializers i t.no_initializers) h = h.0
only_item_plain (t.initializers i (t.initializers j rest)) h = tt

list_plain : (all : List Structure) (u : Option CType) (target : Target) (items : t.Initializers)
    → ArePlainInitializers items → WhereSome IsPlainInitializer (list_value all u target items)
list_plain all (Some u) (ScalarTarget v) items h = only_item_plain items h
list_plain all (Some u) (ArrayTarget n v) items h = h
list_plain all (Some u) (StructureTarget k members) items h = h
list_plain all (Some u) Missing items h = tt
list_plain all None target items h = tt

listed_plain : (u : Option CType) (at count : ℕ) (x : Judged t.Initializers)
    → WhereSome ArePlainInitializers x.value → WhereSome IsPlainInitializer (list_judged u at count x).value
listed_plain u at count x h =
    let all = x.scope.structures in
    let target = target_of all u in
    then_where ArePlainInitializers IsPlainInitializer (list_value all u target) x.value
    (list_plain all u target) h

braced_plain : (u : Option CType) (at count : ℕ) (o : Option Expression) (x : Judged t.Initializers)
    (s : Scope) → WhereSome ArePlainInitializers x.value
    → WhereSome IsPlainInitializer (braced_judged u at count (option_map (λ e. judge e s) o) x s).value
braced_plain u at count None x s h = listed_plain u at count x h
braced_plain u at count (Some e) x s h = by_test (initializers.is_zero (Some (judge e s))) refl
  where
    by_test : (b : Bool) → initializers.is_zero (Some (judge e s)) ≡ b
        → WhereSome IsPlainInitializer
        (if b then zero_judged u (Some (judge e s)) s else list_judged u at count x).value
    by_test true q =
        zero_plain (judge e s).scope.structures u (judge e s) (found_plain e s)
        (λ c. number_found_constant (judge e s) (found_constant e s c)) q
    by_test false q = listed_plain u at count x h

mutual
  initializer_plain : (static : Bool) (u : Option CType) (i : Initializer) (s : Scope)
      → WhereSome IsPlainInitializer (judge_initializer static u i s).value
  initializer_plain static u (tree.Single e) s =
      let x = judge e s in
      let all = x.scope.structures in
      then_where IsPlainValue IsPlainInitializer (item_value all u (target_of all u)) x.value
      (item_plain all u (target_of all u)) (found_plain e s)
  initializer_plain static u (tree.Braced items span) s =
      let parts = parts_of (target_of s.structures u) in
      braced_plain u span.start (item_count items) (only_expression items) (judge_items static parts items s) s
      (items_plain static parts items s)

  items_plain : (static : Bool) (parts : Parts) (items : Initializers) (s : Scope)
      → WhereSome ArePlainInitializers (judge_items static parts items s).value
  items_plain static parts tree.no_initializers s = tt
  items_plain static parts (tree.initializers one rest) s =
      let x = judge_initializer static (first_part parts) one s in
      lift_where IsPlainInitializer ArePlainInitializers ArePlainInitializers t.initializers x.value
      (judge_items static (later_parts parts) rest x.scope).value (λ i more p q. (p, q))
      (initializer_plain static (first_part parts) one s)
      (items_plain static (later_parts parts) rest x.scope)

optional_plain : (static : Bool) (u : Option CType) (i : Option Initializer) (s : Scope)
    → WhereSome IsPlainInitial (judge_optional_initializer static u i s).value
optional_plain static u None s = tt
optional_plain static u (Some i) s =
    map_where IsPlainInitializer IsPlainInitial Some (judge_initializer static u i s).value (λ x p. p)
    (initializer_plain static u i s)

-- ---- declarations

static_plain : (layout : Option ObjectType) (value : Option (Option t.Initializer))
    → WhereSome ArePlainDeclarators (static_value layout value)
static_plain (Some layout) (Some value) = tt
static_plain (Some layout) None = tt
static_plain None value = tt

automatic_plain : (slot : Slot) (layout : Option ObjectType) (value : Option (Option t.Initializer))
    → WhereSome IsPlainInitial value → WhereSome ArePlainDeclarators (declarator_value slot layout value)
automatic_plain slot (Some layout) (Some value) h = (h, tt)
automatic_plain slot (Some layout) None h = tt
automatic_plain slot None value h = tt

object_plain : (storage : Storage) (faults : List Fault) (name : Name) (lengths : ArrayLengths)
    (base u : Option CType) (value : Option Initializer) (s : Scope)
    → WhereSome ArePlainDeclarators (object_judged storage faults name lengths base u value s).value
object_plain TypedefStorage faults name lengths base u value s = tt
object_plain StaticStorage faults name lengths base u value s =
    let own = object_faults name lengths (count_listed value) base u s in
    let named = with_name name (scope.Stored (next_static s) (unless_faulty (faults ++ own) u)) s in
    let x = judge_optional_initializer true (unless_faulty own u) value named in
    static_plain (layout_counted (own ++ x.faults) u x.scope) x.value
object_plain AutomaticStorage faults name lengths base u value s =
    let own = object_faults name lengths (count_listed value) base u s in
    let layout = layout_counted own u s in
    let named = with_name name (Automatic (next_slot s) (unless_faulty (faults ++ own) u)) s in
    let declared = with_counted layout named in
    let v = unless_faulty own u in
    automatic_plain (next_slot s) layout (judge_optional_initializer false v value declared).value
    (optional_plain false v value declared)

init_plain : (storage : Storage) (base : Option CType) (d : tree.Declarator) (value : Option Initializer)
    (s : Scope) → WhereSome ArePlainDeclarators (judge_init storage base d value s).value
init_plain storage base (tree.object stars name lengths span) value s =
    let x = judge_lengths lengths s in
    object_plain storage x.faults name lengths base
    (declared_type lengths x.value (count_listed value) base) value x.scope
init_plain storage base (tree.function stars name all span) value s = tt

init_declarator_plain : (storage : Storage) (base : Option CType) (d : InitDeclarator) (s : Scope)
    → WhereSome ArePlainDeclarators (judge_init_declarator storage base d s).value
init_declarator_plain storage base (tree.bare d) s = init_plain storage base d None s
init_declarator_plain storage base (tree.initialized d value) s = init_plain storage base d (Some value) s

declarators_append : (xs ys : List Declarator) → ArePlainDeclarators xs → ArePlainDeclarators ys
    → ArePlainDeclarators (xs ++ ys)
declarators_append [] ys p q = q
declarators_append (x ∷ xs) ys p q = (p.0, declarators_append xs ys p.1 q)

init_declarators_plain : (storage : Storage) (base : Option CType) (ds : List InitDeclarator) (s : Scope)
    → WhereSome ArePlainDeclarators (judge_init_declarators storage base ds s).value
init_declarators_plain storage base [] s = tt
init_declarators_plain storage base (d ∷ ds) s =
    let x = judge_init_declarator storage base d s in
    lift_where ArePlainDeclarators ArePlainDeclarators ArePlainDeclarators append x.value
    (judge_init_declarators storage base ds x.scope).value declarators_append
    (init_declarator_plain storage base d s) (init_declarators_plain storage base ds x.scope)

pub declaration_plain : (d : Declaration) (s : Scope) → WhereSome ArePlainDeclarators (judge_declaration d s).value
declaration_plain (tree.declaration all ds span) s =
    let x = typed_by span.start all (judge_specifiers (is_tag_alone all ds) all s) in
    init_declarators_plain (storage_of all s.is_file) x.value ds x.scope
