-- Initializers (C17 6.7.9).
use Rattle.std.specs.Prelude.{ℕ, ◌+◌, ◌-◌, ◌==◌, nat_lt, ℤ, pos, Bool, true, false, ◌||◌, if◌then◌else◌, List, [], ◌∷◌, ◌++◌, length, replicate, slice_get, unwrap_or, Option, Some, None, option_map, option_and_then}
use Rattle.mc_tree.specs.Tree.{Expression, Initializer, Initializers, span_of}
use Rattle.mc_tree.specs.Tree as tree
use Rattle.mc_typed.specs.Constants.{constant_value}
use Rattle.mc_typed.specs.Tree as typed
use Rattle.types_faults.specs.declared.fault.Fault.{Fault}
use Rattle.types_faults.specs.declared.fault.FaultKind.TheVariants.{Mismatch}
use Rattle.types_faults.specs.Faults.{fault, fault_if}
use Rattle.types_rules.specs.Types.{Base, Void, Integer, Tagged, CType, Member, Structure, members_of, cells_of}
use Rattle.types_rules.specs.Scopes.{Scope}
use Rattle.types_rules.specs.Values.{Judged, judged, judged_one, judged_two, Value, Kind, IsStructure, Found, part, kind_found, is_integer, fails, number_in, structure_in, number_found, lift2}
use Rattle.types_rules.specs.Constants.{constant_found, constant_faults, is_zero_constant}
use Rattle.types_rules.specs.Expressions.{convert_to}
use Rattle.types_rules.specs.Judgement.{judge}

-- ---- what is initialized

-- an object or a part of one; nothing where its type is missing
pub data Target : Type 0 where
  Missing : Target
  ScalarTarget : CType → Target
  -- so many elements of a type, and a structure with its members
  ArrayTarget : ℕ → CType → Target
  StructureTarget : ℕ → List Member → Target

abbrev pub target_of_base : List Structure → CType → Base → Target
target_of_base all u Void = Missing
target_of_base all u (Integer a) = ScalarTarget u
target_of_base all u (Tagged k) = StructureTarget k (members_of (slice_get all k))

abbrev pub target_of_object : List Structure → CType → List ℕ → Target
target_of_object all u [] = target_of_base all u u.base
target_of_object all u (n ∷ ns) = ArrayTarget n (record u { lengths = ns })

abbrev pub target_of : List Structure → Option CType → Target
target_of all None = Missing
target_of all (Some u) = target_of_object all u u.lengths

-- what the items of a list are for: each for the same element, or for one member after the other
pub data Parts : Type 0 where
  Elements : CType → Parts
  Members : List Member → Parts
  NoParts : Parts

-- the one item of a list for a scalar is for the scalar (C17 6.7.9p11)
abbrev pub parts_of : Target → Parts
parts_of Missing = NoParts
parts_of (ScalarTarget u) = Elements u
parts_of (ArrayTarget n u) = Elements u
parts_of (StructureTarget k members) = Members members

abbrev pub first_part : Parts → Option CType
first_part (Elements u) = Some u
first_part (Members []) = None
first_part (Members (m ∷ ms)) = m.member_type
first_part NoParts = None

abbrev pub later_parts : Parts → Parts
later_parts (Elements u) = Elements u
later_parts (Members []) = Members []
later_parts (Members (m ∷ ms)) = Members ms
later_parts NoParts = NoParts

-- ---- an expression

-- An integer for a scalar; for a structure one of the same type, but only where the object has
-- automatic storage duration (C17 6.7.9p4, p13); none for an array.
abbrev pub is_kind : ℕ → Kind → Bool
is_kind k (IsStructure j) = j == k
is_kind k _ = false

abbrev pub item_faults : Bool → Target → ℕ → Option Kind → List Fault
item_faults static Missing at k = []
item_faults static (ScalarTarget u) at k = fault_if (fails is_integer k) Mismatch at
item_faults static (ArrayTarget n u) at k = fault Mismatch at
item_faults static (StructureTarget n members) at k =
    fault_if (static || fails (is_kind n) k) Mismatch at

-- an object with static storage duration takes integer constant expressions (C17 6.7.9p4)
abbrev pub static_faults : Bool → ℕ → Bool → Option typed.Expression → List Fault
static_faults true at constant e = constant_faults at constant e
static_faults false at constant e = []

abbrev pub scalar_value : Base → Value → Option typed.Initializer
scalar_value (Integer a) v = option_map (λ e. typed.NumberInitializer (convert_to a e))
    (number_in v)
scalar_value _ v = None

abbrev pub item_value : List Structure → Option CType → Target → Value → Option typed.Initializer
item_value all (Some u) (ScalarTarget w) v = scalar_value w.base v
item_value all (Some u) (StructureTarget k members) v =
    option_map (λ w. typed.StructureInitializer w (cells_of all u)) (structure_in k v)
item_value all _ _ v = None

-- an expression that starts here, for an object of this type
abbrev pub single_judged : Bool → Option CType → ℕ → Found → Judged typed.Initializer
single_judged static u at x =
    let target = target_of x.scope.structures u in
    judged_one
    (item_faults static target at (kind_found x)
    ++ static_faults static at x.constant (number_found x))
    (option_and_then (item_value x.scope.structures u target) x.value) (part x)

-- ---- a list

abbrev pub item_count : Initializers → ℕ
item_count tree.no_initializers = 0
item_count (tree.initializers one rest) = item_count rest + 1

-- how many items fit
abbrev pub room_of : Target → Option ℕ
room_of Missing = None
room_of (ScalarTarget u) = Some 1
room_of (ArrayTarget n u) = Some n
room_of (StructureTarget k members) = Some (length members)

abbrev pub is_below : Option ℕ → ℕ → Bool
is_below None n = false
is_below (Some m) n = nat_lt m n

-- no more items than parts (C17 6.7.9p2), and one for a scalar
abbrev pub lacks_item : Target → ℕ → Bool
lacks_item (ScalarTarget u) count = count == 0
lacks_item _ count = false

abbrev pub count_faults : ℕ → ℕ → Target → List Fault
count_faults at count target =
    fault_if (is_below (room_of target) count || lacks_item target count) Mismatch at

-- the items as a whole: that of a scalar is its one item
abbrev pub only_item : typed.Initializers → Option typed.Initializer
only_item (typed.initializers i typed.no_initializers) = Some i
only_item _ = None

abbrev pub list_value : List Structure → Option CType → Target → typed.Initializers
    → Option typed.Initializer
list_value all (Some u) (ScalarTarget v) items = only_item items
list_value all (Some u) (ArrayTarget n v) items = Some
    (typed.ListInitializer items (cells_of all u))
list_value all (Some u) (StructureTarget k members) items =
    Some (typed.ListInitializer items (cells_of all u))
list_value all _ _ items = None

-- The list {E}, where E is an integer constant expression of value 0, sets all of an object to 0,
-- whatever the type of E: no conversion is written.
abbrev pub zero_value : List Structure → Option CType → Option typed.Expression
    → Option typed.Initializer
zero_value all u e = lift2 (λ v f. typed.ZeroInitializer f (cells_of all v)) u e

abbrev pub is_zero : Option Found → Bool
is_zero None = false
is_zero (Some x) = is_zero_constant (constant_found x)

abbrev pub zero_judged : Option CType → Option Found → Scope → Judged typed.Initializer
zero_judged u None s = judged [] None s
zero_judged u (Some x) s =
    judged x.faults (zero_value x.scope.structures u (number_found x)) x.scope

-- a list that starts here with so many items
abbrev pub list_judged : Option CType → ℕ → ℕ → Judged typed.Initializers → Judged typed.Initializer
list_judged u at count x =
    let target = target_of x.scope.structures u in
    judged_one (count_faults at count target)
    (option_and_then (list_value x.scope.structures u target) x.value) x

-- by what is found of its item, where it has one only and this is an expression
abbrev pub braced_judged : Option CType → ℕ → ℕ → Option Found → Judged typed.Initializers → Scope
    → Judged typed.Initializer
braced_judged u at count only x s =
    if is_zero only then zero_judged u only s else list_judged u at count x

abbrev pub only_expression : Initializers → Option Expression
only_expression (tree.initializers (tree.Single e) tree.no_initializers) = Some e
only_expression _ = None

abbrev pub items_judged : Judged typed.Initializer → Judged typed.Initializers
    → Judged typed.Initializers
items_judged x y = judged_two [] (lift2 typed.initializers x.value y.value) x y

-- An initializer of an object of this type, and the items of a list. `static` says that the object
-- has static storage duration.
abbrev mutual
  pub judge_initializer : Bool → Option CType → Initializer → Scope → Judged typed.Initializer
  judge_initializer static u (tree.Single e) s =
      single_judged static u (span_of e).start (judge e s)
  judge_initializer static u (tree.Braced items span) s =
      braced_judged u span.start (item_count items)
      (option_map (λ e. judge e s) (only_expression items))
      (judge_items static (parts_of (target_of s.structures u)) items s) s

  pub judge_items : Bool → Parts → Initializers → Scope → Judged typed.Initializers
  judge_items static parts tree.no_initializers s = judged [] (Some typed.no_initializers) s
  judge_items static parts (tree.initializers one rest) s =
      let x = judge_initializer static (first_part parts) one s in
      items_judged x (judge_items static (later_parts parts) rest x.scope)

-- ---- initial values

-- so many numbers: these, and then 0 (C17 6.7.9p10, p21)
abbrev pub filled : ℕ → List ℤ → List ℤ
filled n vs = vs ++ replicate (n - length vs) (pos 0)

-- the values of the cells of an object with static storage duration, converted already
abbrev mutual
  pub values_of : typed.Initializer → List ℤ
  values_of (typed.NumberInitializer e) = unwrap_or (constant_value e) (pos 0) ∷ []
  values_of (typed.StructureInitializer value n) = []
  values_of (typed.ListInitializer items n) = filled n (values_of_items items)
  values_of (typed.ZeroInitializer e n) = filled n []

  pub values_of_items : typed.Initializers → List ℤ
  values_of_items typed.no_initializers = []
  values_of_items (typed.initializers i rest) = values_of i ++ values_of_items rest
