-- Declarations are their two halves, and see of the faults of their parts the least alone.
use Rattle.std.proofs.Common.{◌≡◌, ◌∙◌, ℕ, true, false, List, [], ◌∷◌, ◌++◌, Option, Some, None, option_map, length, refl, sym, ap, append_assoc}
use Rattle.mc_tree.specs.Tree.{Name, ArrayLengths, Initializer}
use Rattle.mc_typed.specs.declared.expressions.Slot.{Slot}
use Rattle.mc_typed.specs.Layout.{ObjectType}
use Rattle.mc_typed.specs.Tree.{Declarator}
use Rattle.mc_typed.specs.Tree as t
use Rattle.types_faults.specs.declared.fault.Fault.{Fault}
use Rattle.types_faults.specs.Faults.{lesser, least_of, unless_faulty}
use Rattle.types_rules.specs.Types.{CType, ParameterKind}
use Rattle.types_rules.specs.Scopes.{Meaning, Automatic, Stored, Typedef, Scope, with_name, next_slot, next_static, cells_counted, with_counted, uncounted}
use Rattle.types_rules.specs.Values.{Judged, judged}
use Rattle.types_rules.specs.Declarators.{Listed}
use Rattle.types_rules.specs.Declarations.{Storage, count_listed, judge_optional_initializer, object_faults, layout_counted, after_initializer, counted_after, declarator_value, automatic_judged, static_faults_with, static_scope, static_value, static_judged, typedef_judged, typedef_faults, signature_listed, again_faults, function_faults, function_form_faults, function_judged}
use Rattle.types_declarations.specs.Declarations.{squeezed_listed}
use Rattle.types_declarations.specs.Halves.{Begun, squeezed_begun, Local, squeezed_local, automatic_begun, counted_cells, zero_or, counted_value, automatic_ended, StaticBegun, squeezed_static, static_begun, static_ended, typedef_begun, function_begun, declared_ended}
use Rattle.types_faults.specs.Kept.{listed, least}
use Rattle.types_scopes.specs.steps.Squeezed.{squeezed_part}
use Rattle.types_scopes.proofs.Squeezed.{least_front, least_back, least_least, least_two}
use Rattle.types_declarations.proofs.DeclarationFaults.{unless_same, counted_same, judged_same}

abbrev begun_by : List Fault → Scope → Begun
begun_by fs s = record { faults = fs; scope = s }

begun_same : (fs gs : List Fault) (s t : Scope) → fs ≡ gs → s ≡ t → begun_by fs s ≡ begun_by gs t
begun_same fs gs s t a b = cc

abbrev local_by : List Fault → List Fault → Slot → Option ℕ → Scope → Local
local_by fs own slot n s = record { faults = fs; own = own; slot = slot; counted = n; scope = s }

local_same : (fs gs own : List Fault) (slot : Slot) (n : Option ℕ) (s t : Scope) → fs ≡ gs → s ≡ t
    → local_by fs own slot n s ≡ local_by gs own slot n t
local_same fs gs own slot n s t a b = cc

abbrev static_from : List Fault → List Fault → Slot → Scope → StaticBegun
static_from fs own slot s = record { faults = fs; own = own; slot = slot; scope = s }

static_same : (fs gs own : List Fault) (slot : Slot) (s t : Scope) → fs ≡ gs → s ≡ t
    → static_from fs own slot s ≡ static_from gs own slot t
static_same fs gs own slot s t a b = cc

-- ---- no fault, or one

after_same : (fs gs : List Fault) (name : Name) (m : Meaning) (s : Scope) → least fs ≡ least gs
    → after_initializer fs name m s ≡ after_initializer gs name m s
after_same fs gs name m s h =
    sym (by_least fs) ∙ ap (λ (hs : List Fault). after_initializer hs name m s) h ∙ by_least gs
  where
    by_least : (fs : List Fault) → after_initializer (least fs) name m s ≡ after_initializer fs name m s
    by_least [] = refl
    by_least (f ∷ fs) = by_rest f (least_of fs)
      where
        by_rest : (f : Fault) (o : Option Fault)
            → after_initializer (listed (lesser (Some f) o)) name m s ≡ with_name name m s
        by_rest f None = refl
        by_rest f (Some g) = refl

uncounted_same : (fs gs : List Fault) (n : ℕ) (s : Scope) → least fs ≡ least gs → counted_after fs n s ≡ counted_after gs n s
uncounted_same fs gs n s h =
    sym (by_least fs) ∙ ap (λ (hs : List Fault). counted_after hs n s) h ∙ by_least gs
  where
    by_least : (fs : List Fault) → counted_after (least fs) n s ≡ counted_after fs n s
    by_least [] = refl
    by_least (f ∷ fs) = by_rest f (least_of fs)
      where
        by_rest : (f : Fault) (o : Option Fault) → counted_after (listed (lesser (Some f) o)) n s ≡ uncounted n s
        by_rest f None = refl
        by_rest f (Some g) = refl

-- ---- objects with automatic storage duration

value_counted : (slot : Slot) (u : Option ObjectType) (v : Option (Option t.Initializer))
    → declarator_value slot u v ≡ counted_value slot (option_map counted_cells u) v
value_counted slot None v = refl
value_counted slot (Some u) None = refl
value_counted slot (Some u) (Some v) = refl

cells_zero : (u : Option ObjectType) → cells_counted u ≡ zero_or (option_map counted_cells u)
cells_zero None = refl
cells_zero (Some u) = refl

pub automatic_halves : (faults : List Fault) (name : Name) (lengths : ArrayLengths) (base u : Option CType)
    (value : Option Initializer) (s : Scope)
    → automatic_judged faults name lengths base u value s
    ≡ automatic_ended (automatic_begun faults name lengths (count_listed value) base u s) name
    (judge_optional_initializer false (unless_faulty (automatic_begun faults name lengths (count_listed value) base u s).own u) value
    (automatic_begun faults name lengths (count_listed value) base u s).scope)
automatic_halves faults name lengths base u value s =
    let own = object_faults name lengths (count_listed value) base u s in
    let layout = layout_counted own u s in
    let b = automatic_begun faults name lengths (count_listed value) base u s in
    let x = judge_optional_initializer false (unless_faulty own u) value b.scope in
    judged_same (faults ++ (own ++ x.faults)) ((faults ++ own) ++ x.faults)
    (declarator_value (next_slot s) layout x.value) (counted_value (next_slot s) (option_map counted_cells layout) x.value)
    (counted_after x.faults (cells_counted layout) (after_initializer x.faults name (Automatic (next_slot s) None) x.scope))
    (counted_after x.faults (zero_or (option_map counted_cells layout)) (after_initializer x.faults name (Automatic (next_slot s) None) x.scope))
    (sym (append_assoc faults own x.faults)) (value_counted (next_slot s) layout x.value)
    (ap (λ (n : ℕ). counted_after x.faults n (after_initializer x.faults name (Automatic (next_slot s) None) x.scope)) (cells_zero layout))

pub automatic_begun_node : (faults : List Fault) (name : Name) (lengths : ArrayLengths) (count : Option ℕ) (base u : Option CType)
    (s : Scope)
    → squeezed_local (automatic_begun (least faults) name lengths count base u s)
    ≡ squeezed_local (automatic_begun faults name lengths count base u s)
automatic_begun_node faults name lengths count base u s =
    let own = object_faults name lengths count base u s in
    let layout = layout_counted own u s in
    let same = least_front faults own in
    local_same (least (least faults ++ own)) (least (faults ++ own)) (least own) (next_slot s) (option_map counted_cells layout)
    (with_counted layout (with_name name (Automatic (next_slot s) (unless_faulty (least faults ++ own) u)) s))
    (with_counted layout (with_name name (Automatic (next_slot s) (unless_faulty (faults ++ own) u)) s)) same
    (ap (λ (v : Option CType). with_counted layout (with_name name (Automatic (next_slot s) v) s))
    (unless_same (least faults ++ own) (faults ++ own) u same))

pub automatic_ended_node : (b : Local) (name : Name) (x : Judged (Option t.Initializer))
    → squeezed_part (automatic_ended (squeezed_local b) name (squeezed_part x)) ≡ squeezed_part (automatic_ended b name x)
automatic_ended_node b name x =
    let m = Automatic b.slot None in
    let n = zero_or b.counted in
    let same = ap listed (least_least x.faults) in
    judged_same (least (least b.faults ++ least x.faults)) (least (b.faults ++ x.faults))
    (counted_value b.slot b.counted x.value) (counted_value b.slot b.counted x.value)
    (counted_after (least x.faults) n (after_initializer (least x.faults) name m x.scope))
    (counted_after x.faults n (after_initializer x.faults name m x.scope))
    (least_front b.faults (least x.faults) ∙ least_back b.faults (least x.faults) x.faults same) refl
    (uncounted_same (least x.faults) x.faults n (after_initializer (least x.faults) name m x.scope) same
    ∙ ap (counted_after x.faults n) (after_same (least x.faults) x.faults name m x.scope same))

-- ---- objects with static storage duration

pub static_halves : (faults : List Fault) (name : Name) (lengths : ArrayLengths) (base u : Option CType)
    (value : Option Initializer) (s : Scope)
    → static_judged faults name lengths base u value s
    ≡ static_ended (static_begun faults name lengths (count_listed value) base u s) name u
    (judge_optional_initializer true (unless_faulty (static_begun faults name lengths (count_listed value) base u s).own u) value
    (static_begun faults name lengths (count_listed value) base u s).scope)
static_halves faults name lengths base u value s =
    let own = object_faults name lengths (count_listed value) base u s in
    let b = static_begun faults name lengths (count_listed value) base u s in
    let x = judge_optional_initializer true (unless_faulty own u) value b.scope in
    let layout = layout_counted (own ++ x.faults) u x.scope in
    let sum = static_faults_with name.span.start layout x.value x.scope in
    ap (λ (fs : List Fault). judged fs (static_value layout x.value)
    (static_scope layout x.value (after_initializer (x.faults ++ sum) name (Stored (next_static s) None) x.scope)))
    (sym (append_assoc faults own (x.faults ++ sum)))

-- ---- typedef names and functions

pub typedef_halves : (faults : List Fault) (name : Name) (lengths : ArrayLengths) (base u : Option CType)
    (value : Option Initializer) (s : Scope)
    → typedef_judged faults name lengths base u value s
    ≡ declared_ended (typedef_begun faults name lengths u value s).faults
    (judge_optional_initializer true None value (typedef_begun faults name lengths u value s).scope)
typedef_halves faults name lengths base u value s =
    let own = typedef_faults name lengths value s in
    let x = judge_optional_initializer true None value (typedef_begun faults name lengths u value s).scope in
    let none : Option (List Declarator) = Some [] in
    ap (λ (fs : List Fault). judged fs none x.scope) (sym (append_assoc faults own x.faults))

pub function_halves : (storage : Storage) (name : Name) (result : Option CType) (parameters : Listed (Option ParameterKind))
    (value : Option Initializer) (s : Scope)
    → function_judged storage name result parameters value s
    ≡ declared_ended (function_begun storage name result parameters value s).faults
    (judge_optional_initializer true None value (function_begun storage name result parameters value s).scope)
function_halves storage name result parameters value s =
    let f = signature_listed result parameters in
    let own = again_faults storage name f s
    ++ (function_faults name result (length parameters.items) f ++ function_form_faults storage value name.span.start) in
    let x = judge_optional_initializer true None value (function_begun storage name result parameters value s).scope in
    let none : Option (List Declarator) = Some [] in
    ap (λ (fs : List Fault). judged fs none x.scope) (sym (append_assoc parameters.faults own x.faults))

pub function_begun_node : (storage : Storage) (name : Name) (result : Option CType) (parameters : Listed (Option ParameterKind))
    (value : Option Initializer) (s : Scope)
    → squeezed_begun (function_begun storage name result (squeezed_listed parameters) value s)
    ≡ squeezed_begun (function_begun storage name result parameters value s)
function_begun_node storage name result parameters value s =
    let f = signature_listed result parameters in
    let own = again_faults storage name f s
    ++ (function_faults name result (length parameters.items) f ++ function_form_faults storage value name.span.start) in
    ap (λ (fs : List Fault). begun_by fs (function_begun storage name result parameters value s).scope)
    (least_front parameters.faults own)

pub declared_ended_node : (faults : List Fault) (x : Judged (Option t.Initializer))
    → squeezed_part (declared_ended (least faults) (squeezed_part x)) ≡ squeezed_part (declared_ended faults x)
declared_ended_node faults x =
    let none : Option (List Declarator) = Some [] in
    ap (λ (fs : List Fault). judged fs none x.scope)
    (least_front faults (least x.faults) ∙ least_back faults (least x.faults) x.faults (ap listed (least_least x.faults)))

pub typedef_begun_node : (faults : List Fault) (name : Name) (lengths : ArrayLengths) (u : Option CType)
    (value : Option Initializer) (s : Scope)
    → squeezed_begun (typedef_begun (least faults) name lengths u value s)
    ≡ squeezed_begun (typedef_begun faults name lengths u value s)
typedef_begun_node faults name lengths u value s =
    let own = typedef_faults name lengths value s in
    let same = least_front faults own in
    begun_same (least (least faults ++ own)) (least (faults ++ own))
    (with_name name (Typedef (unless_faulty (least faults ++ own) u)) s) (with_name name (Typedef (unless_faulty (faults ++ own) u)) s)
    same (ap (λ (v : Option CType). with_name name (Typedef v) s) (unless_same (least faults ++ own) (faults ++ own) u same))

pub static_begun_node : (faults : List Fault) (name : Name) (lengths : ArrayLengths) (count : Option ℕ) (base u : Option CType)
    (s : Scope)
    → squeezed_static (static_begun (least faults) name lengths count base u s)
    ≡ squeezed_static (static_begun faults name lengths count base u s)
static_begun_node faults name lengths count base u s =
    let own = object_faults name lengths count base u s in
    let same = least_front faults own in
    static_same (least (least faults ++ own)) (least (faults ++ own)) (least own) (next_static s)
    (with_name name (Stored (next_static s) (unless_faulty (least faults ++ own) u)) s)
    (with_name name (Stored (next_static s) (unless_faulty (faults ++ own) u)) s)
    same (ap (λ (v : Option CType). with_name name (Stored (next_static s) v) s) (unless_same (least faults ++ own) (faults ++ own) u same))

-- by the layout of the object
abbrev static_by : List Fault → Slot → Name → Option ObjectType → Judged (Option t.Initializer) → Judged (List Declarator)
static_by faults slot name layout x =
    let sum = static_faults_with name.span.start layout x.value x.scope in
    judged (faults ++ (x.faults ++ sum)) (static_value layout x.value)
    (static_scope layout x.value (after_initializer (x.faults ++ sum) name (Stored slot None) x.scope))

static_by_node : (faults : List Fault) (slot : Slot) (name : Name) (layout : Option ObjectType) (x : Judged (Option t.Initializer))
    → squeezed_part (static_by (least faults) slot name layout (squeezed_part x)) ≡ squeezed_part (static_by faults slot name layout x)
static_by_node faults slot name layout x =
    let m = Stored slot None in
    let sum = static_faults_with name.span.start layout x.value x.scope in
    judged_same (least (least faults ++ (least x.faults ++ sum))) (least (faults ++ (x.faults ++ sum)))
    (static_value layout x.value) (static_value layout x.value)
    (static_scope layout x.value (after_initializer (least x.faults ++ sum) name m x.scope))
    (static_scope layout x.value (after_initializer (x.faults ++ sum) name m x.scope))
    (least_two faults x.faults sum) refl
    (ap (static_scope layout x.value) (after_same (least x.faults ++ sum) (x.faults ++ sum) name m x.scope (least_front x.faults sum)))

pub static_ended_node : (b : StaticBegun) (name : Name) (u : Option CType) (x : Judged (Option t.Initializer))
    → squeezed_part (static_ended (squeezed_static b) name u (squeezed_part x)) ≡ squeezed_part (static_ended b name u x)
static_ended_node b name u x =
    let both = least_front b.own (least x.faults) ∙ least_back b.own (least x.faults) x.faults (ap listed (least_least x.faults)) in
    ap (λ (v : Option ObjectType). squeezed_part (static_by (least b.faults) b.slot name v (squeezed_part x)))
    (counted_same (least b.own ++ least x.faults) (b.own ++ x.faults) u x.scope both)
    ∙ static_by_node b.faults b.slot name (layout_counted (b.own ++ x.faults) u x.scope) x
