-- Declarations in two halves: before their initializers, and after them.
use Rattle.std.specs.Prelude.{ℕ, List, [], ◌∷◌, ◌++◌, length, Option, Some, None, option_map}
use Rattle.mc_tree.specs.Tree.{Name, ArrayLengths, Initializer}
use Rattle.mc_typed.specs.declared.expressions.Slot.{Slot}
use Rattle.mc_typed.specs.Layout.{ObjectType, cells}
use Rattle.mc_typed.specs.Tree.{Declarator}
use Rattle.mc_typed.specs.Tree as typed
use Rattle.types_faults.specs.declared.fault.Fault.{Fault}
use Rattle.types_faults.specs.Faults.{unless_faulty}
use Rattle.types_rules.specs.Profile as profile
use Rattle.types_rules.specs.Types.{CType, ParameterKind}
use Rattle.types_rules.specs.Scopes.{Automatic, Stored, Typedef, Scope, meaning_here, with_name, next_slot, next_static, with_counted}
use Rattle.types_rules.specs.Values.{Judged, judged}
use Rattle.types_rules.specs.Declarators.{Listed}
use Rattle.types_rules.specs.Declarations.{Storage, object_faults, layout_counted, after_initializer, counted_after, static_faults_with, static_scope, static_value, typedef_faults, signature_listed, again_faults, function_faults, function_form_faults, function_meaning}
use Rattle.types_declarations.specs.declared.locals.Local as local
use Rattle.types_declarations.specs.declared.statics.Stored as stored
use Rattle.types_faults.specs.Kept.{listed, least}

-- what is declared: its faults so far, and the scope of its initializer
pub record Begun : Type 0 where
  pub faults : List Fault
  pub scope : Scope

abbrev pub squeezed_begun : Begun → Begun
squeezed_begun x = record x { faults = least x.faults }

abbrev pub begun : Option Fault → Scope → Begun
begun f s = record { faults = listed f; scope = s }

-- ---- objects with automatic storage duration

-- also, the faults of the declarator itself, where the object stands, and its cells where they
-- count
pub record Local : Type 0 where
  pub faults : List Fault
  pub own : List Fault
  pub slot : Slot
  pub counted : Option ℕ
  pub scope : Scope

abbrev pub squeezed_local : Local → Local
squeezed_local x = record x { faults = least x.faults; own = least x.own }

abbrev pub local_of : local.Local → Scope → Local
local_of x s = record {
  faults = listed x.fault;
  own = listed x.own;
  slot = x.slot;
  counted = x.cells;
  scope = s;
}

abbrev pub counted_cells : ObjectType → ℕ
counted_cells u = profile.counted (cells u)

abbrev pub automatic_begun : List Fault → Name → ArrayLengths → Option ℕ → Option CType
    → Option CType → Scope → Local
automatic_begun faults name lengths count base u s =
    let own = object_faults name lengths count base u s in
    let layout = layout_counted own u s in
    record {
      faults = faults ++ own;
      own = own;
      slot = next_slot s;
      counted = option_map counted_cells layout;
      scope = with_counted layout
          (with_name name (Automatic (next_slot s) (unless_faulty (faults ++ own) u)) s);
    }

abbrev pub zero_or : Option ℕ → ℕ
zero_or None = 0
zero_or (Some n) = n

abbrev pub counted_value : Slot → Option ℕ → Option (Option typed.Initializer)
    → Option (List Declarator)
counted_value slot (Some n) (Some value) =
    Some (record { slot = slot; cells = n; value = value } ∷ [])
counted_value slot _ _ = None

abbrev pub automatic_ended : Local → Name → Judged (Option typed.Initializer)
    → Judged (List Declarator)
automatic_ended b name x = record {
  faults = b.faults ++ x.faults;
  value = counted_value b.slot b.counted x.value;
  scope = counted_after x.faults (zero_or b.counted)
      (after_initializer x.faults name (Automatic b.slot None) x.scope);
}

-- ---- objects with static storage duration

-- also, the faults of the declarator itself
pub record StaticBegun : Type 0 where
  pub faults : List Fault
  pub own : List Fault
  pub slot : Slot
  pub scope : Scope

abbrev pub squeezed_static : StaticBegun → StaticBegun
squeezed_static x = record x { faults = least x.faults; own = least x.own }

abbrev pub stored_of : stored.Stored → Scope → StaticBegun
stored_of x s =
    record { faults = listed x.fault; own = listed x.own; slot = x.slot; scope = s }

abbrev pub static_begun : List Fault → Name → ArrayLengths → Option ℕ → Option CType
    → Option CType → Scope → StaticBegun
static_begun faults name lengths count base u s =
    let own = object_faults name lengths count base u s in
    record {
      faults = faults ++ own;
      own = own;
      slot = next_static s;
      scope = with_name name (Stored (next_static s) (unless_faulty (faults ++ own) u)) s;
    }

abbrev pub static_ended : StaticBegun → Name → Option CType → Judged (Option typed.Initializer)
    → Judged (List Declarator)
static_ended b name u x =
    let layout = layout_counted (b.own ++ x.faults) u x.scope in
    let sum = static_faults_with name.span.start layout x.value x.scope in
    record {
      faults = b.faults ++ (x.faults ++ sum);
      value = static_value layout x.value;
      scope = static_scope layout x.value
          (after_initializer (x.faults ++ sum) name (Stored b.slot None) x.scope);
    }

-- ---- typedef names and functions

abbrev pub typedef_begun : List Fault → Name → ArrayLengths → Option CType → Option Initializer
    → Scope → Begun
typedef_begun faults name lengths u value s =
    let own = typedef_faults name lengths value s in
    record {
      faults = faults ++ own;
      scope = with_name name (Typedef (unless_faulty (faults ++ own) u)) s;
    }

abbrev pub function_begun : Storage → Name → Option CType → Listed (Option ParameterKind)
    → Option Initializer → Scope → Begun
function_begun storage name result parameters value s =
    let f = signature_listed result parameters in
    let own = again_faults storage name f s
    ++ (function_faults name result (length parameters.items) f
    ++ function_form_faults storage value name.span.start) in
    record {
      faults = parameters.faults ++ own;
      scope = with_name name
          (function_meaning storage (unless_faulty own f) (meaning_here name s)) s;
    }

-- they declare no object
abbrev pub declared_ended : List Fault → Judged (Option typed.Initializer)
    → Judged (List Declarator)
declared_ended faults x = record { faults = faults ++ x.faults; value = Some []; scope = x.scope }

-- an initializer that is there
abbrev pub optional_judged : Judged typed.Initializer → Judged (Option typed.Initializer)
optional_judged x = judged x.faults (option_map Some x.value) x.scope
