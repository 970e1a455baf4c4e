-- Declarations of objects, functions and typedef names (C17 6.7, 6.9.2).
use Rattle.std.specs.Prelude.{ℕ, zero, suc, min, ℤ, Bool, true, false, not, ◌&&◌, ◌||◌, if◌then◌else◌, List, [], ◌∷◌, ◌++◌, length, Option, Some, None, option_map, is_some}
use Rattle.mc_tree.specs.declared.declarations.specifier_word.SpecifierWord.TheVariants as word
use Rattle.mc_tree.specs.Tree.{Name, Specifier, Specifiers, ArrayLengths, Initializer, InitDeclarator, Declaration}
use Rattle.mc_tree.specs.Tree as tree
use Rattle.mc_value.specs.declared.int_type.IntType.TheVariants as the
use Rattle.mc_typed.specs.declared.expressions.Slot.{Slot}
use Rattle.mc_typed.specs.Layout.{ObjectType, cells}
use Rattle.mc_typed.specs.Tree.{Declarator}
use Rattle.mc_typed.specs.Tree as typed
use Rattle.types_faults.specs.declared.fault.Fault.{Fault}
use Rattle.types_faults.specs.declared.fault.FaultKind.TheVariants.{Redeclared, Mismatch}
use Rattle.types_faults.specs.Faults.{fault, fault_if, unless_faulty}
use Rattle.types_rules.specs.Profile.{counted, most_kept}
use Rattle.types_rules.specs.Types.{Base, Void, Integer, CType, has, layout_of, ParameterKind, ByValue, Signature, same_signature}
use Rattle.types_rules.specs.Scopes.{Meaning, Automatic, Stored, Function, Typedef, Scope, meaning_here, is_input, is_output, with_name, next_slot, next_static, with_counted, cells_counted, uncounted, with_static, prototype}
use Rattle.types_rules.specs.Values.{Judged, judged, judged_two, lift2}
use Rattle.types_rules.specs.Limits.{object_limit_faults, static_limit_faults, parameter_count_faults}
use Rattle.types_rules.specs.Declarators.{Listed, redeclared_faults, misnamed_faults, declared_type, absent_faults, incomplete_faults}
use Rattle.types_rules.specs.Judgement.{typed_by, after, judge_specifiers, judge_lengths, judge_parameters}
use Rattle.types_rules.specs.Initializers.{item_count, judge_initializer, filled, values_of}

-- ---- storage (C17 6.2.4, 6.7.1)

pub data Storage : Type 0 where
  TypedefStorage : Storage
  StaticStorage : Storage
  AutomaticStorage : Storage

abbrev pub storage_of : Specifiers → Bool → Storage
storage_of all is_file =
    if has word.Typedef all then TypedefStorage
    else if is_file || has word.Static all then StaticStorage
    else AutomaticStorage

-- ---- objects

-- the number of items, where the initializer is a list; no list without items is read
abbrev pub at_least_one : ℕ → Option ℕ
at_least_one zero = None
at_least_one (suc n) = Some (min (suc n) most_kept)

abbrev pub count_listed : Option Initializer → Option ℕ
count_listed (Some (tree.Braced items span)) = at_least_one (item_count items)
count_listed _ = None

-- an initializer, where there is one
abbrev pub judge_optional_initializer : Bool → Option CType → Option Initializer → Scope
    → Judged (Option typed.Initializer)
judge_optional_initializer static u None s = judged [] (Some None) s
judge_optional_initializer static u (Some i) s =
    let x = judge_initializer static u i s in judged x.faults (option_map Some x.value) x.scope

-- the faults of the declarator of an object itself, with the type of its specifiers and its own
abbrev pub object_faults : Name → ArrayLengths → Option ℕ → Option CType → Option CType → Scope
    → List Fault
object_faults name lengths count base u s =
    redeclared_faults name s
    ++ (misnamed_faults name s
    ++ (absent_faults lengths count name.span.start
    ++ (incomplete_faults s.structures base name.span.start
    ++ object_limit_faults s.structures u name.span.start)))

-- An object without a fault has cells; `faults` are those found before.
abbrev pub layout_counted : List Fault → Option CType → Scope → Option ObjectType
layout_counted [] (Some u) s = Some (layout_of s.structures u)
layout_counted _ _ s = None

-- The initializer of a name has these faults: with one, the name has no type after it.
abbrev pub after_initializer : List Fault → Name → Meaning → Scope → Scope
after_initializer [] name untyped s = s
after_initializer (f ∷ fs) name untyped s = with_name name untyped s

-- an object with so many cells counts only where its initializer has no fault
abbrev pub counted_after : List Fault → ℕ → Scope → Scope
counted_after [] n s = s
counted_after (f ∷ fs) n s = uncounted n s

abbrev pub declarator_value : Slot → Option ObjectType → Option (Option typed.Initializer)
    → Option (List Declarator)
declarator_value slot (Some layout) (Some value) =
    Some (record { slot = slot; cells = counted (cells layout); value = value } ∷ [])
declarator_value slot _ _ = None

-- The name is in scope in its initializer (C17 6.2.1p7), and the object stands before those that
-- the initializer makes. With a fault in its declaration a name has no type, and with one of its
-- declarator there is none that the initializer would have to fit.
abbrev pub automatic_judged : List Fault → Name → ArrayLengths → Option CType → Option CType
    → Option Initializer → Scope → Judged (List Declarator)
automatic_judged faults name lengths base u value s =
    let own = object_faults name lengths (count_listed value) base u s in
    let layout = layout_counted own u s in
    let meaning = Automatic (next_slot s) in
    let declared =
    with_counted layout (with_name name (meaning (unless_faulty (faults ++ own) u)) s) in
    let x = judge_optional_initializer false (unless_faulty own u) value declared in
    record {
      faults = faults ++ (own ++ x.faults);
      value = declarator_value (next_slot s) layout x.value;
      scope = counted_after x.faults (cells_counted layout)
          (after_initializer x.faults name (meaning None) x.scope);
    }

-- the values of all cells, 0 without an initializer (C17 6.7.9p10)
abbrev pub initial_values : ObjectType → Option typed.Initializer → List ℤ
initial_values layout None = filled (counted (cells layout)) []
initial_values layout (Some i) = values_of i

-- an object without a fault counts among those with static storage duration
abbrev pub static_faults_with : ℕ → Option ObjectType → Option (Option typed.Initializer) → Scope
    → List Fault
static_faults_with at (Some layout) (Some value) s =
    static_limit_faults s.static_cells (length s.statics) layout at
static_faults_with at _ _ s = []

abbrev pub static_scope : Option ObjectType → Option (Option typed.Initializer) → Scope → Scope
static_scope (Some layout) (Some value) s = with_static layout (initial_values layout value) s
static_scope _ _ s = s

abbrev pub static_value : Option ObjectType → Option (Option typed.Initializer)
    → Option (List Declarator)
static_value (Some layout) (Some value) = Some []
static_value _ _ = None

abbrev pub static_judged : List Fault → Name → ArrayLengths → Option CType → Option CType
    → Option Initializer → Scope → Judged (List Declarator)
static_judged faults name lengths base u value s =
    let own = object_faults name lengths (count_listed value) base u s in
    let meaning = Stored (next_static s) in
    let declared = with_name name (meaning (unless_faulty (faults ++ own) u)) s in
    let x = judge_optional_initializer true (unless_faulty own u) value declared in
    let layout = layout_counted (own ++ x.faults) u x.scope in
    let sum = static_faults_with name.span.start layout x.value x.scope in
    record {
      faults = faults ++ (own ++ (x.faults ++ sum));
      value = static_value layout x.value;
      scope = static_scope layout x.value
          (after_initializer (x.faults ++ sum) name (meaning None) x.scope);
    }

-- ---- typedef names (C17 6.7.8)

-- a typedef has no initializer, and its length is not absent
abbrev pub typedef_faults : Name → ArrayLengths → Option Initializer → Scope → List Fault
typedef_faults name lengths value s =
    redeclared_faults name s
    ++ (misnamed_faults name s
    ++ (absent_faults lengths None name.span.start
    ++ fault_if (is_some value) Mismatch name.span.start))

abbrev pub typedef_judged : List Fault → Name → ArrayLengths → Option CType → Option CType
    → Option Initializer → Scope → Judged (List Declarator)
typedef_judged faults name lengths base u value s =
    let own = typedef_faults name lengths value s in
    let declared = with_name name (Typedef (unless_faulty (faults ++ own) u)) s in
    let x = judge_optional_initializer true None value declared in
    record {
      faults = faults ++ (own ++ x.faults);
      value = Some [];
      scope = x.scope;
    }

-- by the faults of its lengths, the type of its specifiers, and its own
abbrev pub object_judged : Storage → List Fault → Name → ArrayLengths → Option CType
    → Option CType → Option Initializer → Scope → Judged (List Declarator)
object_judged TypedefStorage = typedef_judged
object_judged StaticStorage = static_judged
object_judged AutomaticStorage = automatic_judged

-- ---- functions (C17 6.7.6.3)

abbrev pub all_of : {A : Type 0} → List (Option A) → Option (List A)
all_of [] = Some []
all_of (None ∷ rest) = None
all_of (Some a ∷ rest) = option_map (λ others. a ∷ others) (all_of rest)

-- a function returns no array (C17 6.7.6.3p1)
abbrev pub result_of_lengths : Base → List ℕ → Option Base
result_of_lengths b [] = Some b
result_of_lengths b (n ∷ ns) = None

abbrev pub result_of : Option CType → Option Base
result_of None = None
result_of (Some u) = result_of_lengths u.base u.lengths

abbrev pub has_lengths : List ℕ → Bool
has_lengths [] = false
has_lengths (n ∷ ns) = true

abbrev pub is_array_type : Option CType → Bool
is_array_type None = false
is_array_type (Some u) = has_lengths u.lengths

abbrev pub signature_of : Option Base → Option (List ParameterKind) → Option Signature
signature_of (Some b) (Some ps) = Some (record { result = b; parameters = ps })
signature_of _ _ = None

-- whether the name stands for a function with a body already
abbrev pub has_body : Option Meaning → Bool
has_body (Some (Function f b)) = b
has_body _ = false

abbrev pub differs : Option Signature → Option Signature → Bool
differs (Some f) (Some g) = not (same_signature f g)
differs _ _ = false

-- Declarations of a function may be repeated, with one type; what is none is declared again.
abbrev pub repeated_faults : Option Meaning → Option Signature → ℕ → List Fault
repeated_faults None f at = []
repeated_faults (Some (Function g b)) f at = fault_if (differs g f) Mismatch at
repeated_faults (Some _) f at = fault Redeclared at

-- int mcdc_in(void); void mcdc_out(int);
abbrev pub input_signature : Signature
input_signature = record { result = Integer the.Int; parameters = [] }

abbrev pub output_signature : Signature
output_signature = record { result = Void; parameters = ByValue (Integer the.Int) ∷ [] }

abbrev pub external_faults : Name → Option Signature → List Fault
external_faults name f =
    fault_if ((is_input name && differs (Some input_signature) f)
    || (is_output name && differs (Some output_signature) f)) Mismatch name.span.start

abbrev pub function_faults : Name → Option CType → ℕ → Option Signature → List Fault
function_faults name result count f =
    external_faults name f
    ++ (fault_if (is_array_type result) Mismatch name.span.start
    ++ parameter_count_faults count name.span.start)

abbrev pub signature_listed : Option CType → Listed (Option ParameterKind) → Option Signature
signature_listed result x = signature_of (result_of result) (all_of x.items)

-- a typedef has no function declarator, and no function declarator has an initializer
abbrev pub function_form_faults : Storage → Option Initializer → ℕ → List Fault
function_form_faults TypedefStorage value at = fault Mismatch at
function_form_faults _ value at = fault_if (is_some value) Mismatch at

-- a typedef name is declared once
abbrev pub again_faults : Storage → Name → Option Signature → Scope → List Fault
again_faults TypedefStorage name f s = redeclared_faults name s
again_faults _ name f s = repeated_faults (meaning_here name s) f name.span.start

abbrev pub function_meaning : Storage → Option Signature → Option Meaning → Meaning
function_meaning TypedefStorage f before = Typedef None
function_meaning _ f before = Function f (has_body before)

abbrev pub function_judged : Storage → Name → Option CType → Listed (Option ParameterKind)
    → Option Initializer → Scope → Judged (List Declarator)
function_judged storage name result parameters value s =
    let f = signature_listed result parameters in
    let own = again_faults storage name f s
    ++ (function_faults name result (length parameters.items) f
    ++ function_form_faults storage value name.span.start) in
    let x = judge_optional_initializer true None value
    (with_name name (function_meaning storage (unless_faulty own f) (meaning_here name s)) s) in
    record {
      faults = parameters.faults ++ (own ++ x.faults);
      value = Some [];
      scope = x.scope;
    }

-- ---- whole declarations

abbrev pub judge_init : Storage → Option CType → tree.Declarator → Option Initializer → Scope
    → Judged (List Declarator)
judge_init storage base (tree.object stars name lengths span) value s =
    let x = judge_lengths lengths s in
    object_judged storage x.faults name lengths base
    (declared_type lengths x.value (count_listed value) base) value x.scope
judge_init storage base (tree.function stars name all span) value s =
    function_judged storage name base (judge_parameters all (prototype s)) value s

abbrev pub judge_init_declarator : Storage → Option CType → InitDeclarator → Scope
    → Judged (List Declarator)
judge_init_declarator storage base (tree.bare d) s = judge_init storage base d None s
judge_init_declarator storage base (tree.initialized d value) s =
    judge_init storage base d (Some value) s

abbrev pub append : {A : Type 0} → List A → List A → List A
append xs ys = xs ++ ys

abbrev pub both_lists : {A : Type 0} → Judged (List A) → Judged (List A) → Judged (List A)
both_lists x y = judged_two [] (lift2 append x.value y.value) x y

abbrev pub judge_init_declarators : Storage → Option CType → List InitDeclarator → Scope
    → Judged (List Declarator)
judge_init_declarators storage base [] s = judged [] (Some []) s
judge_init_declarators storage base (d ∷ ds) s =
    let x = judge_init_declarator storage base d s in
    both_lists x (judge_init_declarators storage base ds x.scope)

-- `struct S;`
abbrev pub is_tag_alone : Specifiers → List InitDeclarator → Bool
is_tag_alone (tree.specifiers (tree.StructureTag tag span) tree.no_specifiers) [] = true
is_tag_alone _ _ = false

abbrev pub declares : Specifier → Bool
declares (tree.StructureTag tag span) = true
declares (tree.Structure (Some tag) all span) = true
declares (tree.EnumerationTag tag span) = true
declares (tree.Enumeration tag all span) = true
declares _ = false

abbrev pub any_declares : Specifiers → Bool
any_declares tree.no_specifiers = false
any_declares (tree.specifiers one rest) = declares one || any_declares rest

-- a declaration declares a declarator, a tag, or the members of an enumeration (C17 6.7p2)
abbrev pub empty_faults : Specifiers → List InitDeclarator → ℕ → List Fault
empty_faults all [] at = fault_if (not (any_declares all)) Mismatch at
empty_faults all (d ∷ ds) at = []

-- the objects with automatic storage duration that a declaration declares
abbrev pub judge_declaration : Declaration → Scope → Judged (List Declarator)
judge_declaration (tree.declaration all ds span) s =
    let x = typed_by span.start all (judge_specifiers (is_tag_alone all ds) all s) in
    after (x.faults ++ empty_faults all ds span.start)
    (judge_init_declarators (storage_of all s.is_file) x.value ds x.scope)
