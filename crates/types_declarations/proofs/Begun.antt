-- What is declared by the program, step by step, is what the definitions declare.
use Rattle.std.proofs.Common.{◌≡◌, ◌∙◌, ℕ, ◌+◌, ℤ, pos, ◌+ℤ◌, option_and_then, List, [], ◌∷◌, ◌++◌, take, drop, length, Option, Some, None, true, option_map, refl, sym, ap, append_assoc, length-append}
use Rattle.mc_tree.specs.Tree.{Name, ArrayLengths}
use Rattle.mc_typed.specs.declared.expressions.Slot.{Slot}
use Rattle.mc_typed.specs.Layout.{ObjectType}
use Rattle.types_faults.specs.declared.fault.Fault.{Fault}
use Rattle.types_faults.specs.Faults.{lesser, least_of, unless_faulty}
use Rattle.types_rules.specs.Types.{CType, ParameterKind, Signature}
use Rattle.types_rules.specs.Scopes.{Entry, Meaning, Automatic, Constant, Function, Scope, body_scope, with_name, next_slot, with_counted}
use Rattle.types_rules.specs.Values.{Found, Judged, judged, lift2, number_found}
use Rattle.types_rules.specs.Constants.{constant_found, constant_faults}
use Rattle.types_rules.specs.Declarators.{Listed, enumerator_faults, in_int, valued_enumerator_judged, length_of, length_faults, declared_type, declared_parameter, parameter_faults, parameter_kind, parameter_listed}
use Rattle.types_rules.specs.Declarations.{object_faults, layout_counted}
use Rattle.types_rules.specs.Typing.{with_function}
use Rattle.types_scopes.specs.Prototypes.{body_in}
use Rattle.types_declarations.specs.Declarations.{with_length, length_then, squeezed_listed}
use Rattle.types_declarations.specs.Halves.{Local, squeezed_local, automatic_begun, counted_cells}
use Rattle.types_faults.specs.Kept.{listed, least}
use Rattle.types_scopes.specs.steps.Squeezed.{squeezed_part}
use Rattle.types_scopes.proofs.Squeezed.{joined_listed, joined_leasts}
use Rattle.types_declarations.proofs.DeclarationFaults.{counted_by_least, unless_by_least, judged_same, listed_by, listed_same}

-- ---- objects

abbrev local_with : List Fault → List Fault → Slot → Option ℕ → Scope → Local
local_with fs own slot n s = record { faults = fs; own = own; slot = slot; counted = n; scope = s }

local_all : (fs gs ds es : List Fault) (a b : Slot) (m n : Option ℕ) (s t : Scope) → fs ≡ gs → ds ≡ es → a ≡ b → m ≡ n → s ≡ t
    → local_with fs ds a m s ≡ local_with gs es b n t
local_all fs gs ds es a b m n s t p d q r u = cc

counted_named : (fs : List Fault) (u : Option CType) (name : Name) (m : Meaning) (s : Scope)
    → layout_counted fs u (with_name name m s) ≡ layout_counted fs u s
counted_named [] (Some u) name m s = refl
counted_named [] None name m s = refl
counted_named (f ∷ fs) (Some u) name m s = refl
counted_named (f ∷ fs) None name m s = refl

pub begun_local : (faults : Option Fault) (name : Name) (lengths : ArrayLengths) (count : Option ℕ) (base u : Option CType)
    (s : Scope) (own f : Option Fault) (slot : Slot) (n : Option ℕ) (copied typed : Option CType) (t v : Scope)
    → own ≡ least_of (object_faults name lengths count base u s)
    → f ≡ least_of (listed faults ++ object_faults name lengths count base u s)
    → slot ≡ next_slot s → copied ≡ u
    → typed ≡ unless_faulty (listed faults ++ object_faults name lengths count base u s) copied
    → t ≡ with_name name (Automatic slot typed) s
    → n ≡ option_map counted_cells (layout_counted (listed own) u t)
    → v ≡ with_counted (layout_counted (listed own) u t) t
    → local_with (listed f) (listed own) slot n v ≡ squeezed_local (automatic_begun (listed faults) name lengths count base u s)
begun_local faults name lengths count base u s own f slot n copied typed t v ko kf ks kc kt kn km kv =
    let fs = object_faults name lengths count base u s in
    let all = listed faults ++ fs in
    let m = Automatic (next_slot s) (unless_faulty all u) in
    let named = kn ∙ ap (λ (x : Slot). with_name name (Automatic x typed) s) ks
    ∙ ap (λ (x : Option CType). with_name name (Automatic (next_slot s) x) s) (kt ∙ ap (unless_faulty all) kc) in
    let layout = ap (λ (o : Option Fault). layout_counted (listed o) u t) ko ∙ counted_by_least fs u t
    ∙ ap (λ (x : Scope). layout_counted fs u x) named ∙ counted_named fs u name m s in
    local_all (listed f) (least all) (listed own) (least fs) slot (next_slot s) n (option_map counted_cells (layout_counted fs u s)) v
    (with_counted (layout_counted fs u s) (with_name name m s)) (ap listed kf) (ap listed ko) ks
    (km ∙ ap (λ (x : Option ObjectType). option_map counted_cells x) layout)
    (kv ∙ ap (λ (x : Option ObjectType). with_counted x t) layout
    ∙ ap (λ (x : Scope). with_counted (layout_counted fs u s) x) named)

-- ---- enumerators and lengths

pub enumerator_found : (name : Name) (at : ℕ) (x : Found) (v w : Option ℤ) (f : Option Fault) (t : Scope)
    → v ≡ constant_found x
    → f ≡ least_of (x.faults ++ (enumerator_faults name v x.scope ++ constant_faults at x.constant (number_found x)))
    → w ≡ option_map (λ n. n +ℤ pos 1) (in_int v)
    → t ≡ with_name name (Constant (in_int v)) x.scope
    → judged (listed f) w t ≡ squeezed_part (valued_enumerator_judged name at x)
enumerator_found name at x v w f t kv kf kw kt =
    let ks = constant_faults at x.constant (number_found x) in
    judged_same (listed f) (least (x.faults ++ (enumerator_faults name v x.scope ++ ks))) w (option_map (λ n. n +ℤ pos 1) (in_int v)) t
    (with_name name (Constant (in_int v)) x.scope) (ap listed kf) kw kt
    ∙ ap (λ (n : Option ℤ). judged (least (x.faults ++ (enumerator_faults name n x.scope ++ ks)))
    (option_map (λ m. m +ℤ pos 1) (in_int n)) (with_name name (Constant (in_int n)) x.scope)) kv

pub lengths_found : (x : Judged (List ℕ)) (at : ℕ) (y : Found) (f : Option Fault) (v : Option (List ℕ)) (n : Option ℕ) (w : Option ℤ)
    → f ≡ least_of (x.faults ++ (y.faults ++ length_faults at y.constant (number_found y)))
    → v ≡ lift2 with_length x.value n → n ≡ option_and_then length_of w → w ≡ constant_found y
    → judged (listed f) v y.scope ≡ squeezed_part (length_then x at y)
lengths_found x at y f v n w kf kv kn kw =
    judged_same (listed f) (least (x.faults ++ (y.faults ++ length_faults at y.constant (number_found y)))) v
    (lift2 with_length x.value (option_and_then length_of (constant_found y))) y.scope y.scope (ap listed kf)
    (kv ∙ ap (lift2 with_length x.value) (kn ∙ ap (option_and_then length_of) kw)) refl

-- ---- parameters

-- all faults of a parameter of this type
abbrev parameter_all : Option Name → ℕ → ArrayLengths → Option CType → Option Fault → Option Fault → Scope → Option CType
    → List Fault
parameter_all name at lengths base typed before s u =
    listed typed ++ (listed before ++ parameter_faults name at lengths base u s)

abbrev parameter_by : Option Name → List Fault → Scope → Option CType → Listed (Option ParameterKind)
parameter_by name fs s u =
    let kind = unless_faulty fs (parameter_kind s.structures u) in
    listed_by (least fs) (kind ∷ []) (declared_parameter name (unless_faulty fs u) kind s)

parameter_steps : (name : Option Name) (f : Option Fault) (fs : List Fault) (s t : Scope) (u v : Option CType)
    (kind k : Option ParameterKind) (items : List (Option ParameterKind))
    → kind ≡ parameter_kind s.structures u → f ≡ least_of fs → v ≡ unless_faulty fs u → k ≡ unless_faulty (listed f) kind
    → t ≡ declared_parameter name v k s → items ≡ k ∷ []
    → listed_by (listed f) items t ≡ parameter_by name fs s u
parameter_steps name f fs s t u v kind k items kk kf kv k2 kt ki =
    let known = k2 ∙ unless_by_least fs f kind kf ∙ ap (unless_faulty fs) kk in
    listed_same (listed f) (least fs) items (unless_faulty fs (parameter_kind s.structures u) ∷ []) t
    (declared_parameter name (unless_faulty fs u) (unless_faulty fs (parameter_kind s.structures u)) s)
    (ap listed kf) (ki ∙ ap (λ (x : Option ParameterKind). x ∷ []) known)
    (kt ∙ ap (λ (x : Option CType). declared_parameter name x k s) kv
    ∙ ap (λ (x : Option ParameterKind). declared_parameter name (unless_faulty fs u) x s) known)

pub parameter_found : (name : Option Name) (at : ℕ) (lengths : ArrayLengths) (base : Option CType) (typed before f : Option Fault)
    (given : Option (List ℕ)) (s t : Scope) (u v : Option CType) (kind k : Option ParameterKind) (items : List (Option ParameterKind))
    → u ≡ declared_type lengths given (Some 1) base
    → kind ≡ parameter_kind s.structures u
    → f ≡ least_of (listed typed ++ (listed before ++ parameter_faults name at lengths base u s))
    → v ≡ unless_faulty (listed typed ++ (listed before ++ parameter_faults name at lengths base u s)) u
    → k ≡ unless_faulty (listed f) kind
    → t ≡ declared_parameter name v k s
    → items ≡ k ∷ []
    → listed_by (listed f) items t
    ≡ squeezed_listed (parameter_listed name at lengths base (listed typed) (judged (listed before) given s))
parameter_found name at lengths base typed before f given s t u v kind k items ku kk kf kv k2 kt ki =
    parameter_steps name f (parameter_all name at lengths base typed before s u) s t u v kind k items kk kf kv k2 kt ki
    ∙ ap (λ (w : Option CType). parameter_by name (parameter_all name at lengths base typed before s w) s w) ku

-- ---- definitions

pub head_joined : (t p own fn rep un a b d e g : Option Fault) (ns rs fs ds : List Fault)
    → own ≡ least_of ds → fn ≡ least_of fs → rep ≡ least_of rs → un ≡ least_of ns
    → a ≡ lesser fn own → b ≡ lesser rep a → d ≡ lesser un b → e ≡ lesser p d → g ≡ lesser t e
    → g ≡ least_of (listed t ++ (listed p ++ (ns ++ (rs ++ (fs ++ ds)))))
head_joined t p own fn rep un a b d e g ns rs fs ds k1 k2 k3 k4 k5 k6 k7 k8 k9 =
    let j1 = joined_listed t (listed p ++ (ns ++ (rs ++ (fs ++ ds)))) in
    let j2 = joined_listed p (ns ++ (rs ++ (fs ++ ds))) in
    let j3 = joined_leasts ns (rs ++ (fs ++ ds)) in
    let j4 = joined_leasts rs (fs ++ ds) in
    let j5 = joined_leasts fs ds in
    cc

abbrev placed : Scope → List Entry → ℕ → Scope
placed s names n = record s { names = names; names_from = n }

placed_same : (s : Scope) (xs ys : List Entry) (m n : ℕ) → xs ≡ ys → m ≡ n → placed s xs m ≡ placed s ys n
placed_same s xs ys m n a b = cc

pub body_placed : (name : Name) (f : Option Signature) (o s : Scope) (n : ℕ) → n ≡ length o.names
    → take (length o.names) s.names ≡ o.names
    → body_in n name (Function f true) s ≡ body_scope o (with_function name f o) s
body_placed name f o s n kn kt =
    let e : List Entry = record { name = name.text; meaning = Function f true } ∷ [] in
    let k = length o.names in
    ap (λ (m : ℕ). body_in m name (Function f true) s) kn
    ∙ placed_same s (take k s.names ++ (e ++ drop k s.names)) ((o.names ++ e) ++ drop k s.names) (k + 1) (length (o.names ++ e))
    (ap (λ (xs : List Entry). xs ++ (e ++ drop k s.names)) kt ∙ sym (append_assoc o.names e (drop k s.names)))
    (sym (length-append o.names e))
