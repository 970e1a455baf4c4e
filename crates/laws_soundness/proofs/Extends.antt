-- Declarations: what is declared stays.
use Rattle.std.proofs.Common.{ℕ, Bool, true, false, List, [], ◌∷◌, ◌++◌, Option, Some, None, refl, ℤ}
use Rattle.mc_tree.specs.Tree.{Name, Specifiers, ArrayLengths, Initializer, InitDeclarator, Declaration, Parameters}
use Rattle.mc_tree.specs.Tree as tree
use Rattle.mc_typed.specs.Layout.{ObjectType}
use Rattle.mc_typed.specs.Tree.{Object, StaticObject}
use Rattle.mc_typed.specs.Tree as t
use Rattle.types_faults.specs.declared.fault.Fault.{Fault}
use Rattle.types_faults.specs.Faults.{unless_faulty}
use Rattle.types_rules.specs.Types.{CType, ParameterKind}
use Rattle.types_rules.specs.Scopes.{Entry, Meaning, Automatic, Scope, next_slot, cells_counted, with_name, with_counted, with_static, prototype}
use Rattle.types_rules.specs.Declarators.{Listed, declared_type}
use Rattle.types_rules.specs.Judgement.{typed_by, judge_specifiers, judge_lengths, judge_parameters}
use Rattle.types_rules.specs.Declarations.{Storage, TypedefStorage, StaticStorage, AutomaticStorage, storage_of, count_listed, judge_optional_initializer, object_faults, layout_counted, after_initializer, counted_after, automatic_judged, static_scope, static_judged, typedef_judged, object_judged, function_judged, judge_init, judge_init_declarator, judge_init_declarators, is_tag_alone, judge_declaration}
use Rattle.laws_soundness.specs.Growth.{IsBelow, MeansNoFunction, Grown, Extended}
use Rattle.laws_soundness.proofs.Lists.{begins_refl, begins_with}
use Rattle.laws_soundness.proofs.Grows.{grown_refl, grown_trans, grown_name, grown_counted, grown_uncounted, specifiers_grow, lengths_grow}
use Rattle.laws_soundness.proofs.Fitting.{extended, extended_refl, extended_trans}
use Rattle.laws_soundness.proofs.Initializers.{initializer_grows}

pub optional_grows : (static : Bool) (u : Option CType) (i : Option Initializer) (s : Scope)
    → Grown s (judge_optional_initializer static u i s).scope
optional_grows static u None s = grown_refl s
optional_grows static u (Some i) s = initializer_grows static u i s

after_grows : (fs : List Fault) (name : Name) (m : Meaning) (s : Scope) → ((n : ℕ) → IsBelow n m)
    → MeansNoFunction m → Grown s (after_initializer fs name m s)
after_grows [] name m s below none = grown_refl s
after_grows (f ∷ fs) name m s below none = grown_name name m s below none

name_extends : (name : Name) (m : Meaning) (s : Scope) → Extended s (with_name name m s)
name_extends name m s = record {
  names = begins_with Entry s.names _;
  structures = λ k x h n. h;
  statics = begins_refl StaticObject s.statics;
  objects = begins_refl Object s.objects;
  bodies = refl;
  names_from = refl;
  is_file = refl;
  labels = refl;
}

after_extends : (fs : List Fault) (name : Name) (m : Meaning) (s : Scope)
    → Extended s (after_initializer fs name m s)
after_extends [] name m s = extended_refl s
after_extends (f ∷ fs) name m s = name_extends name m s

counted_grows : (fs : List Fault) (n : ℕ) (s : Scope) → Grown s (counted_after fs n s)
counted_grows [] n s = grown_refl s
counted_grows (f ∷ fs) n s = grown_uncounted n s

automatic_steps : (name : Name) (m untyped : Meaning) (layout : Option ObjectType) (u : Option CType)
    (value : Option Initializer) (s : Scope) (fs : List Fault) (n : ℕ)
    → ((n : ℕ) → IsBelow n m) → ((n : ℕ) → IsBelow n untyped) → MeansNoFunction m → MeansNoFunction untyped
    → Grown s (counted_after fs n (after_initializer fs name untyped
    (judge_optional_initializer false u value (with_counted layout (with_name name m s))).scope))
automatic_steps name m untyped layout u value s fs n below below_untyped none none_untyped =
    let named = with_name name m s in
    let d = with_counted layout named in
    let x = (judge_optional_initializer false u value d).scope in
    let y = after_initializer fs name untyped x in
    grown_trans s named _ (grown_name name m s below none)
    (grown_trans named d _ (grown_counted layout named)
    (grown_trans d x _ (optional_grows false u value d)
    (grown_trans x y _ (after_grows fs name untyped x below_untyped none_untyped) (counted_grows fs n y))))

automatic_extends : (faults : List Fault) (name : Name) (lengths : ArrayLengths) (base u : Option CType)
    (value : Option Initializer) (s : Scope)
    → Extended s (automatic_judged faults name lengths base u value s).scope
automatic_extends faults name lengths base u value s =
    let own = object_faults name lengths (count_listed value) base u s in
    let layout = layout_counted own u s in
    let m = Automatic (next_slot s) (unless_faulty (faults ++ own) u) in
    let v = unless_faulty own u in
    let x = judge_optional_initializer false v value (with_counted layout (with_name name m s)) in
    extended s _
    (automatic_steps name m (Automatic (next_slot s) None) layout v value s x.faults (cells_counted layout) (λ n. tt) (λ n. tt) tt tt)

static_extends : (u : ObjectType) (vs : List ℤ) (s : Scope) → Extended s (with_static u vs s)
static_extends u vs s = record {
  names = begins_refl Entry s.names;
  structures = λ k x h n. h;
  statics = begins_with StaticObject s.statics _;
  objects = begins_refl Object s.objects;
  bodies = refl;
  names_from = refl;
  is_file = refl;
  labels = refl;
}

pub scope_extends : (layout : Option ObjectType) (value : Option (Option t.Initializer)) (s : Scope)
    → Extended s (static_scope layout value s)
scope_extends (Some layout) (Some value) s = static_extends layout _ s
scope_extends (Some layout) None s = extended_refl s
scope_extends None value s = extended_refl s

static_judged_extends : (faults : List Fault) (name : Name) (lengths : ArrayLengths) (base u : Option CType)
    (value : Option Initializer) (s : Scope)
    → Extended s (static_judged faults name lengths base u value s).scope
static_judged_extends faults name lengths base u value s =
    let v = unless_faulty (object_faults name lengths (count_listed value) base u s) u in
    extended_trans s _ _
    (extended_trans s (with_name name _ s) _ (name_extends name _ s)
    (extended_trans (with_name name _ s) _ _
    (extended (with_name name _ s) _ (optional_grows true v value (with_name name _ s)))
    (after_extends _ name _ _)))
    (scope_extends _ _ _)

typedef_extends : (faults : List Fault) (name : Name) (lengths : ArrayLengths) (base u : Option CType)
    (value : Option Initializer) (s : Scope)
    → Extended s (typedef_judged faults name lengths base u value s).scope
typedef_extends faults name lengths base u value s =
    extended s _
    (grown_trans s (with_name name _ s) _ (grown_name name _ s (λ n. tt) tt)
    (optional_grows true None value (with_name name _ s)))

pub object_extends : (storage : Storage) (faults : List Fault) (name : Name) (lengths : ArrayLengths)
    (base u : Option CType) (value : Option Initializer) (s : Scope)
    → Extended s (object_judged storage faults name lengths base u value s).scope
object_extends TypedefStorage faults name lengths base u value s =
    typedef_extends faults name lengths base u value s
object_extends StaticStorage faults name lengths base u value s =
    static_judged_extends faults name lengths base u value s
object_extends AutomaticStorage faults name lengths base u value s =
    automatic_extends faults name lengths base u value s

function_extends : (storage : Storage) (name : Name) (result : Option CType)
    (parameters : Listed (Option ParameterKind)) (value : Option Initializer) (s : Scope)
    → Extended s (function_judged storage name result parameters value s).scope
function_extends storage name result parameters value s =
    extended_trans s (with_name name _ s) _ (name_extends name _ s)
    (extended (with_name name _ s) _ (optional_grows true None value (with_name name _ s)))

pub init_extends : (storage : Storage) (base : Option CType) (d : tree.Declarator) (value : Option Initializer)
    (s : Scope) → Extended s (judge_init storage base d value s).scope
init_extends storage base (tree.object stars name lengths span) value s =
    let x = judge_lengths lengths s in
    extended_trans s x.scope _ (extended s x.scope (lengths_grow lengths s))
    (object_extends storage x.faults name lengths base
    (declared_type lengths x.value (count_listed value) base) value x.scope)
init_extends storage base (tree.function stars name all span) value s =
    function_extends storage name base (judge_parameters all (prototype s)) value s

pub init_declarator_extends : (storage : Storage) (base : Option CType) (d : InitDeclarator) (s : Scope)
    → Extended s (judge_init_declarator storage base d s).scope
init_declarator_extends storage base (tree.bare d) s = init_extends storage base d None s
init_declarator_extends storage base (tree.initialized d value) s =
    init_extends storage base d (Some value) s

pub init_declarators_extend : (storage : Storage) (base : Option CType) (ds : List InitDeclarator)
    (s : Scope) → Extended s (judge_init_declarators storage base ds s).scope
init_declarators_extend storage base [] s = extended_refl s
init_declarators_extend storage base (d ∷ ds) s =
    let x = judge_init_declarator storage base d s in
    extended_trans s x.scope _ (init_declarator_extends storage base d s)
    (init_declarators_extend storage base ds x.scope)

pub declaration_extends : (d : Declaration) (s : Scope) → Extended s (judge_declaration d s).scope
declaration_extends (tree.declaration all ds span) s =
    let x = typed_by span.start all (judge_specifiers (is_tag_alone all ds) all s) in
    extended_trans s x.scope _ (extended s x.scope (specifiers_grow (is_tag_alone all ds) all s))
    (init_declarators_extend (storage_of all s.is_file) x.value ds x.scope)
