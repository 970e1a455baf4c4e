-- What is found of a declaration, from what is found of its parts: of the faults of each the least
-- alone is kept.
use Rattle.std.proofs.Common.{◌≡◌, ◌∙◌, ℕ, Bool, true, false, List, ◌++◌, Option, Some, None, refl, sym, ap, append_assoc}
use Rattle.mc_span.specs.declared.span.Span.{Span}
use Rattle.mc_tree.specs.Tree as t
use Rattle.mc_typed.specs.Tree.{Declarator, Initializer}
use Rattle.types_faults.specs.declared.fault.Fault.{Fault}
use Rattle.types_faults.specs.Faults.{unless_faulty}
use Rattle.types_rules.specs.Types.{CType, ParameterKind}
use Rattle.types_rules.specs.Scopes.{Scope}
use Rattle.types_rules.specs.Values.{Judged}
use Rattle.types_rules.specs.Declarators.{Listed, declared_type}
use Rattle.types_rules.specs.Judgement.{after, judge_lengths, judge_specifiers, typed_by}
use Rattle.types_rules.specs.Initializers.{judge_initializer}
use Rattle.types_rules.specs.Declarations.{Storage, TypedefStorage, StaticStorage, AutomaticStorage, automatic_judged, count_listed, empty_faults, function_judged, is_tag_alone, judge_declaration, judge_init, judge_init_declarators, judge_optional_initializer, object_judged, static_judged, storage_of, typedef_judged}
use Rattle.types_declarations.specs.Declarations.{squeezed_listed}
use Rattle.types_declarations.specs.Halves.{Begun, Local, StaticBegun, automatic_begun, automatic_ended, declared_ended, function_begun, optional_judged, squeezed_begun, squeezed_local, squeezed_static, static_begun, static_ended, typedef_begun}
use Rattle.types_faults.specs.Kept.{listed, least}
use Rattle.types_scopes.specs.steps.Squeezed.{squeezed_part}
use Rattle.types_scopes.proofs.Squeezed.{least_front, least_back, least_least, unless_least}
use Rattle.types_declarations.proofs.Halves.{automatic_begun_node, automatic_ended_node, automatic_halves, declared_ended_node, function_begun_node, function_halves, static_begun_node, static_ended_node, static_halves, typedef_begun_node, typedef_halves}

pub in_optional : (static : Bool) (u : Option CType) (i : t.Initializer) (s : Scope)
    (x : Judged Initializer)
    → x ≡ squeezed_part (judge_initializer static u i s)
    → optional_judged x ≡ squeezed_part (judge_optional_initializer static u (Some i) s)
in_optional static u i s x e = ap optional_judged e

-- ---- objects and typedef names; `fs` are the faults of the lengths

pub in_automatic : (fs : List Fault) (name : t.Name) (all : t.ArrayLengths) (base u : Option CType)
    (value : Option t.Initializer) (s r : Scope) (k : Option ℕ) (b : Local)
    (x : Judged (Option Initializer))
    → k ≡ count_listed value → b ≡ squeezed_local (automatic_begun fs name all k base u s)
    → x ≡ squeezed_part (judge_optional_initializer false (unless_faulty b.own u) value b.scope)
    → squeezed_part (automatic_ended (record b { scope = r }) name x)
    ≡ squeezed_part (automatic_judged fs name all base u value s)
in_automatic fs name all base u value s r k b x h g f =
    let p : Local = automatic_begun fs name all (count_listed value) base u s in
    let e : b ≡ squeezed_local p = g ∙ ap (λ (n : Option ℕ). squeezed_local (automatic_begun fs name all n base u s)) h in
    let same : x ≡ squeezed_part (judge_optional_initializer false (unless_faulty p.own u) value p.scope) =
    f ∙ ap (λ (v : Local). squeezed_part (judge_optional_initializer false (unless_faulty v.own u) value v.scope)) e
    ∙ ap (λ (v : Option CType). squeezed_part (judge_optional_initializer false v value p.scope)) (unless_least p.own u) in
    ap (λ (v : Local). squeezed_part (automatic_ended (record v { scope = r }) name x)) e
    ∙ ap (λ (v : Judged (Option Initializer)).
    squeezed_part (automatic_ended (record (squeezed_local p) { scope = r }) name v)) same
    ∙ automatic_ended_node p name (judge_optional_initializer false (unless_faulty p.own u) value p.scope)
    ∙ ap squeezed_part (sym (automatic_halves fs name all base u value s))

pub in_static : (fs : List Fault) (name : t.Name) (all : t.ArrayLengths) (base u : Option CType)
    (value : Option t.Initializer) (s r : Scope) (k : Option ℕ) (b : StaticBegun)
    (x : Judged (Option Initializer))
    → k ≡ count_listed value → b ≡ squeezed_static (static_begun fs name all k base u s)
    → x ≡ squeezed_part (judge_optional_initializer true (unless_faulty b.own u) value b.scope)
    → squeezed_part (static_ended (record b { scope = r }) name u x)
    ≡ squeezed_part (static_judged fs name all base u value s)
in_static fs name all base u value s r k b x h g f =
    let p : StaticBegun = static_begun fs name all (count_listed value) base u s in
    let e : b ≡ squeezed_static p = g ∙ ap (λ (n : Option ℕ). squeezed_static (static_begun fs name all n base u s)) h in
    let same : x ≡ squeezed_part (judge_optional_initializer true (unless_faulty p.own u) value p.scope) =
    f ∙ ap (λ (v : StaticBegun). squeezed_part (judge_optional_initializer true (unless_faulty v.own u) value v.scope)) e
    ∙ ap (λ (v : Option CType). squeezed_part (judge_optional_initializer true v value p.scope)) (unless_least p.own u) in
    ap (λ (v : StaticBegun). squeezed_part (static_ended (record v { scope = r }) name u x)) e
    ∙ ap (λ (v : Judged (Option Initializer)).
    squeezed_part (static_ended (record (squeezed_static p) { scope = r }) name u v)) same
    ∙ static_ended_node p name u (judge_optional_initializer true (unless_faulty p.own u) value p.scope)
    ∙ ap squeezed_part (sym (static_halves fs name all base u value s))

-- what declares no object
declared : (value : Option t.Initializer) (b p : Begun) (x : Judged (Option Initializer))
    → b ≡ squeezed_begun p
    → x ≡ squeezed_part (judge_optional_initializer true None value b.scope)
    → squeezed_part (declared_ended b.faults x)
    ≡ squeezed_part (declared_ended p.faults (judge_optional_initializer true None value p.scope))
declared value b p x e f =
    let same : x ≡ squeezed_part (judge_optional_initializer true None value p.scope) =
    f ∙ ap (λ (v : Begun). squeezed_part (judge_optional_initializer true None value v.scope)) e in
    ap (λ (v : Begun). squeezed_part (declared_ended v.faults x)) e
    ∙ ap (λ (v : Judged (Option Initializer)). squeezed_part (declared_ended (least p.faults) v)) same
    ∙ declared_ended_node p.faults (judge_optional_initializer true None value p.scope)

pub in_typedef : (fs : List Fault) (name : t.Name) (all : t.ArrayLengths) (base u : Option CType)
    (value : Option t.Initializer) (s : Scope) (b : Begun) (x : Judged (Option Initializer))
    → b ≡ squeezed_begun (typedef_begun fs name all u value s)
    → x ≡ squeezed_part (judge_optional_initializer true None value b.scope)
    → squeezed_part (declared_ended b.faults x)
    ≡ squeezed_part (typedef_judged fs name all base u value s)
in_typedef fs name all base u value s b x e f =
    declared value b (typedef_begun fs name all u value s) x e f
    ∙ ap squeezed_part (sym (typedef_halves fs name all base u value s))

pub in_function : (storage : Storage) (name : t.Name) (base : Option CType)
    (y : Listed (Option ParameterKind)) (value : Option t.Initializer) (s : Scope) (b : Begun)
    (x : Judged (Option Initializer))
    → b ≡ squeezed_begun (function_begun storage name base y value s)
    → x ≡ squeezed_part (judge_optional_initializer true None value b.scope)
    → squeezed_part (declared_ended b.faults x)
    ≡ squeezed_part (function_judged storage name base y value s)
in_function storage name base y value s b x e f =
    declared value b (function_begun storage name base y value s) x e f
    ∙ ap squeezed_part (sym (function_halves storage name base y value s))

-- a function's declarator sees of the faults of its parameters the least alone
pub function_of_least : (storage : Storage) (name : t.Name) (base : Option CType)
    (y : Listed (Option ParameterKind)) (value : Option t.Initializer) (s : Scope)
    → squeezed_part (function_judged storage name base (squeezed_listed y) value s)
    ≡ squeezed_part (function_judged storage name base y value s)
function_of_least storage name base y value s =
    let more : Begun = function_begun storage name base (squeezed_listed y) value s in
    let one : Begun = function_begun storage name base y value s in
    ap squeezed_part (function_halves storage name base (squeezed_listed y) value s)
    ∙ sym (declared_ended_node more.faults (judge_optional_initializer true None value more.scope))
    ∙ ap (λ (v : Begun). squeezed_part (declared_ended v.faults
    (squeezed_part (judge_optional_initializer true None value v.scope))))
    (function_begun_node storage name base y value s)
    ∙ declared_ended_node one.faults (judge_optional_initializer true None value one.scope)
    ∙ ap squeezed_part (sym (function_halves storage name base y value s))

-- ---- objects see of the faults of their lengths the least alone

automatic_of_least : (fs : List Fault) (name : t.Name) (all : t.ArrayLengths)
    (base u : Option CType) (value : Option t.Initializer) (s : Scope)
    → squeezed_part (automatic_judged (least fs) name all base u value s)
    ≡ squeezed_part (automatic_judged fs name all base u value s)
automatic_of_least fs name all base u value s =
    let k = count_listed value in
    let b : Local = squeezed_local (automatic_begun (least fs) name all k base u s) in
    let x : Judged (Option Initializer) =
    squeezed_part (judge_optional_initializer false (unless_faulty b.own u) value b.scope) in
    sym (in_automatic (least fs) name all base u value s s k b x refl refl refl)
    ∙ in_automatic fs name all base u value s s k b x refl
    (automatic_begun_node fs name all k base u s) refl

static_of_least : (fs : List Fault) (name : t.Name) (all : t.ArrayLengths)
    (base u : Option CType) (value : Option t.Initializer) (s : Scope)
    → squeezed_part (static_judged (least fs) name all base u value s)
    ≡ squeezed_part (static_judged fs name all base u value s)
static_of_least fs name all base u value s =
    let k = count_listed value in
    let b : StaticBegun = squeezed_static (static_begun (least fs) name all k base u s) in
    let x : Judged (Option Initializer) =
    squeezed_part (judge_optional_initializer true (unless_faulty b.own u) value b.scope) in
    sym (in_static (least fs) name all base u value s s k b x refl refl refl)
    ∙ in_static fs name all base u value s s k b x refl
    (static_begun_node fs name all k base u s) refl

typedef_of_least : (fs : List Fault) (name : t.Name) (all : t.ArrayLengths)
    (base u : Option CType) (value : Option t.Initializer) (s : Scope)
    → squeezed_part (typedef_judged (least fs) name all base u value s)
    ≡ squeezed_part (typedef_judged fs name all base u value s)
typedef_of_least fs name all base u value s =
    let b : Begun = squeezed_begun (typedef_begun (least fs) name all u value s) in
    let x : Judged (Option Initializer) =
    squeezed_part (judge_optional_initializer true None value b.scope) in
    sym (in_typedef (least fs) name all base u value s b x refl refl)
    ∙ in_typedef fs name all base u value s b x (typedef_begun_node fs name all u value s) refl

object_of_least : (storage : Storage) (fs : List Fault) (name : t.Name) (all : t.ArrayLengths)
    (base u : Option CType) (value : Option t.Initializer) (s : Scope)
    → squeezed_part (object_judged storage (least fs) name all base u value s)
    ≡ squeezed_part (object_judged storage fs name all base u value s)
object_of_least TypedefStorage = typedef_of_least
object_of_least StaticStorage = static_of_least
object_of_least AutomaticStorage = automatic_of_least

pub in_object : (storage : Storage) (stars : ℕ) (name : t.Name) (all : t.ArrayLengths)
    (span : Span) (base : Option CType) (value : Option t.Initializer) (s : Scope)
    (x : Judged (List ℕ)) (u : Option CType)
    → x ≡ squeezed_part (judge_lengths all s)
    → u ≡ declared_type all x.value (count_listed value) base
    → squeezed_part (object_judged storage x.faults name all base u value x.scope)
    ≡ squeezed_part (judge_init storage base (t.object stars name all span) value s)
in_object storage stars name all span base value s x u e f =
    let p : Judged (List ℕ) = judge_lengths all s in
    let k = count_listed value in
    ap (λ (v : Option CType).
    squeezed_part (object_judged storage x.faults name all base v value x.scope)) f
    ∙ ap (λ (v : Judged (List ℕ)). squeezed_part (object_judged storage v.faults name all base
    (declared_type all v.value k base) value v.scope)) e
    ∙ object_of_least storage p.faults name all base (declared_type all p.value k base) value p.scope

-- ---- whole declarations

pub in_declaration : (all : t.Specifiers) (ds : List t.InitDeclarator) (span : Span) (s : Scope)
    (x : Judged CType) (fs : List Fault) (y : Judged (List Declarator))
    → x ≡ squeezed_part (typed_by span.start all (judge_specifiers (is_tag_alone all ds) all s))
    → fs ≡ empty_faults all ds span.start
    → y ≡ squeezed_part (judge_init_declarators (storage_of all s.is_file) x.value ds x.scope)
    → squeezed_part (after (x.faults ++ fs) y)
    ≡ squeezed_part (judge_declaration (t.declaration all ds span) s)
in_declaration all ds span s x fs y e f g =
    let p : Judged CType = typed_by span.start all (judge_specifiers (is_tag_alone all ds) all s) in
    let q : Judged (List Declarator) =
    judge_init_declarators (storage_of all s.is_file) p.value ds p.scope in
    let own : List Fault = empty_faults all ds span.start in
    let same : y ≡ squeezed_part q =
    g ∙ ap (λ (v : Judged CType).
    squeezed_part (judge_init_declarators (storage_of all s.is_file) v.value ds v.scope)) e in
    ap (λ (v : List Fault). squeezed_part (after (x.faults ++ v) y)) f
    ∙ ap (λ (v : Judged CType). squeezed_part (after (v.faults ++ own) y)) e
    ∙ ap (λ (v : Judged (List Declarator)). squeezed_part (after (least p.faults ++ own) v)) same
    ∙ ap (λ (gs : List Fault). let j : Judged (List Declarator) = record q { faults = gs } in j)
    (ap least (append_assoc (least p.faults) own (least q.faults))
    ∙ least_front p.faults (own ++ least q.faults)
    ∙ ap least (sym (append_assoc p.faults own (least q.faults)))
    ∙ least_back (p.faults ++ own) (least q.faults) q.faults (ap listed (least_least q.faults)))
