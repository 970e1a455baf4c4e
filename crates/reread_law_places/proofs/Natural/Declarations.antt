-- What is found of declarations, at other places.
use Rattle.std.proofs.Common.{◌≡◌, ℕ, Bool, true, false, not, List, [], ◌∷◌, length, is_some, Option, Some, None, option_map, refl, ap, ◌∙◌}
use Rattle.mc_tree.specs.Tree.{Name, Specifiers, ArrayLengths, Initializer, InitDeclarator, Declaration}
use Rattle.mc_tree.specs.Tree as tree
use Rattle.mc_typed.specs.declared.expressions.Slot.{Slot}
use Rattle.mc_typed.specs.Layout.{ObjectType}
use Rattle.mc_typed.specs.Tree.{Declarator}
use Rattle.mc_typed.specs.Tree as t
use Rattle.types_faults.specs.declared.fault.Fault.{Fault}
use Rattle.types_faults.specs.declared.fault.FaultKind.TheVariants.{Redeclared, Mismatch, Limit}
use Rattle.types_rules.specs.Types.{CType, ParameterKind, Signature}
use Rattle.types_rules.specs.Scopes.{Meaning, Automatic, Stored, Function, Typedef, Scope, meaning_here, with_name, next_slot, next_static, with_counted, cells_counted, with_static, prototype}
use Rattle.types_rules.specs.Scopes as scope
use Rattle.types_rules.specs.Values.{Judged, lift2}
use Rattle.types_rules.specs.Declarators.{Listed}
use Rattle.types_rules.specs.Judgement.{judge_specifiers}
use Rattle.types_rules.specs.Declarations.{Storage, TypedefStorage, StaticStorage, AutomaticStorage, storage_of, count_listed, judge_optional_initializer, object_faults, layout_counted, after_initializer, counted_after, declarator_value, automatic_judged, static_faults_with, static_scope, static_value, static_judged, typedef_faults, typedef_judged, object_judged, all_of, result_of, signature_of, repeated_faults, external_faults, function_faults, function_form_faults, again_faults, function_meaning, function_judged, judge_init, judge_init_declarator, append, both_lists, judge_init_declarators, is_tag_alone, empty_faults, judge_declaration}
use Rattle.reread_law_texts.specs.alike.Moves.{Move}
use Rattle.reread_law_texts.specs.alike.Trees.{moved_name, moved_specifiers, moved_lengths, moved_declarator, moved_initializer, moved_init_declarator, moved_init_declarators, moved_declaration}
use Rattle.reread_law_places.specs.natural.Moved.{moved_faults, moved_filling, moved_object, moved_objects}
use Rattle.reread_law_places.proofs.Natural.Basics.{Shifts, both, none, one, one_if, unless_same, same2, same3, lift_moved, Goes, Same, Carried, Lists}
use Rattle.reread_law_places.proofs.Natural.Words.{listed_kept, storage_kept, alone_kept, any_declares_kept}
use Rattle.reread_law_places.proofs.Natural.Declarators.{redeclared_go, misnamed_go, absent_go, incomplete_go, object_limit_go, typed_goes, declared_type_same, after_goes}
use Rattle.reread_law_places.proofs.Natural.Judgement.{specifiers_go, lengths_go, parameters_go}
use Rattle.reread_law_places.proofs.Natural.Initializers.{initializer_go, values_kept}

-- ---- initializers that may be left out

abbrev moved_maybe : Move → Option Initializer → Option Initializer
moved_maybe m i = option_map (moved_initializer m) i

filled_moved : (m : Move) (o : Option t.Initializer) → option_map Some (option_map (moved_filling m) o) ≡ option_map (option_map (moved_filling m)) (option_map Some o)
filled_moved m None = refl
filled_moved m (Some i) = refl

filled_goes : (m : Move) {x y : Judged t.Initializer} → Goes m (Carried (moved_filling m)) x y → option_map Some x.value ≡ option_map (option_map (moved_filling m)) (option_map Some y.value)
filled_goes m {y = y} h = ap (option_map Some) h.value ∙ filled_moved m y.value

optional_go : (m : Move) (static : Bool) (i : Option Initializer) {u v : Option CType} {s t : Scope} → u ≡ v → s ≡ t
    → Goes m (Carried (option_map (moved_filling m))) (judge_optional_initializer static u (moved_maybe m i) s) (judge_optional_initializer static v i t)
optional_go m static None e h = record { faults = none; value = refl; scope = h }
optional_go m static (Some i) e h =
    let x = initializer_go m static i e h in
    record { faults = x.faults; value = filled_goes m x; scope = x.scope }

-- ---- faults and scopes

object_faults_go : (m : Move) (name : Name) (lengths : ArrayLengths) (i : Option Initializer) (base u : Option CType) (s : Scope)
    → Shifts m (object_faults (moved_name m name) (moved_lengths m lengths) (count_listed (moved_maybe m i)) base u s) (object_faults name lengths (count_listed i) base u s)
object_faults_go m name lengths i base u s =
    let at = name.span.start in
    rw (listed_kept m i) (both (redeclared_go m name (refl {a = s})) (both (misnamed_go m name (refl {a = s})) (both (absent_go m lengths (count_listed i) at)
    (both (incomplete_go m base at (refl {a = s.structures})) (object_limit_go m u at (refl {a = s.structures}))))))

layout_moved : (m : Move) (fs : List Fault) (u : Option CType) (s : Scope) → layout_counted (moved_faults m fs) u s ≡ layout_counted fs u s
layout_moved m [] u s = refl
layout_moved m (f ∷ fs) u s = refl

layout_same : {m : Move} {fs gs : List Fault} (u : Option CType) {s t : Scope} → Shifts m fs gs → s ≡ t → layout_counted fs u s ≡ layout_counted gs u t
layout_same {m = m} {gs = gs} u {t = t} h e = same2 (λ l s. layout_counted l u s) h.is e ∙ layout_moved m gs u t

after_moved : (m : Move) (fs : List Fault) (name : Name) (untyped : Meaning) (s : Scope) → after_initializer (moved_faults m fs) (moved_name m name) untyped s ≡ after_initializer fs name untyped s
after_moved m [] name untyped s = refl
after_moved m (f ∷ fs) name untyped s = refl

after_same : {m : Move} {fs gs : List Fault} (name : Name) (untyped : Meaning) {s t : Scope} → Shifts m fs gs → s ≡ t → after_initializer fs (moved_name m name) untyped s ≡ after_initializer gs name untyped t
after_same {m = m} {gs = gs} name untyped {t = t} h e = same2 (λ l s. after_initializer l (moved_name m name) untyped s) h.is e ∙ after_moved m gs name untyped t

counted_moved : (m : Move) (fs : List Fault) (n : ℕ) (s : Scope) → counted_after (moved_faults m fs) n s ≡ counted_after fs n s
counted_moved m [] n s = refl
counted_moved m (f ∷ fs) n s = refl

counted_same : {m : Move} {fs gs : List Fault} {a b : ℕ} {s t : Scope} → Shifts m fs gs → a ≡ b → s ≡ t → counted_after fs a s ≡ counted_after gs b t
counted_same {m = m} {gs = gs} {b = b} {t = t} h p q = same3 counted_after h.is p q ∙ counted_moved m gs b t

-- ---- objects with automatic storage duration

declarator_value_moved : (m : Move) (slot : Slot) (l : Option ObjectType) (o : Option (Option t.Initializer))
    → declarator_value slot l (option_map (option_map (moved_filling m)) o) ≡ option_map (moved_objects m) (declarator_value slot l o)
declarator_value_moved m slot (Some l) (Some i) = refl
declarator_value_moved m slot (Some l) None = refl
declarator_value_moved m slot None o = refl

declarator_value_goes : (m : Move) (slot : Slot) {k l : Option ObjectType} {x y : Judged (Option t.Initializer)} → k ≡ l → Goes m (Carried (option_map (moved_filling m))) x y
    → declarator_value slot k x.value ≡ option_map (moved_objects m) (declarator_value slot l y.value)
declarator_value_goes m slot {l = l} {y = y} e h = same2 (declarator_value slot) e h.value ∙ declarator_value_moved m slot l y.value

automatic_at : (m : Move) (name : Name) (lengths : ArrayLengths) (base u : Option CType) (i : Option Initializer) (s : Scope) {fs gs : List Fault} → Shifts m fs gs
    → Goes m (Carried (moved_objects m)) (automatic_judged fs (moved_name m name) (moved_lengths m lengths) base u (moved_maybe m i) s) (automatic_judged gs name lengths base u i s)
automatic_at m name lengths base u i s h =
    let own = object_faults_go m name lengths i base u s in
    let layout = layout_same u own (refl {a = s}) in
    let declared = same2 (λ l v. with_counted l (with_name name (Automatic (next_slot s) v) s)) layout (unless_same u (both h own)) in
    let x = optional_go m false i (unless_same u own) declared in
    record {
      faults = both h (both own x.faults);
      value = declarator_value_goes m (next_slot s) layout x;
      scope = counted_same x.faults (ap cells_counted layout) (after_same name (Automatic (next_slot s) None) x.faults x.scope);
    }

-- ---- objects with static storage duration

static_faults_at : (m : Move) (at : ℕ) (l : Option ObjectType) (o : Option (Option t.Initializer)) (s : Scope)
    → Shifts m (static_faults_with (m.start at) l (option_map (option_map (moved_filling m)) o) s) (static_faults_with at l o s)
static_faults_at m at (Some l) (Some i) s = one_if m Limit at refl
static_faults_at m at (Some l) None s = none
static_faults_at m at None o s = none

static_faults_same : (m : Move) (at : ℕ) {k l : Option ObjectType} {x y : Judged (Option t.Initializer)} → k ≡ l → Goes m (Carried (option_map (moved_filling m))) x y
    → Shifts m (static_faults_with (m.start at) k x.value x.scope) (static_faults_with at l y.value y.scope)
static_faults_same m at {l = l} {y = y} e h = rw (e, h.value, h.scope) (static_faults_at m at l y.value y.scope)

static_value_moved : (m : Move) (l : Option ObjectType) (o : Option (Option t.Initializer)) → static_value l (option_map (option_map (moved_filling m)) o) ≡ option_map (moved_objects m) (static_value l o)
static_value_moved m (Some l) (Some i) = refl
static_value_moved m (Some l) None = refl
static_value_moved m None o = refl

static_scope_moved : (m : Move) (l : Option ObjectType) (o : Option (Option t.Initializer)) (s : Scope) → static_scope l (option_map (option_map (moved_filling m)) o) s ≡ static_scope l o s
static_scope_moved m (Some l) (Some None) s = refl
static_scope_moved m (Some l) (Some (Some i)) s = ap (λ vs. with_static l vs s) (values_kept m i)
static_scope_moved m (Some l) None s = refl
static_scope_moved m None o s = refl

static_value_goes : (m : Move) {k l : Option ObjectType} {x y : Judged (Option t.Initializer)} → k ≡ l → Goes m (Carried (option_map (moved_filling m))) x y
    → static_value k x.value ≡ option_map (moved_objects m) (static_value l y.value)
static_value_goes m {l = l} {y = y} e h = same2 static_value e h.value ∙ static_value_moved m l y.value

static_scope_goes : (m : Move) {k l : Option ObjectType} {x y : Judged (Option t.Initializer)} {s t : Scope} → k ≡ l → Goes m (Carried (option_map (moved_filling m))) x y → s ≡ t
    → static_scope k x.value s ≡ static_scope l y.value t
static_scope_goes m {l = l} {y = y} {t = t} e h f = same3 static_scope e h.value f ∙ static_scope_moved m l y.value t

static_at : (m : Move) (name : Name) (lengths : ArrayLengths) (base u : Option CType) (i : Option Initializer) (s : Scope) {fs gs : List Fault} → Shifts m fs gs
    → Goes m (Carried (moved_objects m)) (static_judged fs (moved_name m name) (moved_lengths m lengths) base u (moved_maybe m i) s) (static_judged gs name lengths base u i s)
static_at m name lengths base u i s h =
    let own = object_faults_go m name lengths i base u s in
    let declared = ap (λ v. with_name name (Stored (next_static s) v) s) (unless_same u (both h own)) in
    let x = optional_go m true i (unless_same u own) declared in
    let layout = layout_same u (both own x.faults) x.scope in
    let sum = static_faults_same m name.span.start layout x in
    record {
      faults = both h (both own (both x.faults sum));
      value = static_value_goes m layout x;
      scope = static_scope_goes m layout x (after_same name (Stored (next_static s) None) (both x.faults sum) x.scope);
    }

-- ---- typedef names

typedef_faults_go : (m : Move) (name : Name) (lengths : ArrayLengths) (i : Option Initializer) (s : Scope)
    → Shifts m (typedef_faults (moved_name m name) (moved_lengths m lengths) (moved_maybe m i) s) (typedef_faults name lengths i s)
typedef_faults_go m name lengths i s =
    both (redeclared_go m name (refl {a = s})) (both (misnamed_go m name (refl {a = s})) (both (absent_go m lengths None name.span.start) (one_if m Mismatch name.span.start (there i))))
  where
    there : (i : Option Initializer) → is_some (moved_maybe m i) ≡ is_some i
    there None = refl
    there (Some i) = refl

typedef_at : (m : Move) (name : Name) (lengths : ArrayLengths) (base u : Option CType) (i : Option Initializer) (s : Scope) {fs gs : List Fault} → Shifts m fs gs
    → Goes m (Carried (moved_objects m)) (typedef_judged fs (moved_name m name) (moved_lengths m lengths) base u (moved_maybe m i) s) (typedef_judged gs name lengths base u i s)
typedef_at m name lengths base u i s h =
    let own = typedef_faults_go m name lengths i s in
    let x = optional_go m true i (refl {a = None}) (ap (λ v. with_name name (Typedef v) s) (unless_same u (both h own))) in
    record { faults = both h (both own x.faults); value = refl; scope = x.scope }

object_at : (m : Move) (storage : Storage) (name : Name) (lengths : ArrayLengths) (base u : Option CType) (i : Option Initializer) (s : Scope) {fs gs : List Fault} → Shifts m fs gs
    → Goes m (Carried (moved_objects m)) (object_judged storage fs (moved_name m name) (moved_lengths m lengths) base u (moved_maybe m i) s) (object_judged storage gs name lengths base u i s)
object_at m TypedefStorage name lengths base u i s h = typedef_at m name lengths base u i s h
object_at m StaticStorage name lengths base u i s h = static_at m name lengths base u i s h
object_at m AutomaticStorage name lengths base u i s h = automatic_at m name lengths base u i s h

object_goes : (m : Move) (storage : Storage) (name : Name) (lengths : ArrayLengths) (base : Option CType) (i : Option Initializer) {fs gs : List Fault} {u v : Option CType} {s t : Scope} → Shifts m fs gs → u ≡ v → s ≡ t
    → Goes m (Carried (moved_objects m)) (object_judged storage fs (moved_name m name) (moved_lengths m lengths) base u (moved_maybe m i) s) (object_judged storage gs name lengths base v i t)
object_goes m storage name lengths base i {v = v} {t = t} h e f = rw (e, f) (object_at m storage name lengths base v i t h)

-- ---- functions

pub repeated_go : (m : Move) (o : Option Meaning) (f : Option Signature) (at : ℕ) → Shifts m (repeated_faults o f (m.start at)) (repeated_faults o f at)
repeated_go m None f at = none
repeated_go m (Some (Function g b)) f at = one_if m Mismatch at refl
repeated_go m (Some o) f at = one m Redeclared at

external_go : (m : Move) (name : Name) (f : Option Signature) → Shifts m (external_faults (moved_name m name) f) (external_faults name f)
external_go m name f = one_if m Mismatch name.span.start refl

pub function_faults_go : (m : Move) (name : Name) (result : Option CType) (count : ℕ) (f : Option Signature) → Shifts m (function_faults (moved_name m name) result count f) (function_faults name result count f)
function_faults_go m name result count f = both (external_go m name f) (both (one_if m Mismatch name.span.start refl) (one_if m Limit name.span.start refl))

form_go : (m : Move) (storage : Storage) (i : Option Initializer) (at : ℕ) → Shifts m (function_form_faults storage (moved_maybe m i) (m.start at)) (function_form_faults storage i at)
form_go m TypedefStorage i at = one m Mismatch at
form_go m StaticStorage None at = none
form_go m StaticStorage (Some i) at = one m Mismatch at
form_go m AutomaticStorage None at = none
form_go m AutomaticStorage (Some i) at = one m Mismatch at

again_go : (m : Move) (storage : Storage) (name : Name) (f : Option Signature) (s : Scope) → Shifts m (again_faults storage (moved_name m name) f s) (again_faults storage name f s)
again_go m TypedefStorage name f s = redeclared_go m name (refl {a = s})
again_go m StaticStorage name f s = repeated_go m (meaning_here name s) f name.span.start
again_go m AutomaticStorage name f s = repeated_go m (meaning_here name s) f name.span.start

function_at : (m : Move) (storage : Storage) (name : Name) (result : Option CType) (i : Option Initializer) (s : Scope) (items : List (Option ParameterKind)) (before after : Scope) {fs gs : List Fault} → Shifts m fs gs
    → Goes m (Carried (moved_objects m)) (function_judged storage (moved_name m name) result (record { faults = fs; items = items; scope = before }) (moved_maybe m i) s)
    (function_judged storage name result (record { faults = gs; items = items; scope = after }) i s)
function_at m storage name result i s items before after h =
    let f = signature_of (result_of result) (all_of items) in
    let own = both (again_go m storage name f s) (both (function_faults_go m name result (length items) f) (form_go m storage i name.span.start)) in
    let x = optional_go m true i (refl {a = None}) (ap (λ g. with_name name (function_meaning storage g (meaning_here name s)) s) (unless_same f own)) in
    record { faults = both h (both own x.faults); value = refl; scope = x.scope }

function_goes : (m : Move) (storage : Storage) (name : Name) (result : Option CType) (i : Option Initializer) {x y : Listed (Option ParameterKind)} {s t : Scope} → Lists m x y → s ≡ t
    → Goes m (Carried (moved_objects m)) (function_judged storage (moved_name m name) result x (moved_maybe m i) s) (function_judged storage name result y i t)
function_goes m storage name result i {x = x} {y = y} {t = t} h e = rw (e, h.items) (function_at m storage name result i t y.items x.scope y.scope h.faults)

-- ---- whole declarations

init_go : (m : Move) (storage : Storage) (one : tree.Declarator) (i : Option Initializer) {b c : Option CType} {s t : Scope} → b ≡ c → s ≡ t
    → Goes m (Carried (moved_objects m)) (judge_init storage b (moved_declarator m one) (moved_maybe m i) s) (judge_init storage c one i t)
init_go m storage (tree.object stars name lengths span) i {c = c} e h =
    let x = lengths_go m lengths h in
    rw (e, listed_kept m i) (object_goes m storage name lengths c i x.faults (declared_type_same m lengths (count_listed i) c x.value) x.scope)
init_go m storage (tree.function stars name all span) i {c = c} e h = rw e (function_goes m storage name c i (parameters_go m all (ap prototype h)) h)

init_declarator_go : (m : Move) (storage : Storage) (one : InitDeclarator) {b c : Option CType} {s t : Scope} → b ≡ c → s ≡ t
    → Goes m (Carried (moved_objects m)) (judge_init_declarator storage b (moved_init_declarator m one) s) (judge_init_declarator storage c one t)
init_declarator_go m storage (tree.bare one) e h = init_go m storage one None e h
init_declarator_go m storage (tree.initialized one i) e h = init_go m storage one (Some i) e h

appended : (m : Move) (xs ys : List Declarator) → append (moved_objects m xs) (moved_objects m ys) ≡ moved_objects m (append xs ys)
appended m [] ys = refl
appended m (x ∷ xs) ys = ap (λ l. moved_object m x ∷ l) (appended m xs ys)

pub both_goes : {A : Type 0} (m : Move) (f : List A → List A) → ((xs ys : List A) → append (f xs) (f ys) ≡ f (append xs ys)) → {x y v w : Judged (List A)} → Goes m (Carried f) x v → Goes m (Carried f) y w
    → Goes m (Carried f) (both_lists x y) (both_lists v w)
both_goes m f e {v = v} {w = w} h k = record {
  faults = both h.faults (both k.faults none);
  value = same2 (lift2 append) h.value k.value ∙ lift_moved append append f f f v.value w.value e;
  scope = k.scope;
}

init_declarators_go : (m : Move) (storage : Storage) (all : List InitDeclarator) {b c : Option CType} {s t : Scope} → b ≡ c → s ≡ t
    → Goes m (Carried (moved_objects m)) (judge_init_declarators storage b (moved_init_declarators m all) s) (judge_init_declarators storage c all t)
init_declarators_go m storage [] e h = record { faults = none; value = refl; scope = h }
init_declarators_go m storage (one ∷ rest) e h =
    let x = init_declarator_go m storage one e h in
    both_goes m (moved_objects m) (appended m) x (init_declarators_go m storage rest e x.scope)

empty_go : (m : Move) (all : Specifiers) (ds : List InitDeclarator) (at : ℕ) → Shifts m (empty_faults (moved_specifiers m all) (moved_init_declarators m ds) (m.start at)) (empty_faults all ds at)
empty_go m all [] at = one_if m Mismatch at (ap not (any_declares_kept m all))
empty_go m all (d ∷ ds) at = none

words_go : (m : Move) (all : Specifiers) (ds : List InitDeclarator) {s t : Scope} → s ≡ t
    → Goes m Same (judge_specifiers (is_tag_alone (moved_specifiers m all) (moved_init_declarators m ds)) (moved_specifiers m all) s) (judge_specifiers (is_tag_alone all ds) all t)
words_go m all ds h = rw (alone_kept m all ds) (specifiers_go m (is_tag_alone all ds) all h)

init_declarators_from : (m : Move) (all : List InitDeclarator) {p q : Storage} {b c : Option CType} {s t : Scope} → p ≡ q → b ≡ c → s ≡ t
    → Goes m (Carried (moved_objects m)) (judge_init_declarators p b (moved_init_declarators m all) s) (judge_init_declarators q c all t)
init_declarators_from m all {q = q} e f h = rw e (init_declarators_go m q all f h)

pub declaration_go : (m : Move) (one : Declaration) {s t : Scope} → s ≡ t → Goes m (Carried (moved_objects m)) (judge_declaration (moved_declaration m one) s) (judge_declaration one t)
declaration_go m (tree.declaration all ds span) {s = s} h =
    let x = typed_goes m span.start all (words_go m all ds h) in
    let storage = storage_kept m all s.is_file ∙ ap (λ (s : Scope). storage_of all s.is_file) h in
    after_goes m (Carried (moved_objects m)) (both x.faults (empty_go m all ds span.start)) (init_declarators_from m ds storage x.value x.scope)
