-- Objects and array parameters have numbers: at file scope no objects of a function are made, and a function
-- has few parameters.
use Rattle.std.proofs.Common.{◌≡◌, ℕ, ◌+◌, ◌≤◌, nat_lt, Bool, true, false, if◌then◌else◌, List, [], ◌∷◌, ◌++◌, length, Option, Some, None, option_map, refl, ap, ◌∙◌, arith}
use Rattle.std.proofs.lemmas.List.{length-append}
use Rattle.mc_span.specs.declared.span.Span.{Span}
use Rattle.mc_tree.specs.Tree.{Name, Expression, ArrayLengths, Initializer, Initializers, Parameter, ParameterList, Parameters, span_of}
use Rattle.mc_tree.specs.Tree as tree
use Rattle.mc_typed.specs.Layout.{ObjectType}
use Rattle.mc_typed.specs.Tree.{Object}
use Rattle.mc_typed.specs.Tree as t
use Rattle.types_faults.specs.declared.fault.Fault.{Fault}
use Rattle.types_faults.specs.declared.fault.FaultKind.TheVariants.{Limit}
use Rattle.types_faults.specs.Faults.{unless_faulty}
use Rattle.mc_limits.specs.Limits.{most_frame_cells, most_parameters}
use Rattle.types_rules.specs.Profile.{most_numbered, start_at}
use Rattle.types_rules.specs.Types.{CType, Structure, layout_of, cells_of, ParameterKind, ByValue, ByArray}
use Rattle.types_rules.specs.Scopes.{Meaning, Stored, Typedef, Scope, with_name, with_objects_of, next_static, prototype}
use Rattle.types_rules.specs.Values.{Judged, Found, number_found, kind_found}
use Rattle.types_rules.specs.Constants.{value_of_constant, constant_found, is_zero_constant}
use Rattle.types_rules.specs.Limits.{parameter_count_faults}
use Rattle.types_rules.specs.Initializers.{Parts, parts_of, target_of, first_part, later_parts, item_count, only_expression, is_zero, zero_judged, list_judged, braced_judged, judge_initializer, judge_items, item_faults}
use Rattle.types_rules.specs.Declarators.{declared_type, name_start, parameter_kind, parameter_faults, parameter_meaning, with_parameter_name, with_parameter}
use Rattle.types_rules.specs.Judgement.{typed_by, judge, judge_specifiers, judge_lengths, judge_parameters, judge_parameter, judge_parameter_list}
use Rattle.types_rules.specs.Declarations.{Storage, TypedefStorage, StaticStorage, AutomaticStorage, count_listed, judge_optional_initializer, object_faults, layout_counted, after_initializer, typedef_faults, static_faults_with, static_scope, object_judged, judge_init}
use Rattle.laws_soundness.specs.Fits.{AreNumbered, arrays_in}
use Rattle.laws_soundness.proofs.Tests.{nil_left, nil_right, no_fault}
use Rattle.laws_soundness.proofs.Stills.{is_constant, still, lengths_still}

-- ---- at file scope

pub none_numbered : (s : Scope) → s.objects ≡ [] → AreNumbered s.objects []
none_numbered s none =
    let e : length s.objects ≡ 0 = ap length none in (omega (arith, e), omega arith)

-- a declaration at file scope declares no object with automatic storage duration
abbrev pub IsOfFile : Storage → Type 0
IsOfFile TypedefStorage = Unit {0}
IsOfFile StaticStorage = Unit {0}
IsOfFile AutomaticStorage = ⊥

zero_still : (x : Found) → is_zero (Some x) ≡ true → x.constant ≡ true
zero_still x h = by_test x.constant refl
  where
    by_test : (b : Bool) → x.constant ≡ b → x.constant ≡ true
    by_test true e = e
    by_test false e =
        let none : constant_found x ≡ None = ap (λ b. value_of_constant b (number_found x)) e in
        let no : is_zero (Some x) ≡ false = ap is_zero_constant none in
        absurd (cc)

braced_still : (u : Option CType) (at count : ℕ) (o : Option Expression) (x : Judged t.Initializers) (s : Scope)
    → (x.faults ≡ [] → x.scope.objects ≡ s.objects)
    → (braced_judged u at count (option_map (λ e. judge e s) o) x s).faults ≡ []
    → (braced_judged u at count (option_map (λ e. judge e s) o) x s).scope.objects ≡ s.objects
braced_still u at count None x s f h = f (nil_left x.faults _ h)
braced_still u at count (Some e) x s f h = by_test (is_zero (Some (judge e s))) refl h
  where
    by_test : (b : Bool) → is_zero (Some (judge e s)) ≡ b
        → (if b then zero_judged u (Some (judge e s)) s else list_judged u at count x).faults ≡ []
        → (if b then zero_judged u (Some (judge e s)) s else list_judged u at count x).scope.objects ≡ s.objects
    by_test true q k = still e s k (zero_still (judge e s) q)
    by_test false q k = f (nil_left x.faults _ k)

mutual
  initializer_still : (u : Option CType) (i : Initializer) (s : Scope) → (judge_initializer true u i s).faults ≡ []
      → (judge_initializer true u i s).scope.objects ≡ s.objects
  initializer_still u (tree.Single e) s h =
      let x = judge e s in
      let at = (span_of e).start in
      let own = item_faults true (target_of x.scope.structures u) at (kind_found x) in
      still e s (nil_left x.faults _ h) (is_constant x at (nil_right own _ (nil_right x.faults _ h)))
  initializer_still u (tree.Braced items span) s h =
      let parts = parts_of (target_of s.structures u) in
      braced_still u span.start (item_count items) (only_expression items) (judge_items true parts items s) s
      (λ k. items_still parts items s k) h

  items_still : (parts : Parts) (items : Initializers) (s : Scope) → (judge_items true parts items s).faults ≡ []
      → (judge_items true parts items s).scope.objects ≡ s.objects
  items_still parts tree.no_initializers s h = refl
  items_still parts (tree.initializers one rest) s h =
      let x = judge_initializer true (first_part parts) one s in
      let y = judge_items true (later_parts parts) rest x.scope in
      items_still (later_parts parts) rest x.scope (nil_left y.faults [] (nil_right x.faults _ h))
      ∙ initializer_still (first_part parts) one s (nil_left x.faults _ h)

optional_still : (u : Option CType) (value : Option Initializer) (s : Scope)
    → (judge_optional_initializer true u value s).faults ≡ []
    → (judge_optional_initializer true u value s).scope.objects ≡ s.objects
optional_still u None s h = refl
optional_still u (Some i) s h = initializer_still u i s h

after_still : (fs : List Fault) (name : Name) (m : Meaning) (s : Scope) → (after_initializer fs name m s).objects ≡ s.objects
after_still [] name m s = refl
after_still (f ∷ fs) name m s = refl

scope_still : (layout : Option ObjectType) (value : Option (Option t.Initializer)) (s : Scope)
    → (static_scope layout value s).objects ≡ s.objects
scope_still (Some layout) (Some value) s = refl
scope_still (Some layout) None s = refl
scope_still None value s = refl

object_still : (storage : Storage) (faults : List Fault) (name : Name) (lengths : ArrayLengths)
    (base u : Option CType) (value : Option Initializer) (s : Scope) → IsOfFile storage
    → (object_judged storage faults name lengths base u value s).faults ≡ []
    → (object_judged storage faults name lengths base u value s).scope.objects ≡ s.objects
object_still TypedefStorage faults name lengths base u value s of h =
    let own = typedef_faults name lengths value s in
    let named = with_name name (Typedef (unless_faulty (faults ++ own) u)) s in
    optional_still None value named (nil_right own _ (nil_right faults _ h))
object_still StaticStorage faults name lengths base u value s of h =
    let own = object_faults name lengths (count_listed value) base u s in
    let named = with_name name (Stored (next_static s) (unless_faulty (faults ++ own) u)) s in
    let v = unless_faulty own u in
    let x = judge_optional_initializer true v value named in
    let layout = layout_counted (own ++ x.faults) u x.scope in
    let sum = static_faults_with name.span.start layout x.value x.scope in
    let last = after_initializer (x.faults ++ sum) name (Stored (next_static s) None) x.scope in
    scope_still layout x.value last ∙ after_still (x.faults ++ sum) name (Stored (next_static s) None) x.scope
    ∙ optional_still v value named (nil_left x.faults sum (nil_right own _ (nil_right faults _ h)))
object_still AutomaticStorage faults name lengths base u value s of h = absurd of

pub init_still : (storage : Storage) (b : CType) (stars : ℕ) (name : Name) (lengths : ArrayLengths) (span : Span)
    (value : Option Initializer) (s : Scope) → IsOfFile storage
    → (judge_init storage (Some b) (tree.object stars name lengths span) value s).faults ≡ []
    → (judge_init storage (Some b) (tree.object stars name lengths span) value s).scope.objects ≡ s.objects
init_still storage b stars name lengths span value s of h =
    let l = judge_lengths lengths s in
    let u = declared_type lengths l.value (count_listed value) (Some b) in
    object_still storage l.faults name lengths (Some b) u value l.scope of h
    ∙ lengths_still lengths s (before storage l.faults u of h)
  where
    before : (storage : Storage) (faults : List Fault) (u : Option CType) → IsOfFile storage
        → (object_judged storage faults name lengths (Some b) u value (judge_lengths lengths s).scope).faults ≡ []
        → faults ≡ []
    before TypedefStorage faults u of h = nil_left faults _ h
    before StaticStorage faults u of h = nil_left faults _ h
    before AutomaticStorage faults u of h = absurd of

-- ---- parameters

with_few : (u : Option CType) (k : Option ParameterKind) (s : Scope)
    → length (with_parameter u k s).objects ≤ length s.objects + 1
with_few None None s = omega arith
with_few None (Some (ByValue b)) s = omega arith
with_few None (Some (ByArray e)) s = omega arith
with_few (Some u) None s = omega arith
with_few (Some u) (Some (ByValue b)) s =
    let o : Object = record {
      object_type = layout_of s.structures u;
      cells = cells_of s.structures u;
      start = start_at most_frame_cells s.frame;
    } in
    let e = length-append s.objects (o ∷ []) in omega (arith, e)
with_few (Some u) (Some (ByArray e)) s = omega arith

named_same : (name : Option Name) (m : Meaning) (s : Scope) → (with_parameter_name name m s).objects ≡ s.objects
named_same None m s = refl
named_same (Some name) m s = refl

parameter_few : (p : Parameter) (s : Scope)
    → length (judge_parameter p s).scope.objects ≤ length s.objects + length (judge_parameter p s).items
parameter_few (tree.parameter all stars name lengths span) s =
    let x = typed_by span.start all (judge_specifiers false all s) in
    let l = judge_lengths lengths x.scope in
    let y = with_objects_of s l.scope in
    let u = declared_type lengths l.value (Some 1) x.value in
    let fs = x.faults ++ (l.faults ++ parameter_faults name (name_start name span) lengths x.value u y) in
    let k = unless_faulty fs (parameter_kind y.structures u) in
    let m = parameter_meaning (unless_faulty fs u) k y in
    let n = with_parameter_name name m y in
    let e : length n.objects ≡ length s.objects = ap length (named_same name m y) in
    let few = with_few (unless_faulty fs u) k n in
    omega (arith, e, few)

list_few : (ps : ParameterList) (s : Scope)
    → length (judge_parameter_list ps s).scope.objects ≤ length s.objects + length (judge_parameter_list ps s).items
list_few tree.no_parameters s = omega arith
list_few (tree.parameters p rest) s =
    let x = judge_parameter p s in
    let y = judge_parameter_list rest x.scope in
    let one = parameter_few p s in
    let more = list_few rest x.scope in
    let e = length-append x.items y.items in
    omega (arith, one, more, e)

parameters_few : (all : Parameters) (s : Scope)
    → length (judge_parameters all s).scope.objects ≤ length s.objects + length (judge_parameters all s).items
parameters_few (tree.Empty span) s = omega arith
parameters_few (tree.Void span) s = omega arith
parameters_few (tree.Listed ps span) s = list_few ps s

arrays_few : (all : List Structure) (ps : List (Option ParameterKind)) → length (arrays_in all ps) ≤ length ps
arrays_few all [] = omega arith
arrays_few all (None ∷ ps) = let k = arrays_few all ps in omega (arith, k)
arrays_few all (Some (ByValue b) ∷ ps) = let k = arrays_few all ps in omega (arith, k)
arrays_few all (Some (ByArray u) ∷ ps) = let k = arrays_few all ps in omega (arith, k)

pub count_small : (n at : ℕ) → parameter_count_faults n at ≡ [] → n ≤ most_parameters
count_small n at h = within (no_fault (nat_lt most_parameters n) Limit at h)
  where
    within : nat_lt most_parameters n ≡ false → n ≤ most_parameters
    within h = grind (arith, h)

pub arrays_numbered : (all : List Structure) (ps : List (Option ParameterKind)) (at : ℕ)
    → parameter_count_faults (length ps) at ≡ [] → length (arrays_in all ps) ≤ most_numbered
arrays_numbered all ps at h =
    let few = arrays_few all ps in
    let count = count_small (length ps) at h in
    omega (arith, few, count)

pub parameters_numbered : (all : Parameters) (s : Scope) (at : ℕ) (structures : List Structure)
    → parameter_count_faults (length (judge_parameters all (prototype s)).items) at ≡ []
    → AreNumbered (judge_parameters all (prototype s)).scope.objects
    (arrays_in structures (judge_parameters all (prototype s)).items)
parameters_numbered all s at structures h =
    let y = judge_parameters all (prototype s) in
    let few = parameters_few all (prototype s) in
    let count = count_small (length y.items) at h in
    (omega (arith, few, count), arrays_numbered structures y.items at h)
