-- Whole units: one without a fault and without an outside form has a typed program that is sound.
use Rattle.std.proofs.Common.{◌≡◌, ℕ, zero, suc, ◌+◌, ◌≤◌, ◌<◌, ◌^◌, Bool, true, false, List, [], ◌∷◌, ◌++◌, map, length, take, slice_get, sum, Option, Some, None, option_map, refl, ap, sym, ◌∙◌, subst, arith}
use Rattle.std.proofs.lemmas.List.Sums.{sum_by-cons}
use Rattle.mc_span.specs.declared.span.Span.{Span}
use Rattle.mc_tree.specs.Tree.{Name, Specifiers, Parameters, BlockItems, Item, name_of}
use Rattle.mc_tree.specs.Tree as tree
use Rattle.mc_typed.specs.Layout.{ObjectType}
use Rattle.mc_typed.specs.Tree.{Object, StaticObject, ResultType, Program}
use Rattle.mc_typed.specs.Tree as t
use Rattle.mc_typed.specs.Sound.{AreStructures, AreFunctions, parameters_at, result_at, IsSound}
use Rattle.types_faults.specs.declared.fault.Fault.{Fault}
use Rattle.types_faults.specs.declared.fault.FaultKind.TheVariants.{Mismatch}
use Rattle.types_faults.specs.Faults.{fault_if}
use Rattle.mc_limits.specs.Limits.{most_static_cells}
use Rattle.types_rules.specs.Profile.{counted, most_counted}
use Rattle.types_rules.specs.Types.{Base, CType, Structure, Incomplete, Complete, Faulty, structure_from, structures_from, Signature}
use Rattle.types_rules.specs.Scopes.{Entry, Scope, file_scope, meaning_here, prototype, body_scope, left_function}
use Rattle.types_rules.specs.Values.{Judged, lift2}
use Rattle.types_rules.specs.Limits.{frame_faults}
use Rattle.types_rules.specs.Judgement.{typed_by, judge_specifiers, judge_parameters}
use Rattle.types_rules.specs.Declarations.{append, result_of, is_array_type, repeated_faults, external_faults, function_faults, signature_listed, judge_declaration}
use Rattle.types_rules.specs.Statements.{outermost}
use Rattle.types_rules.specs.Bodies.{judge_block}
use Rattle.types_rules.specs.Typing.{parameter_type, result_type, names_faults, is_incomplete, definition_faults, function_from, with_function, function_listed, judge_definition, judge_item, judge_unit, bodies_of, found_of, program_from, HasTyping}
use Rattle.mc_subset.specs.Nodes.{nodes_of_item, nodes_of_unit}
use Rattle.mc_subset.specs.Forms.{first_outside}
use Rattle.laws_soundness.specs.Growth.{Begins}
use Rattle.laws_soundness.specs.Blocks.{BlockHasNoFunction}
use Rattle.laws_soundness.specs.Laws.{IsFew, UnitsAreTyped, UnitsAreSound}
use Rattle.laws_soundness.specs.Fits.{World, AreNumbered, objects_of, StructureFits, FunctionFits, total, Fits, Ends, arrays_in}
use Rattle.laws_soundness.proofs.Lists.{right_nil, begins_refl, begins_with, cut_back}
use Rattle.laws_soundness.proofs.Tests.{nil_left, nil_right, no_fault, lift2_some}
use Rattle.laws_soundness.proofs.Fitting.{kept_completes, get_structure, file_scope_fits, passed}
use Rattle.laws_soundness.proofs.Grows.{specifiers_grow}
use Rattle.laws_soundness.proofs.Passes.{passed_by}
use Rattle.laws_soundness.proofs.Extends.{declaration_extends}
use Rattle.laws_soundness.proofs.Agreeing.{function_entry, Among, among_left, among_last, none_agree}
use Rattle.laws_soundness.proofs.Stages.{place_of, get_within, stage, stage_ends, stage_functions, Stands, Later, later_refl, later_trans, later_passed}
use Rattle.laws_soundness.proofs.FileScope.{specifiers_stand, type_known, parameters_known, signature_known, result_known, function_named, declaration_stands}
use Rattle.laws_soundness.proofs.Accepted.{body_inside, first_item_inside, later_items_inside}
use Rattle.laws_soundness.proofs.Numbered.{arrays_numbered}
use Rattle.laws_soundness.proofs.Sizes.{counted_small}
use Rattle.laws_soundness.proofs.Defined.{body_of, body_later, definition_runs, definition_stands, frame_numbered, world_of, IsIn, parameter_types_kept, result_kept, laid_out, IsDefined, complete_there, incomplete_kept, function_sound}

-- ---- functions and their types

-- a function has the type that its name has in the end
abbrev pub IsShaped : Scope → List ℕ → t.Function → Type 0
IsShaped end name fn =
    (g : Signature) × Among (function_entry name (Some g) true) end.names
    × (fn.parameters ≡ map (parameter_type end.structures) g.parameters)
    × (fn.result ≡ result_type end.structures g.result)

abbrev pub AreShaped : Scope → List (List ℕ) → List t.Function → Type 0
AreShaped end [] [] = Unit {0}
AreShaped end [] (f ∷ fs) = ⊥
AreShaped end (n ∷ ns) [] = ⊥
AreShaped end (n ∷ ns) (f ∷ fs) = IsShaped end n f × AreShaped end ns fs

shaped_append : (end : Scope) (ms ns : List (List ℕ)) (fs gs : List t.Function) → AreShaped end ms fs
    → AreShaped end ns gs → AreShaped end (ms ++ ns) (fs ++ gs)
shaped_append end [] ns [] gs h k = k
shaped_append end [] ns (f ∷ fs) gs h k = absurd h
shaped_append end (m ∷ ms) ns [] gs h k = absurd h
shaped_append end (m ∷ ms) ns (f ∷ fs) gs h k = (h.0, shaped_append end ms ns fs gs h.1 k)

record IsShapedAt (end : Scope) (name : List ℕ) (fs : List t.Function) (k : ℕ) : Type 0 where
  function : t.Function
  there : slice_get fs k ≡ Some function
  signature : Signature
  among : Among (function_entry name (Some signature) true) end.names
  parameters : function.parameters ≡ map (parameter_type end.structures) signature.parameters
  result : function.result ≡ result_type end.structures signature.result

shaped_at : (end : Scope) (ns : List (List ℕ)) (fs : List t.Function) (k : ℕ) (name : List ℕ)
    → AreShaped end ns fs → slice_get ns k ≡ Some name → IsShapedAt end name fs k
shaped_at end [] fs k name h p = absurd (cc)
shaped_at end (n ∷ ns) [] k name h p = absurd h
shaped_at end (n ∷ ns) (f ∷ fs) zero name h p =
    let same : n ≡ name = cc in
    let x = subst (λ m. IsShaped end m f) same h.0 in
    record { function = f; there = refl; signature = x.0; among = x.1; parameters = x.2; result = x.3 }
shaped_at end (n ∷ ns) (f ∷ fs) (suc k) name h p =
    let x = shaped_at end ns fs k name h.1 p in
    record {
      function = x.function;
      there = x.there;
      signature = x.signature;
      among = x.among;
      parameters = x.parameters;
      result = x.result;
    }

functions_append : (p : Program) (fs gs : List t.Function) → AreFunctions p fs → AreFunctions p gs
    → AreFunctions p (fs ++ gs)
functions_append p [] gs h k = k
functions_append p (f ∷ fs) gs h k = (h.0, functions_append p fs gs h.1 k)

-- ---- items

-- What is found of items with these functions: they have types, and are sound in every program that
-- goes on from there.
pub record IsUnit (s : Scope) (names : List (List ℕ)) (x : Judged (List t.Function)) : Type 0 where
  pub stands : Stands x.scope
  pub later : Later s x.scope
  pub value : List t.Function
  pub is : x.value ≡ Some value
  pub shaped : (end : Scope) → Later x.scope end → AreShaped end names value
  pub sound : (end : Scope) (p : Program) → Later x.scope end → IsIn end p → AreFunctions p value

-- a definition, by the type of the function and by what it gives, where these are known
abbrev defined_by : Name → Parameters → BlockItems → Span → Option CType → List Fault → Scope → Option Signature
    → Option Base → Judged (List t.Function)
defined_by name parameters body span type before s f r =
    let y = judge_parameters parameters (prototype s) in
    let file = with_function name f s in
    let z = judge_block (outermost r) body (body_scope s file y.scope) in
    record {
      faults = before ++ (y.faults ++ (names_faults parameters
          ++ (repeated_faults (meaning_here name s) f name.span.start
          ++ (function_faults name type (length y.items) f
          ++ (definition_faults name r s
          ++ (z.faults
          ++ frame_faults z.scope.frame (length z.scope.objects) name.span.start))))));
      value = function_listed name span f z;
      scope = left_function file z.scope;
    }

defined_well : (name : Name) (g : Signature) (parameters : Parameters) (body : BlockItems) (span : Span)
    (type : Option CType) (before : List Fault) (s : Scope) → BlockHasNoFunction body → Stands s
    → (judge_parameters parameters (prototype s)).items ≡ map Some g.parameters
    → (defined_by name parameters body span type before s (Some g) (Some g.result)).faults ≡ []
    → IsUnit s (name.text ∷ []) (defined_by name parameters body span type before s (Some g) (Some g.result))
defined_well name g parameters body span type before s none st items h =
    let at = name.span.start in
    let y = judge_parameters parameters (prototype s) in
    let file = with_function name (Some g) s in
    let z = body_of name g parameters body s in
    let from_y = nil_right before _ h in
    let from_names = nil_right y.faults _ from_y in
    let from_repeated = nil_right (names_faults parameters) _ from_names in
    let repeated_here = repeated_faults (meaning_here name s) (Some g) at in
    let from_functions = nil_right repeated_here _ from_repeated in
    let functions_here = function_faults name type (length y.items) (Some g) in
    let functions = nil_left functions_here _ from_functions in
    let from_definition = nil_right functions_here _ from_functions in
    let definition_here = definition_faults name (Some g.result) s in
    let from_z = nil_right definition_here _ from_definition in
    let y_nil = nil_left y.faults _ from_y in
    let z_nil = nil_left z.faults _ from_z in
    let external = nil_left (external_faults name (Some g)) _ functions in
    let incomplete = is_incomplete s.structures (Some g.result) in
    let d : IsDefined name g parameters body s = record {
      none = none;
      stands = st;
      items = items;
      found = y_nil;
      typed = z_nil;
      frame = nil_right z.faults _ from_z;
      few = nil_right (fault_if (is_array_type type) Mismatch at) _ (nil_right (external_faults name (Some g)) _ functions);
      result = no_fault incomplete Mismatch at
          (nil_left (fault_if incomplete Mismatch at) _ (nil_left definition_here _ from_definition));
    } in
    let stf = function_named name g true s st (nil_left repeated_here _ from_repeated) external in
    let later = body_later name g parameters body s in
    let cut : take (length file.names) z.scope.names ≡ file.names =
    cut_back Entry file.names z.scope.names later.names in
    let arrays = arrays_in z.scope.structures y.items in
    let result = result_type z.scope.structures g.result in
    let objects_few = frame_numbered z.scope.frame (length z.scope.objects) at d.frame in
    let few : AreNumbered z.scope.objects arrays = (objects_few, arrays_numbered z.scope.structures y.items at d.few) in
    let v = stage file.names z.scope arrays result few in
    let runs = definition_runs v name g parameters body s none st (stage_ends file.names z.scope arrays result few) refl
    (stage_functions file.names z.scope arrays result few stf.agree) refl refl y_nil z_nil in
    let b = runs.run.value in
    let complete = complete_there v name g parameters body s items runs in
    let result_there = incomplete_kept s.structures z.scope.structures g.result
    (kept_completes s.structures z.scope.structures later.structures) d.result in
    let there = λ (end : Scope) (l : Begins Entry (take (length file.names) z.scope.names) end.names).
    subst (λ n. Begins Entry n end.names) cut l in
    record {
      stands = definition_stands name g parameters body s none st stf y_nil z_nil objects_few d.few;
      later = record {
        names = subst (Begins Entry s.names) (sym cut)
            (begins_with Entry s.names (function_entry name.text (Some g) true ∷ []));
        structures = later.structures;
        statics = later.statics;
        bodies = later.bodies;
      };
      value = function_from name span z.scope g b ∷ [];
      is = ap (λ o. lift2 (λ g body. function_from name span z.scope g body ∷ []) (Some g) o) runs.run.is;
      shaped = λ end l.
          let c = kept_completes z.scope.structures end.structures l.structures in
          let begins = there end l.names in (
            (
              g,
              subst (Among (function_entry name.text (Some g) true)) (sym begins.1)
                  (among_left (function_entry name.text (Some g) true) file.names begins.0
                  (among_last (function_entry name.text (Some g) true) s.names)),
              parameter_types_kept z.scope.structures end.structures g.parameters c complete,
              result_kept z.scope.structures end.structures g.result c result_there,
            ),
            tt,
          );
      sound = λ end p l inside. (
        function_sound end p name span g parameters body s b d l.structures l.statics l.bodies
            (there end l.names) inside runs.run.is,
        tt,
      );
    }

definition_well : (all : Specifiers) (name : Name) (parameters : Parameters) (body : BlockItems) (span : Span)
    (s : Scope) → BlockHasNoFunction body → Stands s
    → (judge_definition all name parameters body span s).faults ≡ []
    → IsUnit s (name.text ∷ []) (judge_definition all name parameters body span s)
definition_well all name parameters body span s none st h =
    let at = name.span.start in
    let n = judge_specifiers false all s in
    let x = typed_by span.start all n in
    let y = judge_parameters parameters (prototype x.scope) in
    let f = signature_listed x.value y in
    let x_nil = nil_left x.faults _ h in
    let from_y = nil_right x.faults _ h in
    let from_repeated = nil_right (names_faults parameters) _ (nil_right y.faults _ from_y) in
    let from_functions = nil_right (repeated_faults (meaning_here name x.scope) f at) _ from_repeated in
    let functions = nil_left (function_faults name x.value (length y.items) f) _ from_functions in
    let array = nil_left (fault_if (is_array_type x.value) Mismatch at) _ (nil_right (external_faults name f) _ functions) in
    let k = type_known false all span.start s st x_nil in
    let sx = specifiers_stand false all s st (nil_left n.faults _ x_nil) in
    let count = nil_right (fault_if (is_array_type x.value) Mismatch at) _ (nil_right (external_faults name f) _ functions) in
    let ps = parameters_known parameters x.scope at sx (nil_left y.faults _ from_y) count in
    let g : Signature = record { result = k.type.base; parameters = ps.kinds } in
    let plain = subst (λ o. fault_if (is_array_type o) Mismatch at ≡ []) k.is array in
    let f_is : f ≡ Some g =
    ap (λ o. signature_listed o y) k.is ∙ signature_known k.type y ps.kinds at ps.are plain in
    let r_is : result_of x.value ≡ Some g.result = ap result_of k.is ∙ result_known k.type at plain in
    let u = subst (λ o. (defined_by name parameters body span x.value x.faults x.scope o (result_of x.value)).faults ≡ []
    → IsUnit x.scope (name.text ∷ []) (defined_by name parameters body span x.value x.faults x.scope o (result_of x.value))) (sym f_is)
    (subst (λ r. (defined_by name parameters body span x.value x.faults x.scope (Some g) r).faults ≡ []
    → IsUnit x.scope (name.text ∷ []) (defined_by name parameters body span x.value x.faults x.scope (Some g) r)) (sym r_is)
    (λ q. defined_well name g parameters body span x.value x.faults x.scope none sx ps.are q)) h in
    record {
      stands = u.stands;
      later = later_trans s x.scope (judge_definition all name parameters body span s).scope
          (later_passed s x.scope (passed_by s x.scope (specifiers_grow false all s))) u.later;
      value = u.value;
      is = u.is;
      shaped = u.shaped;
      sound = u.sound;
    }

abbrev names_of_item : Item → List (List ℕ)
names_of_item (tree.Declared d) = []
names_of_item (tree.Defined all d body span) = (name_of d).text ∷ []

item_well : (i : Item) (s : Scope) → first_outside (nodes_of_item i) ≡ None → Stands s
    → (judge_item i s).faults ≡ [] → IsUnit s (names_of_item i) (judge_item i s)
item_well (tree.Declared d) s inside st h =
    let x = judge_declaration d s in
    let r = declaration_stands d s st h in
    record {
      stands = r.stands;
      later = later_passed s x.scope (passed s x.scope (declaration_extends d s));
      value = [];
      is = ap (option_map (λ ds. [])) r.is;
      shaped = λ end l. tt;
      sound = λ end p l k. tt;
    }
item_well (tree.Defined all (tree.function stars name parameters at) body span) s inside st h =
    definition_well all name parameters body span s
    (body_inside all (tree.function stars name parameters at) body span inside) st h
item_well (tree.Defined all (tree.object stars name lengths at) body span) s inside st h = absurd (cc)

bodies_split : (i : Item) (rest : List Item) → names_of_item i ++ bodies_of rest ≡ bodies_of (i ∷ rest)
bodies_split (tree.Declared d) rest = refl
bodies_split (tree.Defined all d body span) rest = refl

pub unit_well : (items : List Item) (s : Scope) → first_outside (nodes_of_unit items) ≡ None → Stands s
    → (judge_unit items s).faults ≡ [] → IsUnit s (bodies_of items) (judge_unit items s)
unit_well [] s inside st h = record {
  stands = st;
  later = later_refl s;
  value = [];
  is = refl;
  shaped = λ end l. tt;
  sound = λ end p l k. tt;
}
unit_well (i ∷ rest) s inside st h =
    let x = judge_item i s in
    let y = judge_unit rest x.scope in
    let one = item_well i s (first_item_inside i rest inside) st (nil_left x.faults _ h) in
    let more = unit_well rest x.scope (later_items_inside i rest inside) one.stands
    (nil_left y.faults [] (nil_right x.faults _ h)) in
    record {
      stands = more.stands;
      later = later_trans s x.scope y.scope one.later more.later;
      value = one.value ++ more.value;
      is = lift2_some append x.value y.value one.value more.value one.is more.is;
      shaped = λ end l.
          subst (λ n. AreShaped end n (one.value ++ more.value)) (bodies_split i rest)
          (shaped_append end (names_of_item i) (bodies_of rest) one.value more.value
          (one.shaped end (later_trans x.scope y.scope end more.later l)) (more.shaped end l));
      sound = λ end p l k.
          functions_append p one.value more.value
          (one.sound end p (later_trans x.scope y.scope end more.later l) k) (more.sound end p l k);
    }

-- ---- whole units

file_scope_stands : (bodies : List (List ℕ)) → Stands (file_scope bodies)
file_scope_stands bodies = record {
  fits = λ w ends same fun. subst (λ b. Fits w (file_scope b)) (sym same) (file_scope_fits w);
  below = tt;
  agree = none_agree;
  none = refl;
  file = refl;
  from = refl;
}

pub unit_typed : (items : List Item) → first_outside (nodes_of_unit items) ≡ None → HasTyping items
    → IsUnit (file_scope (bodies_of items)) (bodies_of items) (found_of items)
unit_typed items inside h =
    unit_well items (file_scope (bodies_of items)) inside (file_scope_stands (bodies_of items)) h

program_inside : (items : List Item)
    → (u : IsUnit (file_scope (bodies_of items)) (bodies_of items) (found_of items))
    → length (found_of items).scope.structures ≤ most_counted
    → IsIn (found_of items).scope (program_from (found_of items).scope u.value)
program_inside items u types_few =
    let end = (found_of items).scope in
    let p = program_from end u.value in
    record {
      structures = refl;
      statics = refl;
      few = types_few;
      functions = λ os us r few name f b h. record {
        defined = λ k q. fits os us r few name f b h k (place_of name end.bodies k q);
        input = λ n e q. u.stands.agree.input name f b n h e q;
        output = λ n e q. u.stands.agree.output name f b n h e q;
      };
    }
  where
    fits : (os : List Object) (us : List ObjectType) (r : ResultType) (few : AreNumbered os us) (name : List ℕ)
        (f : Signature) (b : Bool)
        → Among (function_entry name (Some f) b) (found_of items).scope.names → (k : ℕ)
        → slice_get (found_of items).scope.bodies k ≡ Some name
        → FunctionFits (world_of (found_of items).scope (program_from (found_of items).scope u.value) os us r few) f k
    fits os us r few name f b h k there =
        let end = (found_of items).scope in
        let at : slice_get (bodies_of items) k ≡ Some name = ap (λ l. slice_get l k) (sym u.later.bodies) ∙ there in
        let x = shaped_at end (bodies_of items) u.value k name (u.shaped end (later_refl end)) at in
        let same : x.signature ≡ f = u.stands.agree.same name x.signature f true b x.among h in
        record {
          there = get_within u.value k x.function x.there;
          parameters = ap parameters_at x.there ∙ x.parameters
              ∙ ap (λ (g : Signature). map (parameter_type end.structures) g.parameters) same;
          result = ap result_at x.there ∙ x.result ∙ ap (λ (g : Signature). result_type end.structures g.result) same;
        }

static_sum : (os : List StaticObject) → sum (map (λ o. o.object.cells) os) ≡ total (map (λ o. o.object) os)
static_sum [] = refl
static_sum (o ∷ os) =
    sum_by-cons (λ (n : ℕ). n) o.object.cells (map (λ (x : StaticObject). x.object.cells) os)
    ∙ ap (λ n. o.object.cells + n) (static_sum os)

structures_length : (k : ℕ) (all : List Structure) → length (structures_from k all) ≡ length all
structures_length k [] = refl
structures_length k (x ∷ rest) = ap suc (structures_length (k + 1) rest)

structures_are : (w : World) (all : List Structure) (k : ℕ) (rest : List Structure)
    → length w.structures ≤ most_counted → k + length rest ≤ length w.structures
    → ((j : ℕ) (x : Structure) → slice_get rest j ≡ Some x
    → StructureFits w all x × (slice_get (objects_of w) (k + j) ≡ Some (structure_from (k + j) x)))
    → AreStructures (objects_of w) k (structures_from k rest)
structures_are w all k [] few last h = tt
structures_are w all k (x ∷ rest) few last h =
    by_structure x (h 0 x refl).0 here
    (structures_are w all (k + 1) rest few (omega (arith, last)) (λ j y q.
    let f = h (suc j) y q in
    let e : k + suc j ≡ k + 1 + j = omega arith in
    (f.0, ap (slice_get (objects_of w)) (sym e) ∙ f.1 ∙ ap (λ n. Some (structure_from n y)) e)))
  where
    exact : counted k ≡ k
    exact = counted_small k (omega (arith, few, last))

    here : slice_get (objects_of w) k ≡ Some (structure_from k x)
    here =
        let e : k + 0 ≡ k = omega arith in
        ap (slice_get (objects_of w)) (sym e) ∙ (h 0 x refl).1 ∙ ap (λ n. Some (structure_from n x)) e

    by_structure : (x : Structure) → StructureFits w all x
        → slice_get (objects_of w) k ≡ Some (structure_from k x)
        → AreStructures (objects_of w) (k + 1) (structures_from (k + 1) rest)
        → AreStructures (objects_of w) k (structure_from k x ∷ structures_from (k + 1) rest)
    by_structure (Complete ms) f there more = (
      exact,
      record {
        formed = (ap (slice_get (objects_of w)) exact ∙ there, f.formed few);
        small = f.small;
        flat = omega (arith, f.flat);
      },
      more,
    )
    by_structure (Incomplete b) f there more = (
      exact,
      record {
        formed = (ap (slice_get (objects_of w)) exact ∙ there, tt);
        small = omega arith;
        flat = omega arith;
      },
      more,
    )
    by_structure Faulty f there more = absurd f

pub program_sound : (items : List Item)
    → (u : IsUnit (file_scope (bodies_of items)) (bodies_of items) (found_of items))
    → length u.value < 2 ^ 31 → length (found_of items).scope.statics < 2 ^ 31
    → length (structures_from 0 (found_of items).scope.structures) < 2 ^ 31
    → IsSound (program_from (found_of items).scope u.value)
program_sound items u functions_few statics_few structures_few =
    let end = (found_of items).scope in
    let p = program_from end u.value in
    let count = structures_length 0 end.structures in
    let types_few : length end.structures ≤ most_counted = omega (arith, count, structures_few) in
    let inside = program_inside items u types_few in
    let few : AreNumbered [] [] = (omega arith, omega arith) in
    let w = world_of end p [] [] t.NoResult few in
    let ends : Ends w end = record {
      structures = λ k ms h. h;
      objects = ([], sym (right_nil end.objects ∙ u.stands.none));
      statics = begins_refl Object (map (λ o. o.object) end.statics);
    } in
    let fit = u.stands.fits w ends refl (inside.functions [] [] t.NoResult few) in
    let statics = map (λ o. o.object) end.statics in
    let room : total statics ≤ most_static_cells =
    subst (λ n. n ≤ most_static_cells) fit.statics.cells fit.statics.room in
    let room_from : 0 + total statics ≤ most_static_cells = omega (arith, room) in
    record {
      functions = u.sound end p (later_refl end) inside;
      statics = laid_out most_static_cells w 0 statics types_few fit.statics.laid room_from;
      initial = fit.statics.initial;
      static_room = subst (λ n. n ≤ most_static_cells) (sym (static_sum end.statics)) room;
      structures = structures_are w end.structures 0 end.structures types_few (last end.structures)
          (λ j x q. (fit.structures j x q, ap (slice_get (objects_of w)) (zero_plus j) ∙ get_structure 0 j end.structures x q));
      functions_few = functions_few;
      statics_few = statics_few;
      structures_few = structures_few;
    }
  where
    zero_plus : (n : ℕ) → 0 + n ≡ n
    zero_plus n = omega arith

    last : (all : List Structure) → 0 + length all ≤ length all
    last all = omega arith

pub units_typed : UnitsAreTyped
units_typed items inside h =
    let u = unit_typed items inside h in
    (program_from (found_of items).scope u.value, ap (option_map (program_from (found_of items).scope)) u.is)

pub units_sound : UnitsAreSound
units_sound items p inside h few =
    let u = unit_typed items inside h.0 in
    let end = (found_of items).scope in
    let same : program_from end u.value ≡ p =
    some_same (program_from end u.value) p (sym (ap (option_map (program_from end)) u.is) ∙ h.1) in
    let k = subst (λ q. IsFew q) (sym same) few in
    subst (λ q. IsSound q) same (program_sound items u k.functions k.statics k.structures)
  where
    some_same : (p q : Program) → Some p ≡ Some q → p ≡ q
    some_same p q h = cc
