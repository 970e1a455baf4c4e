-- Function definitions: what is declared stands after one without a fault, and the function is sound
-- in every program that goes on from there.
use Rattle.std.proofs.Common.{◌≡◌, ℕ, zero, suc, ◌+◌, ◌≤◌, nat_lt, Bool, true, false, not, List, [], ◌∷◌, ◌++◌, map, length, take, drop, sum, Some, None, refl, ap, sym, ◌∙◌, subst, arith}
use Rattle.std.proofs.lemmas.List.{length-map}
use Rattle.std.proofs.lemmas.List.Sums.{sum_by-cons}
use Rattle.std.proofs.Math.Seq.{drop-append_seam}
use Rattle.mc_span.specs.declared.span.Span.{Span}
use Rattle.mc_tree.specs.Tree.{Name, Parameters, BlockItems}
use Rattle.mc_typed.specs.Layout.{ObjectType}
use Rattle.mc_typed.specs.Tree.{Object, StaticObject, Statements, ParameterType, ResultType, Program}
use Rattle.mc_typed.specs.Tree as t
use Rattle.mc_typed.specs.Frames.{slots_statements}
use Rattle.mc_typed.specs.Sound.{AreStatements, AreLaidOut, IsObjectType, AreObjectTypes, AreParameters, IsResult, slots_from, scope_of, IsFunction}
use Rattle.mc_typed.specs.Sound as sound
use Rattle.types_faults.specs.declared.fault.FaultKind.TheVariants.{Limit}
use Rattle.mc_limits.specs.Limits.{most_frame_cells, most_parameters, most_static_cells}
use Rattle.types_rules.specs.Profile.{most_counted, most_numbered, start_at}
use Rattle.types_rules.specs.Types.{Base, Void, Integer, Tagged, plain, Structure, Incomplete, Complete, Faulty, is_complete, layout_of, structures_from, ParameterKind, ByValue, ByArray, Signature}
use Rattle.types_rules.specs.Scopes.{Entry, Scope, prototype, body_scope, left_function}
use Rattle.types_rules.specs.Values.{Judged}
use Rattle.types_rules.specs.Limits.{frame_faults, parameter_count_faults}
use Rattle.types_rules.specs.Judgement.{judge_parameters}
use Rattle.types_rules.specs.Statements.{outermost}
use Rattle.types_rules.specs.Bodies.{judge_block}
use Rattle.types_rules.specs.Typing.{parameter_type, result_type, is_incomplete, function_from, with_function}
use Rattle.types_rules.proofs.Sums.{summed_within}
use Rattle.laws_soundness.specs.Growth.{Begins, Kept, AreBelow}
use Rattle.laws_soundness.specs.Blocks.{BlockHasNoFunction}
use Rattle.laws_soundness.specs.Fits.{World, AreNumbered, objects_of, IsTypeIn, AreTypesIn, Completes, StructureFits, StructuresFit, SignatureFits, NamesFit, AreLaid, total, Fits, Ends, LabelsFit, IsRun, arrays_in, base_of_kind, AreComplete, AreParametersFound}
use Rattle.laws_soundness.proofs.Lists.{right_nil, begins_trans, begins_refl, begins_with, cut_back}
use Rattle.laws_soundness.proofs.Tests.{no_fault, or_left, or_right}
use Rattle.laws_soundness.proofs.Grows.{below_append}
use Rattle.laws_soundness.proofs.Fitting.{kept_completes, complete_kept, layout_kept, names_kept, names_append, structure_type_fits, slots_append, begins_map}
use Rattle.laws_soundness.proofs.Passes.{names_take, below_take, block_passes}
use Rattle.laws_soundness.proofs.Parameters.{kinds_kept, parameters_well, parameters_labels}
use Rattle.laws_soundness.proofs.Numbered.{count_small, arrays_numbered}
use Rattle.laws_soundness.proofs.Bodies.{block_run}
use Rattle.laws_soundness.proofs.Agreeing.{function_entry, among_last, Agree}
use Rattle.laws_soundness.proofs.Stages.{FunctionsFit, functions_before, stage, stage_ends, stage_functions, Stands, Later, later_trans, stands_before}
use Rattle.laws_soundness.proofs.FileScope.{fits_prototype, parameters_later}

-- ---- the scope of a body

-- the scope of the body of a function that is declared here, and what is found of the body
abbrev pub in_body : Name → Signature → Parameters → Scope → Scope
in_body name g parameters s =
    body_scope s (with_function name (Some g) s) (judge_parameters parameters (prototype s)).scope

abbrev pub body_of : Name → Signature → Parameters → BlockItems → Scope → Judged Statements
body_of name g parameters body s =
    judge_block (outermost (Some g.result)) body (in_body name g parameters s)

pub body_later : (name : Name) (g : Signature) (parameters : Parameters) (body : BlockItems) (s : Scope)
    → Later (with_function name (Some g) s) (body_of name g parameters body s).scope
body_later name g parameters body s =
    let file = with_function name (Some g) s in
    let y = (judge_parameters parameters (prototype s)).scope in
    let b = in_body name g parameters s in
    let z = (body_of name g parameters body s).scope in
    let l = parameters_later parameters s in
    let p = block_passes (outermost (Some g.result)) body b in
    record {
      names = begins_trans Entry file.names b.names z.names
          (begins_with Entry file.names (drop (length s.names) y.names)) p.names;
      structures = λ k x e n. p.structures k x (l.structures k x e n) n;
      statics = begins_trans StaticObject s.statics y.statics z.statics l.statics p.statics;
      bodies = p.bodies ∙ l.bodies;
    }

function_later : (name : Name) (g : Signature) (s : Scope) → Later s (with_function name (Some g) s)
function_later name g s = record {
  names = begins_with Entry s.names (function_entry name.text (Some g) true ∷ []);
  structures = λ k x h n. h;
  statics = begins_refl StaticObject s.statics;
  bodies = refl;
}

names_drop : (w : World) (all : List Structure) (n : ℕ) (es : List Entry) → NamesFit w all es
    → NamesFit w all (drop n es)
names_drop w all zero es h = h
names_drop w all (suc n) [] h = tt
names_drop w all (suc n) (e ∷ es) h = names_drop w all n es h.1

below_drop : (m n : ℕ) (es : List Entry) → AreBelow m es → AreBelow m (drop n es)
below_drop m zero es h = h
below_drop m (suc n) [] h = tt
below_drop m (suc n) (e ∷ es) h = below_drop m n es h.1

body_fits : (w : World) (name : Name) (g : Signature) (s y : Scope) → Begins Entry s.names y.names
    → SignatureFits w name.text g → Fits w y → Fits w (body_scope s (with_function name (Some g) s) y)
body_fits w name g s y b sig fit =
    let all = y.structures in
    let new = function_entry name.text (Some g) true ∷ [] in
    let before = subst (NamesFit w all) (cut_back Entry s.names y.names b)
    (names_take w all (length s.names) y.names fit.names) in
    record {
      names = names_append w all (s.names ++ new) (drop (length s.names) y.names)
          (names_append w all s.names new before (sig, tt)) (names_drop w all (length s.names) y.names fit.names);
      structures = fit.structures;
      laid = fit.laid;
      frame = fit.frame;
      statics = fit.statics;
      bodies = fit.bodies;
    }

body_below : (name : Name) (g : Signature) (s y : Scope) → Begins Entry s.names y.names
    → AreBelow (length y.statics) y.names
    → AreBelow (length y.statics) (body_scope s (with_function name (Some g) s) y).names
body_below name g s y b below =
    let n = length y.statics in
    let new = function_entry name.text (Some g) true ∷ [] in
    let before = subst (AreBelow n) (cut_back Entry s.names y.names b) (below_take n (length s.names) y.names below) in
    below_append n (s.names ++ new) (drop (length s.names) y.names)
    (below_append n s.names new before (tt, tt)) (below_drop n (length s.names) y.names below)

-- ---- a body without a fault

-- what is found of the parameters and of the body is well
pub record Runs (w : World) (name : Name) (g : Signature) (parameters : Parameters) (body : BlockItems) (s : Scope)
    : Type 0 where
  pub found : AreParametersFound w (prototype s) (judge_parameters parameters (prototype s))
  pub run : IsRun w sound.outermost (in_body name g parameters s) (body_of name g parameters body s)

pub definition_runs : (w : World) (name : Name) (g : Signature) (parameters : Parameters) (body : BlockItems)
    (s : Scope) → BlockHasNoFunction body → Stands s → Ends w (body_of name g parameters body s).scope
    → (body_of name g parameters body s).scope.bodies ≡ w.bodies
    → FunctionsFit w (with_function name (Some g) s).names
    → w.scope.arrays ≡ arrays_in w.structures (judge_parameters parameters (prototype s)).items
    → w.scope.result ≡ result_type w.structures g.result
    → (judge_parameters parameters (prototype s)).faults ≡ []
    → (body_of name g parameters body s).faults ≡ [] → Runs w name g parameters body s
definition_runs w name g parameters body s none st ends bodies fun arrays result y_nil z_nil =
    let file = with_function name (Some g) s in
    let y = judge_parameters parameters (prototype s) in
    let b = in_body name g parameters s in
    let z = body_of name g parameters body s in
    let l = parameters_later parameters s in
    let later = later_trans s file z.scope (function_later name g s) (body_later name g parameters body s) in
    let fit = stands_before w s z.scope file.names st later (function_later name g s).names ends bodies fun in
    let p = block_passes (outermost (Some g.result)) body b in
    let ends_y : Ends w y.scope = record {
      structures = λ k ms h. ends.structures k ms (p.structures k (Complete ms) h tt);
      objects = begins_trans Object y.scope.objects z.scope.objects w.scope.objects p.objects ends.objects;
      statics = begins_trans Object (map (λ o. o.object) y.scope.statics) (map (λ o. o.object) z.scope.statics)
          w.scope.statics (begins_map (λ o. o.object) y.scope.statics z.scope.statics p.statics) ends.statics;
    } in
    let found = parameters_well w parameters (prototype s) (fits_prototype w s fit) st.below ends_y
    (record {
      before = [];
      more = [];
      count = refl;
      are = arrays ∙ sym (right_nil (arrays_in w.structures y.items));
    }) y_nil in
    let sig = fun name.text g true (among_last (function_entry name.text (Some g) true) s.names) in
    record {
      found = found;
      run = block_run w (outermost (Some g.result)) sound.outermost body b none refl
          (record {
            breaks = refl;
            continues = refl;
            labels = subst (λ m. LabelsFit m None) (sym (parameters_labels parameters (prototype s))) tt;
            result = (g.result, refl, result);
          })
          (body_fits w name g s y.scope l.names sig found.fits) (body_below name g s y.scope l.names found.below)
          ends z_nil;
    }

-- ---- the same program with the objects of another function

abbrev located : World → (os : List Object) → (us : List ObjectType) → ResultType → AreNumbered os us → World
located w os us r few = record {
  scope = record w.scope { objects = os; arrays = us; result = r };
  structures = w.structures;
  bodies = w.bodies;
  few = few;
}

functions_located : (w : World) (os : List Object) (us : List ObjectType) (r : ResultType)
    (few : AreNumbered os us) (es : List Entry) → FunctionsFit w es → FunctionsFit (located w os us r few) es
functions_located w os us r few es fun name f b h =
    let x = fun name f b h in
    record {
      defined = λ k p.
          let d = x.defined k p in record { there = d.there; parameters = d.parameters; result = d.result };
      input = x.input;
      output = x.output;
    }

structures_back : (w : World) (os : List Object) (us : List ObjectType) (r : ResultType)
    (few : AreNumbered os us) (all : List Structure)
    → StructuresFit (located w os us r few) all → StructuresFit w all
structures_back w os us r few all fit k x h = by_structure x (fit k x h)
  where
    by_structure : (x : Structure) → StructureFits (located w os us r few) all x → StructureFits w all x
    by_structure (Incomplete b) f = tt
    by_structure (Complete ms) f = record { types = f.types; formed = f.formed; full = f.full; few = f.few; small = f.small; flat = f.flat }
    by_structure Faulty f = f

laid_back : (most : ℕ) (w : World) (os : List Object) (us : List ObjectType) (r : ResultType)
    (few : AreNumbered os us) (n : ℕ) (xs : List Object) → AreLaid most (located w os us r few) n xs
    → AreLaid most w n xs
laid_back most w os us r few n [] h = tt
laid_back most w os us r few n (x ∷ xs) h =
    (h.0, h.1, h.2, laid_back most w os us r few (n + x.cells) xs h.3)

-- ---- after a definition

pub definition_stands : (name : Name) (g : Signature) (parameters : Parameters) (body : BlockItems) (s : Scope)
    → BlockHasNoFunction body → Stands s → Stands (with_function name (Some g) s)
    → (judge_parameters parameters (prototype s)).faults ≡ [] → (body_of name g parameters body s).faults ≡ []
    → length (body_of name g parameters body s).scope.objects ≤ most_numbered
    → parameter_count_faults (length (judge_parameters parameters (prototype s)).items) name.span.start ≡ []
    → Stands (left_function (with_function name (Some g) s) (body_of name g parameters body s).scope)
definition_stands name g parameters body s none st stf y_nil z_nil objects_few count =
    let file = with_function name (Some g) s in
    let y = judge_parameters parameters (prototype s) in
    let z = body_of name g parameters body s in
    let later = body_later name g parameters body s in
    let cut : take (length file.names) z.scope.names ≡ file.names =
    cut_back Entry file.names z.scope.names later.names in
    let arrays = arrays_in z.scope.structures y.items in
    let result = result_type z.scope.structures g.result in
    let v_few : AreNumbered z.scope.objects arrays = (objects_few, arrays_numbered z.scope.structures y.items name.span.start count) in
    let v = stage file.names z.scope arrays result v_few in
    let v_runs = definition_runs v name g parameters body s none st (stage_ends file.names z.scope arrays result v_few) refl
    (stage_functions file.names z.scope arrays result v_few stf.agree) refl refl y_nil z_nil in
    record {
      fits = λ w ends bodies fun.
          let us = arrays_in w.structures y.items in
          let r = result_type w.structures g.result in
          let few : AreNumbered z.scope.objects us = (objects_few, arrays_numbered w.structures y.items name.span.start count) in
          let here = located w z.scope.objects us r few in
          let fun_file = subst (FunctionsFit w) cut fun in
          let ends_here : Ends here z.scope = record {
            structures = ends.structures;
            objects = begins_refl Object z.scope.objects;
            statics = ends.statics;
          } in
          let runs = definition_runs here name g parameters body s none st ends_here bodies
          (functions_located w z.scope.objects us r few file.names fun_file) refl refl y_nil z_nil in
          let fit = runs.run.fits in
          let fit_file = stf.fits w
          (record {
            structures = λ k ms h. ends.structures k ms (later.structures k (Complete ms) h tt);
            objects = (w.scope.objects, ap (λ o. o ++ w.scope.objects) (sym stf.none));
            statics = begins_trans Object (map (λ o. o.object) file.statics) (map (λ o. o.object) z.scope.statics)
                w.scope.statics (begins_map (λ o. o.object) file.statics z.scope.statics later.statics) ends.statics;
          }) (sym later.bodies ∙ bodies) fun_file in
          record {
            names = subst (NamesFit w z.scope.structures) (sym cut)
                (names_kept w file.structures z.scope.structures file.names
                (kept_completes file.structures z.scope.structures later.structures) fit_file.names);
            structures = structures_back w z.scope.objects us r few z.scope.structures fit.structures;
            laid = tt;
            frame = refl;
            statics = record {
              laid = laid_back most_static_cells w z.scope.objects us r few 0 (map (λ o. o.object) z.scope.statics) fit.statics.laid;
              cells = fit.statics.cells;
              room = fit.statics.room;
              few = fit.statics.few;
              initial = fit.statics.initial;
            };
            bodies = fit.bodies;
          };
      below = below_take (length z.scope.statics) (length file.names) z.scope.names v_runs.run.below;
      agree = subst Agree (sym cut) stf.agree;
      none = refl;
      file = stf.file;
      from = stf.from;
    }

-- ---- functions of a program

-- a program that has what is declared in this scope
abbrev pub world_of : Scope → Program → (os : List Object) → (us : List ObjectType) → ResultType
    → AreNumbered os us → World
world_of end p os us r few = record {
  scope = record {
    functions = p.functions;
    statics = map (λ o. o.object) p.statics;
    objects = os;
    arrays = us;
    result = r;
  };
  structures = end.structures;
  bodies = end.bodies;
  few = few;
}

pub record IsIn (end : Scope) (p : Program) : Type 0 where
  pub structures : p.structures ≡ structures_from 0 end.structures
  pub statics : p.statics ≡ end.statics
  pub few : length end.structures ≤ most_counted
  pub functions : (os : List Object) (us : List ObjectType) (r : ResultType) (few : AreNumbered os us)
      → FunctionsFit (world_of end p os us r few) end.names

pub parameter_types_kept : (all more : List Structure) (ks : List ParameterKind) → Completes all more
    → AreComplete all ks → map (parameter_type all) ks ≡ map (parameter_type more) ks
parameter_types_kept all more [] c h = refl
parameter_types_kept all more (k ∷ ks) c h =
    ap (λ p. p ∷ map (parameter_type all) ks) (by_kind k h.0)
    ∙ ap (λ l. parameter_type more k ∷ l) (parameter_types_kept all more ks c h.1)
  where
    by_kind : (k : ParameterKind) → is_complete all (base_of_kind k) ≡ true → parameter_type all k ≡ parameter_type more k
    by_kind (ByValue Void) h = absurd (cc)
    by_kind (ByValue (Integer a)) h = refl
    by_kind (ByValue (Tagged n)) h = ap t.StructureParameter (layout_kept all more (plain (Tagged n)) c h)
    by_kind (ByArray u) h = ap t.ArrayParameter (layout_kept all more u c h)

complete_result : (all : List Structure) (n : ℕ) → is_incomplete all (Some (Tagged n)) ≡ false
    → is_complete all (Tagged n) ≡ true
complete_result all n h = not_incomplete (is_complete all (Tagged n)) h
  where
    not_incomplete : (b : Bool) → not b ≡ false → b ≡ true
    not_incomplete true h = refl
    not_incomplete false h = absurd (cc)

pub result_kept : (all more : List Structure) (b : Base) → Completes all more → is_incomplete all (Some b) ≡ false
    → result_type all b ≡ result_type more b
result_kept all more Void c h = refl
result_kept all more (Integer a) c h = refl
result_kept all more (Tagged n) c h =
    ap t.StructureResult (layout_kept all more (plain (Tagged n)) c (complete_result all n h))

arrays_of_kinds : (all : List Structure) (ks : List ParameterKind)
    → sound.arrays_of (map (parameter_type all) ks) ≡ arrays_in all (map Some ks)
arrays_of_kinds all [] = refl
arrays_of_kinds all (ByValue Void ∷ ks) = arrays_of_kinds all ks
arrays_of_kinds all (ByValue (Integer a) ∷ ks) = arrays_of_kinds all ks
arrays_of_kinds all (ByValue (Tagged n) ∷ ks) = arrays_of_kinds all ks
arrays_of_kinds all (ByArray u ∷ ks) = ap (λ l. layout_of all u ∷ l) (arrays_of_kinds all ks)

are_parameters : (all : List Structure) (ks : List ParameterKind) → AreParameters (map (parameter_type all) ks)
are_parameters all [] = tt
are_parameters all (ByValue Void ∷ ks) = (tt, are_parameters all ks)
are_parameters all (ByValue (Integer a) ∷ ks) = are_parameters all ks
are_parameters all (ByValue (Tagged n) ∷ ks) = (tt, are_parameters all ks)
are_parameters all (ByArray u ∷ ks) = are_parameters all ks

begins_of : (us : List ObjectType) (os more : List Object) → map (λ o. o.object_type) os ≡ us
    → sound.Begins us (os ++ more)
begins_of [] os more h = tt
begins_of (u ∷ us) [] more h = absurd (cc)
begins_of (u ∷ us) (o ∷ os) more h = (head_same h, begins_of us os more (tail_same h))
  where
    head_same : o.object_type ∷ map (λ o. o.object_type) os ≡ u ∷ us → o.object_type ≡ u
    head_same h = cc

    tail_same : o.object_type ∷ map (λ o. o.object_type) os ≡ u ∷ us → map (λ o. o.object_type) os ≡ us
    tail_same h = cc

somes_same : (xs ys : List ParameterKind) → map Some xs ≡ map Some ys → xs ≡ ys
somes_same [] [] h = refl
somes_same [] (y ∷ ys) h = absurd (cc)
somes_same (x ∷ xs) [] h = absurd (cc)
somes_same (x ∷ xs) (y ∷ ys) h =
    ap (λ k. k ∷ xs) (some_same (head_same h)) ∙ ap (λ l. y ∷ l) (somes_same xs ys (tail_same h))
  where
    head_same : Some x ∷ map Some xs ≡ Some y ∷ map Some ys → Some x ≡ Some y
    head_same h = cc

    tail_same : Some x ∷ map Some xs ≡ Some y ∷ map Some ys → map Some xs ≡ map Some ys
    tail_same h = cc

    some_same : Some x ≡ Some y → x ≡ y
    some_same h = cc

start_small : (most n : ℕ) → n ≤ most → start_at most n ≡ n
start_small most n h = grind (arith, h)

-- where the structure types of the program are few, its types are sound
object_type : (all : List Structure) (u : ObjectType) → length all ≤ most_counted → IsTypeIn all u
    → IsObjectType (structures_from 0 all) u
object_type all u few h = record { formed = h.formed few; small = h.small; flat = h.flat }

object_types : (all : List Structure) (us : List ObjectType) → length all ≤ most_counted
    → AreTypesIn all us → AreObjectTypes (structures_from 0 all) us
object_types all [] few h = tt
object_types all (u ∷ us) few h = (object_type all u few h.0, object_types all us few h.1)

pub laid_out : (most : ℕ) (w : World) (n : ℕ) (os : List Object) → length w.structures ≤ most_counted
    → AreLaid most w n os → n + total os ≤ most → AreLaidOut (objects_of w) n os
laid_out most w n [] few h small = tt
laid_out most w n (o ∷ os) few h small =
    let here : n ≤ most = omega (arith, small) in
    let rest : n + o.cells + total os ≤ most = omega (arith, small) in (
      object_type w.structures o.object_type few h.0,
      h.1,
      h.2 ∙ start_small most n here,
      laid_out most w (n + o.cells) os few h.3 rest,
    )

pub total_sum : (os : List Object) → sum (map (λ o. o.cells) os) ≡ total os
total_sum [] = refl
total_sum (o ∷ os) =
    sum_by-cons (λ (n : ℕ). n) o.cells (map (λ (x : Object). x.cells) os) ∙ ap (λ n. o.cells + n) (total_sum os)

slots_length : (k : ℕ) (os : List Object) → length (slots_from k os) ≡ length os
slots_length k [] = refl
slots_length k (o ∷ os) = ap suc (slots_length (k + 1) os)

slots_after : (xs ys : List Object) → drop (length xs) (slots_from 0 (xs ++ ys)) ≡ slots_from (length xs) ys
slots_after xs ys =
    let n : 0 + length xs ≡ length xs = zero_plus (length xs) in
    ap (drop (length xs)) (slots_append 0 xs ys ∙ ap (λ m. slots_from 0 xs ++ slots_from m ys) n)
    ∙ ap (λ m. drop m (slots_from 0 xs ++ slots_from (length xs) ys)) (sym (slots_length 0 xs))
    ∙ drop-append_seam (slots_from 0 xs) (slots_from (length xs) ys)
  where
    zero_plus : (n : ℕ) → 0 + n ≡ n
    zero_plus n = omega arith

frame_small : (n count at : ℕ) → frame_faults n count at ≡ [] → n ≤ most_frame_cells
frame_small n count at h =
    within (or_left (nat_lt most_frame_cells n) (nat_lt most_numbered count) (no_fault _ Limit at h))
  where
    within : nat_lt most_frame_cells n ≡ false → n ≤ most_frame_cells
    within h = grind (arith, h)

pub frame_numbered : (n count at : ℕ) → frame_faults n count at ≡ [] → count ≤ most_numbered
frame_numbered n count at h =
    within (or_right (nat_lt most_frame_cells n) (nat_lt most_numbered count) (no_fault _ Limit at h))
  where
    within : nat_lt most_numbered count ≡ false → count ≤ most_numbered
    within h = grind (arith, h)

is_result : (w : World) (all : List Structure) (b : Base) → length w.structures ≤ most_counted
    → StructuresFit w all → Completes all w.structures → is_incomplete all (Some b) ≡ false
    → IsResult (objects_of w) (result_type all b)
is_result w all Void few fit c h = tt
is_result w all (Integer a) few fit c h = tt
is_result w all (Tagged n) few fit c h =
    let u = structure_type_fits w all n fit c (complete_result all n h) in
    (object_type w.structures (layout_of all (plain (Tagged n))) few u, tt)

pub incomplete_kept : (all more : List Structure) (b : Base) → Completes all more → is_incomplete all (Some b) ≡ false
    → is_incomplete more (Some b) ≡ false
incomplete_kept all more Void c h = refl
incomplete_kept all more (Integer a) c h = refl
incomplete_kept all more (Tagged n) c h =
    ap not (complete_kept all more (Tagged n) c (complete_result all n h))

abbrev program_scope : Program → List Object → List ObjectType → ResultType → sound.Scope
program_scope p os us r = record {
  functions = p.functions;
  statics = map (λ o. o.object) p.statics;
  objects = os;
  arrays = us;
  result = r;
}

-- what is open of a definition without a fault, beside its body
pub record IsDefined (name : Name) (g : Signature) (parameters : Parameters) (body : BlockItems) (s : Scope)
    : Type 0 where
  pub none : BlockHasNoFunction body
  pub stands : Stands s
  pub items : (judge_parameters parameters (prototype s)).items ≡ map Some g.parameters
  pub found : (judge_parameters parameters (prototype s)).faults ≡ []
  pub typed : (body_of name g parameters body s).faults ≡ []
  pub frame : frame_faults (body_of name g parameters body s).scope.frame
      (length (body_of name g parameters body s).scope.objects) name.span.start ≡ []
  pub few : parameter_count_faults (length (judge_parameters parameters (prototype s)).items) name.span.start ≡ []
  pub result : is_incomplete s.structures (Some g.result) ≡ false

-- of its parameters: they are complete where the body ends
pub complete_there : (w : World) (name : Name) (g : Signature) (parameters : Parameters) (body : BlockItems)
    (s : Scope) → (judge_parameters parameters (prototype s)).items ≡ map Some g.parameters
    → Runs w name g parameters body s
    → AreComplete (body_of name g parameters body s).scope.structures g.parameters
complete_there w name g parameters body s items runs =
    let y = judge_parameters parameters (prototype s) in
    let z = body_of name g parameters body s in
    let p = block_passes (outermost (Some g.result)) body (in_body name g parameters s) in
    let kinds = somes_same runs.found.kinds g.parameters (sym runs.found.are ∙ items) in
    subst (AreComplete z.scope.structures) kinds
    (kinds_kept y.scope.structures z.scope.structures runs.found.kinds
    (kept_completes y.scope.structures z.scope.structures p.structures) runs.found.complete)

pub function_sound : (end : Scope) (p : Program) (name : Name) (span : Span) (g : Signature)
    (parameters : Parameters) (body : BlockItems) (s : Scope) (b : Statements)
    → IsDefined name g parameters body s
    → Kept (body_of name g parameters body s).scope.structures end.structures
    → Begins StaticObject (body_of name g parameters body s).scope.statics end.statics
    → end.bodies ≡ (body_of name g parameters body s).scope.bodies
    → Begins Entry (with_function name (Some g) s).names end.names → IsIn end p
    → (body_of name g parameters body s).value ≡ Some b
    → IsFunction p (function_from name span (body_of name g parameters body s).scope g b)
function_sound end p name span g parameters body s b d kept statics bodies names inside value =
    let file = with_function name (Some g) s in
    let y = judge_parameters parameters (prototype s) in
    let z = body_of name g parameters body s in
    let fn = function_from name span z.scope g b in
    let us = arrays_in end.structures y.items in
    let r = result_type end.structures g.result in
    let few : AreNumbered z.scope.objects us = (
      frame_numbered z.scope.frame (length z.scope.objects) name.span.start d.frame,
      arrays_numbered end.structures y.items name.span.start d.few,
    ) in
    let w = world_of end p z.scope.objects us r few in
    let ends : Ends w z.scope = record {
      structures = λ k ms h. kept k (Complete ms) h tt;
      objects = begins_refl Object z.scope.objects;
      statics = subst (λ l. Begins Object (map (λ o. o.object) z.scope.statics) (map (λ o. o.object) l))
          (sym inside.statics) (begins_map (λ o. o.object) z.scope.statics end.statics statics);
    } in
    let fun = functions_before w file.names end.names names (inside.functions z.scope.objects us r few) in
    let runs = definition_runs w name g parameters body s d.none d.stands ends (sym bodies) fun refl refl d.found d.typed in
    let run = runs.run in
    let c : Completes z.scope.structures end.structures = kept_completes z.scope.structures end.structures kept in
    let complete = complete_there w name g parameters body s d.items runs in
    let kinds = somes_same runs.found.kinds g.parameters (sym runs.found.are ∙ d.items) in
    let types = parameter_types_kept z.scope.structures end.structures g.parameters c complete in
    let same : run.value ≡ b = some_same run.value b (sym run.is ∙ value) in
    let result_there = incomplete_kept s.structures z.scope.structures g.result
    (kept_completes s.structures z.scope.structures (body_later name g parameters body s).structures) d.result in
    let result_same : fn.result ≡ r = result_kept z.scope.structures end.structures g.result c result_there in
    let arrays_same : sound.arrays_of fn.parameters ≡ us =
    ap sound.arrays_of types ∙ arrays_of_kinds end.structures g.parameters
    ∙ ap (arrays_in end.structures) (sym d.items) in
    let scope_same : w.scope ≡ scope_of p fn =
    ap (λ l. program_scope p z.scope.objects l r) (sym arrays_same)
    ∙ ap (program_scope p z.scope.objects (sound.arrays_of fn.parameters)) (sym result_same) in
    let value_types : map (λ o. o.object_type) y.scope.objects ≡ sound.values_of fn.parameters =
    ap (map (λ (o : Object). o.object_type)) runs.found.objects.1 ∙ runs.found.objects.2
    ∙ ap (λ l. sound.values_of (map (parameter_type end.structures) l)) kinds
    ∙ ap sound.values_of (sym types) in
    let count : length y.scope.objects ≡ length (sound.values_of fn.parameters) =
    sym (length-map y.scope.objects (λ (o : Object). o.object_type)) ∙ ap length value_types in
    let room : total z.scope.objects ≤ most_frame_cells =
    summed_within most_frame_cells (total z.scope.objects) (omega arith)
    (subst (λ n. n ≤ most_frame_cells) run.fits.frame (frame_small z.scope.frame (length z.scope.objects) name.span.start d.frame)) in
    let room_from : 0 + total z.scope.objects ≤ most_frame_cells = omega (arith, room) in
    let number : length fn.parameters ≡ length y.items =
    length-map g.parameters (parameter_type z.scope.structures)
    ∙ sym (ap length d.items ∙ length-map g.parameters Some) in
    record {
      few = subst (λ n. n ≤ most_parameters) (sym number) (count_small (length y.items) name.span.start d.few);
      parameters = are_parameters z.scope.structures g.parameters;
      arrays = subst (λ l. AreObjectTypes l (sound.arrays_of fn.parameters)) (sym inside.structures)
          (subst (AreObjectTypes (objects_of w)) (sym arrays_same)
          (object_types end.structures us inside.few runs.found.elements));
      result = subst (λ l. IsResult l fn.result) (sym inside.structures)
          (is_result w z.scope.structures g.result inside.few run.fits.structures c result_there);
      begins = subst (sound.Begins (sound.values_of fn.parameters)) (sym run.made.1)
          (begins_of (sound.values_of fn.parameters) y.scope.objects run.made.0 value_types);
      laid = subst (λ l. AreLaidOut l 0 z.scope.objects) (sym inside.structures)
          (laid_out most_frame_cells w 0 z.scope.objects inside.few run.fits.laid room_from);
      named = ap slots_statements (sym same) ∙ run.made.2 ∙ sym (slots_after y.scope.objects run.made.0)
          ∙ ap (λ l. drop (length y.scope.objects) (slots_from 0 l)) (sym run.made.1)
          ∙ ap (λ n. drop n (slots_from 0 z.scope.objects)) count;
      frame = subst (λ n. n ≤ most_frame_cells) (sym (total_sum z.scope.objects)) room;
      body = subst (λ x. AreStatements b x sound.outermost) scope_same
          (subst (λ x. AreStatements x w.scope sound.outermost) same run.sound);
    }
  where
    some_same : (x y : Statements) → Some x ≡ Some y → x ≡ y
    some_same x y h = cc
