-- Parameters: what is found of them is well where they have no fault.
use Rattle.std.proofs.Common.{◌≡◌, ℕ, suc, ◌+◌, ◌≤◌, Bool, true, false, not, ◌&&◌, if◌then◌else◌, List, [], ◌∷◌, ◌++◌, map, length, slice_get, Option, Some, None, refl, ap, sym, ◌∙◌, subst, arith, append_assoc}
use Rattle.std.proofs.lemmas.List.{map-append, length-append}
use Rattle.mc_tree.specs.Tree.{Name, ArrayLengths, Parameter, ParameterList, Parameters}
use Rattle.mc_tree.specs.Tree as tree
use Rattle.mc_typed.specs.Layout.{ObjectType, Scalar, cells}
use Rattle.mc_typed.specs.Tree.{Object, StaticObject, ParameterType}
use Rattle.mc_typed.specs.Tree as t
use Rattle.mc_typed.specs.Sound.{IsSlotOf}
use Rattle.mc_typed.specs.Sound as sound
use Rattle.types_faults.specs.declared.fault.FaultKind.TheVariants.{Mismatch}
use Rattle.types_faults.specs.Faults.{fault_if, unless_faulty}
use Rattle.mc_limits.specs.Limits.{most_frame_cells}
use Rattle.types_rules.specs.Profile.{counted, most_numbered, start_at}
use Rattle.types_rules.specs.Types.{Base, Void, Integer, Tagged, CType, plain, Structure, is_complete, layout_of_base, arrays_of, layout_of, ParameterKind, ByValue, ByArray}
use Rattle.types_rules.specs.Scopes.{Entry, Meaning, Automatic, Borrowed, Scope, next_slot, with_name, with_object, with_array, with_objects_of}
use Rattle.types_rules.specs.Declarators.{Listed, is_later_absent, is_first_absent, declared_type, incomplete_faults, adjusted, parameter_kind, parameter_limit_faults, parameter_name_faults, parameter_faults, parameter_meaning, with_parameter_name, with_parameter, declared_parameter, name_start, listed_none}
use Rattle.types_rules.specs.Judgement.{typed_by, judge_specifiers, judge_lengths, judge_parameter, judge_parameter_list, judge_parameters}
use Rattle.types_rules.specs.Typing.{parameter_type}
use Rattle.types_rules.proofs.Sums.{start_small}
use Rattle.laws_soundness.specs.Growth.{Begins, AreBelow, Grown, Passed}
use Rattle.laws_soundness.specs.Fits.{World, IsTypeIn, AreTypesIn, Completes, ArePositive, Fits, Ends, arrays_in, ArraysEnd, base_of_kind, AreComplete, AreParametersFound}
use Rattle.laws_soundness.proofs.Lists.{right_nil, begins_refl, get_next}
use Rattle.laws_soundness.proofs.Tests.{nil_left, nil_right, no_fault, not_false}
use Rattle.laws_soundness.proofs.Grows.{grown_trans, grown_object, below_append, specifiers_grow, lengths_grow}
use Rattle.laws_soundness.proofs.Fitting.{kept_completes, complete_kept, layout_kept, fits_name, fits_object, structure_type_fits, extended, passed, passed_refl, passed_trans, ends_passed, ends_back}
use Rattle.laws_soundness.proofs.Calls.{next_there}
use Rattle.laws_soundness.proofs.Types.{type_typed}
use Rattle.laws_soundness.proofs.Sound.{specifiers_well, lengths_well}
use Rattle.laws_soundness.proofs.Stills.{specifiers_still, lengths_still}
use Rattle.laws_soundness.proofs.Declarations.{given_type, limited_object}
use Rattle.laws_soundness.proofs.Passes.{below_grown}

-- ---- what is declared stays

name_passes : (name : Name) (s t : Scope) → Passed s t → (es : List Entry) → Passed s (record t { names = t.names ++ es })
name_passes name s t g es = record {
  names = (g.names.0 ++ es, ap (λ l. l ++ es) g.names.1 ∙ append_assoc s.names g.names.0 es);
  structures = g.structures;
  statics = g.statics;
  objects = g.objects;
  bodies = g.bodies;
}

named_passes : (name : Option Name) (u : Option CType) (k : Option ParameterKind) (s : Scope)
    → Passed s (with_parameter_name name (parameter_meaning u k s) s)
named_passes None u k s = passed_refl s
named_passes (Some name) u k s = name_passes name s s (passed_refl s) _

array_passes : (s : Scope) → Passed s (with_array s)
array_passes s = record {
  names = begins_refl Entry s.names;
  structures = λ k x h n. h;
  statics = begins_refl StaticObject s.statics;
  objects = begins_refl Object s.objects;
  bodies = refl;
}

with_passes : (u : Option CType) (k : Option ParameterKind) (s : Scope) → Passed s (with_parameter u k s)
with_passes None None s = passed_refl s
with_passes None (Some (ByValue b)) s = passed_refl s
with_passes None (Some (ByArray e)) s = array_passes s
with_passes (Some u) None s = passed_refl s
with_passes (Some u) (Some (ByValue b)) s =
    let l = layout_of s.structures u in
    passed s (with_object l s) (extended s (with_object l s) (grown_object l s))
with_passes (Some u) (Some (ByArray e)) s = array_passes s

reset_passes : (s t : Scope) → Grown s t → Passed s (with_objects_of s t)
reset_passes s t g = record {
  names = g.names;
  structures = g.structures;
  statics = ([], g.statics ∙ sym (right_nil s.statics));
  objects = begins_refl Object s.objects;
  bodies = g.bodies;
}

parameter_passes : (p : Parameter) (s : Scope) → Passed s (judge_parameter p s).scope
parameter_passes (tree.parameter all stars name lengths span) s =
    let x = typed_by span.start all (judge_specifiers false all s) in
    let l = judge_lengths lengths x.scope in
    let y = with_objects_of s l.scope in
    let u = declared_type lengths l.value (Some 1) x.value in
    let fs = x.faults ++ (l.faults ++ parameter_faults name (name_start name span) lengths x.value u y) in
    let k = unless_faulty fs (parameter_kind y.structures u) in
    let n = with_parameter_name name (parameter_meaning (unless_faulty fs u) k y) y in
    passed_trans s y _
    (reset_passes s l.scope (grown_trans s x.scope l.scope (specifiers_grow false all s) (lengths_grow lengths x.scope)))
    (passed_trans y n _ (named_passes name (unless_faulty fs u) k y) (with_passes (unless_faulty fs u) k n))

pub list_passes : (ps : ParameterList) (s : Scope) → Passed s (judge_parameter_list ps s).scope
list_passes tree.no_parameters s = passed_refl s
list_passes (tree.parameters p rest) s =
    let x = (judge_parameter p s).scope in
    passed_trans s x _ (parameter_passes p s) (list_passes rest x)

-- ---- one parameter

-- what is found of a parameter of this type
abbrev entered_as : Option Name → Option CType → Option ParameterKind → Scope → Listed (Option ParameterKind)
entered_as name u k s = record { faults = []; items = k ∷ []; scope = declared_parameter name u k s }

base_object : (w : World) (s : Scope) (b : Base) → Fits w s → Completes s.structures w.structures
    → is_complete s.structures b ≡ true → IsTypeIn w.structures (layout_of_base s.structures b)
base_object w s Void fit c h = absurd (cc)
base_object w s (Integer a) fit c h = record { formed = λ few. tt; full = tt; small = omega arith; flat = omega arith }
base_object w s (Tagged k) fit c h = structure_type_fits w s.structures k fit.structures c h

kept_base : (w : World) (s : Scope) (b : Base) → Completes s.structures w.structures
    → is_complete s.structures b ≡ true
    → layout_of_base s.structures b ∷ [] ≡ sound.values_of (parameter_type w.structures (ByValue b) ∷ [])
kept_base w s Void c h = absurd (cc)
kept_base w s (Integer a) c h = refl
kept_base w s (Tagged k) c h =
    ap (λ l. l ∷ []) (layout_kept s.structures w.structures (plain (Tagged k)) c h)

parameter_value : (w : World) (name : Option Name) (u : CType) (s : Scope) → Fits w s
    → AreBelow (length s.statics) s.names → u.lengths ≡ [] → is_complete s.structures u.base ≡ true
    → Completes s.structures w.structures
    → Ends w (declared_parameter name (Some u) (Some (ByValue u.base)) s)
    → AreParametersFound w s (entered_as name (Some u) (Some (ByValue u.base)) s)
parameter_value w None u s fit below e complete c ends =
    let l = layout_of s.structures u in
    let same : l ≡ layout_of_base s.structures u.base = ap (λ z. arrays_of z (layout_of_base s.structures u.base)) e in
    record {
      kinds = ByValue u.base ∷ [];
      are = refl;
      complete = (complete, tt);
      objects = (
        record { object_type = l; cells = counted (cells l); start = start_at most_frame_cells s.frame } ∷ [],
        refl,
        ap (λ z. z ∷ []) same ∙ kept_base w s u.base c complete,
      );
      arrays = no_more s.arrays;
      elements = tt;
      fits = fits_object w s l fit (subst (IsTypeIn w.structures) (sym same) (base_object w s u.base fit c complete));
      below = below;
    }
  where
    no_more : (n : ℕ) → n ≡ n + 0
    no_more n = omega arith
parameter_value w (Some name) u s fit below e complete c ends =
    let l = layout_of s.structures u in
    let n = with_name name (Automatic (next_slot s) (Some u)) s in
    let same : l ≡ layout_of_base s.structures u.base = ap (λ z. arrays_of z (layout_of_base s.structures u.base)) e in
    let slot = next_there w n l ends in
    let object = subst (IsTypeIn w.structures) (sym same) (base_object w s u.base fit c complete) in
    let fit_n = fits_name w s name (Automatic (next_slot s) (Some u)) fit (slot, complete, object) in
    record {
      kinds = ByValue u.base ∷ [];
      are = refl;
      complete = (complete, tt);
      objects = (
        record { object_type = l; cells = counted (cells l); start = start_at most_frame_cells s.frame } ∷ [],
        refl,
        ap (λ z. z ∷ []) same ∙ kept_base w s u.base c complete,
      );
      arrays = no_more s.arrays;
      elements = tt;
      fits = fits_object w n l fit_n object;
      below = below_append (length s.statics) s.names _ below (tt, tt);
    }
  where
    no_more : (n : ℕ) → n ≡ n + 0
    no_more n = omega arith

with_array_fits : (w : World) (s : Scope) → Fits w s → Fits w (with_array s)
with_array_fits w s fit = record {
  names = fit.names;
  structures = fit.structures;
  laid = fit.laid;
  frame = fit.frame;
  statics = fit.statics;
  bodies = fit.bodies;
}

array_there : (w : World) (s : Scope) (e : CType) → Completes s.structures w.structures
    → is_complete s.structures e.base ≡ true → ArraysEnd w s (Some (ByArray e) ∷ [])
    → slice_get w.scope.arrays s.arrays ≡ Some (layout_of s.structures e)
array_there w s e c complete a =
    ap (slice_get w.scope.arrays) (sym a.count) ∙ ap (λ l. slice_get l (length a.before)) a.are
    ∙ get_next a.before (layout_of w.structures e) a.more
    ∙ ap Some (sym (layout_kept s.structures w.structures e c complete))

array_numbered : (w : World) (s : Scope) (e : CType) → ArraysEnd w s (Some (ByArray e) ∷ [])
    → (with_array s).arrays ≡ s.arrays + 1
array_numbered w s e a =
    let l = layout_of w.structures e in
    let all : length w.scope.arrays ≡ length a.before + suc (length a.more) =
    ap length a.are ∙ length-append a.before (l ∷ a.more) in
    let few = w.few.1 in
    let count = a.count in
    start_small most_numbered (s.arrays + 1) (omega (arith, all, few, count))

parameter_array : (w : World) (name : Option Name) (v e : CType) (s : Scope) → Fits w s
    → AreBelow (length s.statics) s.names → is_complete s.structures e.base ≡ true
    → Completes s.structures w.structures → IsTypeIn w.structures (layout_of s.structures e)
    → ArraysEnd w s (Some (ByArray e) ∷ [])
    → AreParametersFound w s (entered_as name (Some v) (Some (ByArray e)) s)
parameter_array w None v e s fit below complete c object a = record {
  kinds = ByArray e ∷ [];
  are = refl;
  complete = (complete, tt);
  objects = ([], sym (right_nil s.objects), refl);
  arrays = array_numbered w s e a;
  elements = (subst (IsTypeIn w.structures) (layout_kept s.structures w.structures e c complete) object, tt);
  fits = with_array_fits w s fit;
  below = below;
}
parameter_array w (Some name) v e s fit below complete c object a =
    let n = with_name name (Borrowed s.arrays e) s in
    record {
      kinds = ByArray e ∷ [];
      are = refl;
      complete = (complete, tt);
      objects = ([], sym (right_nil s.objects), refl);
      arrays = array_numbered w s e a;
      elements = (subst (IsTypeIn w.structures) (layout_kept s.structures w.structures e c complete) object, tt);
      fits = with_array_fits w n (fits_name w s name (Borrowed s.arrays e) fit (array_there w s e c complete a, complete, object));
      below = below_append (length s.statics) s.names _ below (tt, tt);
    }

-- by its lengths
parameter_entered : (w : World) (name : Option Name) (at : ℕ) (u : CType) (s : Scope) → Fits w s
    → AreBelow (length s.statics) s.names → is_complete s.structures u.base ≡ true → ArePositive u.lengths
    → Completes s.structures w.structures
    → parameter_limit_faults s.structures (Some (adjusted u u.lengths)) at ≡ []
    → ArraysEnd w s (Some (adjusted u u.lengths) ∷ [])
    → Ends w (declared_parameter name (Some u) (Some (adjusted u u.lengths)) s)
    → AreParametersFound w s (entered_as name (Some u) (Some (adjusted u u.lengths)) s)
parameter_entered w name at u s fit below complete positive c limit a ends =
    by_lengths u.lengths refl limit a ends positive
  where
    by_lengths : (ls : List ℕ) → u.lengths ≡ ls
        → parameter_limit_faults s.structures (Some (adjusted u ls)) at ≡ []
        → ArraysEnd w s (Some (adjusted u ls) ∷ [])
        → Ends w (declared_parameter name (Some u) (Some (adjusted u ls)) s) → ArePositive ls
        → AreParametersFound w s (entered_as name (Some u) (Some (adjusted u ls)) s)
    by_lengths [] e limit a ends p = parameter_value w name u s fit below e complete c ends
    by_lengths (n ∷ ns) e limit a ends p =
        let element : CType = record u { lengths = ns } in
        parameter_array w name u element s fit below complete c
        (limited_object w s at element fit c complete p.1 limit) a

first_given : (b : Bool) → (b && false) ≡ false
first_given true = refl
first_given false = refl

one_is_one : 1 ≤ 1
one_is_one = omega arith

parameter_well : (w : World) (p : Parameter) (s : Scope) → Fits w s → AreBelow (length s.statics) s.names
    → Ends w (judge_parameter p s).scope → ArraysEnd w s (judge_parameter p s).items
    → (judge_parameter p s).faults ≡ [] → AreParametersFound w s (judge_parameter p s)
parameter_well w (tree.parameter all stars name lengths span) s fit below ends a h =
    let z = judge_specifiers false all s in
    let x = typed_by span.start all z in
    let l = judge_lengths lengths x.scope in
    let y = with_objects_of s l.scope in
    let at = name_start name span in
    let u = declared_type lengths l.value (Some 1) x.value in
    let fs = x.faults ++ (l.faults ++ parameter_faults name at lengths x.value u y) in
    let g_x = specifiers_grow false all s in
    let g_l = lengths_grow lengths x.scope in
    let g = grown_trans s x.scope l.scope g_x g_l in
    let kind = unless_faulty fs (parameter_kind y.structures u) in
    let typed = unless_faulty fs u in
    let n = with_parameter_name name (parameter_meaning typed kind y) y in
    let ends_y = ends_passed w y (with_parameter typed kind n) (passed_trans y n _ (named_passes name typed kind y)
    (with_passes typed kind n)) ends in
    let x_nil = nil_left x.faults _ h in
    let later = nil_right x.faults _ h in
    let l_nil = nil_left l.faults _ later in
    let own_nil = nil_right l.faults _ later in
    let z_nil = nil_left z.faults _ x_nil in
    let same : l.scope.objects ≡ s.objects = lengths_still lengths x.scope l_nil ∙ specifiers_still false all s z_nil in
    let ends_l : Ends w l.scope = record {
      structures = ends_y.structures;
      objects = subst (λ o. Begins Object o w.scope.objects) (sym same) ends_y.objects;
      statics = ends_y.statics;
    } in
    let ends_x = ends_back w x.scope l.scope g_l ends_l in
    let tz = specifiers_well w false all s fit ends_x z_nil in
    let tx = type_typed w s span.start all z tz x_nil in
    let lw = lengths_well w lengths x.scope tx.fits ends_l l_nil in
    let fit_y : Fits w y = record {
      names = lw.fits.names;
      structures = lw.fits.structures;
      laid = fit.laid;
      frame = fit.frame;
      statics = lw.fits.statics;
      bodies = lw.fits.bodies;
    } in
    let below_y = below_grown s l.scope g below in
    let rest = nil_right (parameter_name_faults name y) _ own_nil in
    let later_false = no_fault (is_later_absent lengths) Mismatch at (nil_left (fault_if (is_later_absent lengths) Mismatch at) _ rest) in
    let last = nil_right (fault_if (is_later_absent lengths) Mismatch at) _ rest in
    let b = tx.value in
    let given = given_type lengths l.value (Some 1) b lw.value lw.is lw.positive tx.positive one_is_one later_false
    (first_given (is_first_absent lengths)) in
    let v = given.type in
    let u_is : u ≡ Some v = ap (declared_type lengths l.value (Some 1)) tx.is ∙ given.is in
    let complete_b : is_complete y.structures b.base ≡ true =
    not_false (is_complete y.structures b.base) (no_fault (not (is_complete y.structures b.base)) Mismatch at
    (subst (λ o. incomplete_faults y.structures o at ≡ []) tx.is (nil_left (incomplete_faults y.structures x.value at) _ last))) in
    let complete : is_complete y.structures v.base ≡ true = ap (is_complete y.structures) given.base ∙ complete_b in
    let k = adjusted v v.lengths in
    let kind_known : parameter_kind y.structures u ≡ Some k =
    ap (parameter_kind y.structures) u_is ∙ ap (λ c. if c then Some k else None) complete in
    let limit : parameter_limit_faults y.structures (Some k) at ≡ [] =
    subst (λ o. parameter_limit_faults y.structures o at ≡ []) kind_known
    (nil_right (incomplete_faults y.structures x.value at) _ last) in
    let kind_is : kind ≡ Some k = ap (λ f. unless_faulty f (parameter_kind y.structures u)) h ∙ kind_known in
    let typed_is : typed ≡ Some v = ap (λ f. unless_faulty f u) h ∙ u_is in
    let arrays_y : ArraysEnd w y (Some k ∷ []) = record {
      before = a.before;
      more = a.more;
      count = a.count ∙ sym g.arrays;
      are = subst (λ o. w.scope.arrays ≡ a.before ++ (arrays_in w.structures (o ∷ []) ++ a.more)) kind_is a.are;
    } in
    let found = subst (λ o. Ends w (declared_parameter name o kind y) → AreParametersFound w y (entered_as name o kind y)) (sym typed_is)
    (subst (λ o. Ends w (declared_parameter name (Some v) o y) → AreParametersFound w y (entered_as name (Some v) o y)) (sym kind_is)
    (λ e. parameter_entered w name at v y fit_y below_y complete given.positive ends_y.structures limit arrays_y e)) ends in
    record {
      kinds = found.kinds;
      are = found.are;
      complete = found.complete;
      objects = found.objects;
      arrays = found.arrays ∙ ap (λ m. m + length (arrays_in w.structures (kind ∷ []))) g.arrays;
      elements = found.elements;
      fits = found.fits;
      below = found.below;
    }

-- ---- parameters, one after the other

arrays_append : (all : List Structure) (ps qs : List (Option ParameterKind))
    → arrays_in all (ps ++ qs) ≡ arrays_in all ps ++ arrays_in all qs
arrays_append all [] qs = refl
arrays_append all (None ∷ ps) qs = arrays_append all ps qs
arrays_append all (Some (ByValue b) ∷ ps) qs = arrays_append all ps qs
arrays_append all (Some (ByArray u) ∷ ps) qs = ap (λ l. layout_of all u ∷ l) (arrays_append all ps qs)

values_append : (ps qs : List ParameterType) → sound.values_of (ps ++ qs) ≡ sound.values_of ps ++ sound.values_of qs
values_append [] qs = refl
values_append (t.NumberParameter a ∷ ps) qs = ap (λ l. Scalar a ∷ l) (values_append ps qs)
values_append (t.StructureParameter u ∷ ps) qs = ap (λ l. u ∷ l) (values_append ps qs)
values_append (t.ArrayParameter u ∷ ps) qs = values_append ps qs

types_append : (all : List Structure) (us vs : List ObjectType) → AreTypesIn all us → AreTypesIn all vs
    → AreTypesIn all (us ++ vs)
types_append all [] vs h k = k
types_append all (u ∷ us) vs h k = (h.0, types_append all us vs h.1 k)

none_well : (w : World) (s : Scope) → Fits w s → AreBelow (length s.statics) s.names
    → AreParametersFound w s (listed_none s)
none_well w s fit below = record {
  kinds = [];
  are = refl;
  complete = tt;
  objects = ([], sym (right_nil s.objects), refl);
  arrays = no_more s.arrays;
  elements = tt;
  fits = fit;
  below = below;
}
  where
    no_more : (n : ℕ) → n ≡ n + 0
    no_more n = omega arith

complete_append : (all : List Structure) (ps qs : List ParameterKind) → AreComplete all ps → AreComplete all qs
    → AreComplete all (ps ++ qs)
complete_append all [] qs h k = k
complete_append all (p ∷ ps) qs h k = (h.0, complete_append all ps qs h.1 k)

pub kinds_kept : (all more : List Structure) (ks : List ParameterKind) → Completes all more → AreComplete all ks
    → AreComplete more ks
kinds_kept all more [] c h = tt
kinds_kept all more (k ∷ ks) c h =
    (complete_kept all more (base_of_kind k) c h.0, kinds_kept all more ks c h.1)

pub list_well : (w : World) (ps : ParameterList) (s : Scope) → Fits w s → AreBelow (length s.statics) s.names
    → Ends w (judge_parameter_list ps s).scope → ArraysEnd w s (judge_parameter_list ps s).items
    → (judge_parameter_list ps s).faults ≡ [] → AreParametersFound w s (judge_parameter_list ps s)
list_well w tree.no_parameters s fit below ends a h = none_well w s fit below
list_well w (tree.parameters p rest) s fit below ends a h =
    let x = judge_parameter p s in
    let y = judge_parameter_list rest x.scope in
    let all = w.structures in
    let xs = arrays_in all x.items in
    let ys = arrays_in all y.items in
    let split : arrays_in all (x.items ++ y.items) ≡ xs ++ ys = arrays_append all x.items y.items in
    let are : w.scope.arrays ≡ a.before ++ ((xs ++ ys) ++ a.more) =
    subst (λ l. w.scope.arrays ≡ a.before ++ (l ++ a.more)) split a.are in
    let ax : ArraysEnd w s x.items = record {
      before = a.before;
      more = ys ++ a.more;
      count = a.count;
      are = are ∙ ap (λ l. a.before ++ l) (append_assoc xs ys a.more);
    } in
    let fx = parameter_well w p s fit below (ends_passed w x.scope y.scope (list_passes rest x.scope) ends) ax
    (nil_left x.faults y.faults h) in
    let ay : ArraysEnd w x.scope y.items = record {
      before = a.before ++ xs;
      more = a.more;
      count = length-append a.before xs ∙ ap (λ m. m + length xs) a.count ∙ sym fx.arrays;
      are = are ∙ ap (λ l. a.before ++ l) (append_assoc xs ys a.more) ∙ sym (append_assoc a.before xs (ys ++ a.more));
    } in
    let fy = list_well w rest x.scope fx.fits fx.below ends ay (nil_right x.faults y.faults h) in
    let type_is = λ (k : ParameterKind). parameter_type all k in
    record {
      kinds = fx.kinds ++ fy.kinds;
      are = ap (λ l. l ++ y.items) fx.are ∙ ap (λ l. map Some fx.kinds ++ l) fy.are ∙ sym (map-append Some fx.kinds fy.kinds);
      complete = complete_append y.scope.structures fx.kinds fy.kinds
          (kinds_kept x.scope.structures y.scope.structures fx.kinds
          (kept_completes x.scope.structures y.scope.structures (list_passes rest x.scope).structures) fx.complete) fy.complete;
      objects = (
        fx.objects.0 ++ fy.objects.0,
        fy.objects.1 ∙ ap (λ l. l ++ fy.objects.0) fx.objects.1 ∙ append_assoc s.objects fx.objects.0 fy.objects.0,
        map-append (λ (o : Object). o.object_type) fx.objects.0 fy.objects.0
            ∙ ap (λ l. l ++ map (λ (o : Object). o.object_type) fy.objects.0) fx.objects.2
            ∙ ap (λ l. sound.values_of (map type_is fx.kinds) ++ l) fy.objects.2
            ∙ sym (ap sound.values_of (map-append type_is fx.kinds fy.kinds)
            ∙ values_append (map type_is fx.kinds) (map type_is fy.kinds)),
      );
      arrays = fy.arrays ∙ ap (λ m. m + length ys) fx.arrays
          ∙ sum_is s.arrays (length xs) (length ys)
          ∙ ap (λ m. s.arrays + m) (sym (ap length split ∙ length-append xs ys));
      elements = subst (AreTypesIn w.structures) (sym split) (types_append w.structures xs ys fx.elements fy.elements);
      fits = fy.fits;
      below = fy.below;
    }
  where
    sum_is : (l m n : ℕ) → l + m + n ≡ l + (m + n)
    sum_is l m n = omega arith

-- ---- parameters of a declarator

pub parameters_well : (w : World) (all : Parameters) (s : Scope) → Fits w s → AreBelow (length s.statics) s.names
    → Ends w (judge_parameters all s).scope → ArraysEnd w s (judge_parameters all s).items
    → (judge_parameters all s).faults ≡ [] → AreParametersFound w s (judge_parameters all s)
parameters_well w (tree.Empty span) s fit below ends a h = none_well w s fit below
parameters_well w (tree.Void span) s fit below ends a h = none_well w s fit below
parameters_well w (tree.Listed ps span) s fit below ends a h = list_well w ps s fit below ends a h

pub parameters_pass : (all : Parameters) (s : Scope) → Passed s (judge_parameters all s).scope
parameters_pass (tree.Empty span) s = passed_refl s
parameters_pass (tree.Void span) s = passed_refl s
parameters_pass (tree.Listed ps span) s = list_passes ps s

named_labels : (name : Option Name) (m : Meaning) (s : Scope) → (with_parameter_name name m s).labels ≡ s.labels
named_labels None m s = refl
named_labels (Some name) m s = refl

with_labels : (u : Option CType) (k : Option ParameterKind) (s : Scope) → (with_parameter u k s).labels ≡ s.labels
with_labels None None s = refl
with_labels None (Some (ByValue b)) s = refl
with_labels None (Some (ByArray e)) s = refl
with_labels (Some u) None s = refl
with_labels (Some u) (Some (ByValue b)) s = refl
with_labels (Some u) (Some (ByArray e)) s = refl

parameter_labels : (p : Parameter) (s : Scope) → (judge_parameter p s).scope.labels ≡ s.labels
parameter_labels (tree.parameter all stars name lengths span) s =
    let x = typed_by span.start all (judge_specifiers false all s) in
    let l = judge_lengths lengths x.scope in
    let y = with_objects_of s l.scope in
    let u = declared_type lengths l.value (Some 1) x.value in
    let fs = x.faults ++ (l.faults ++ parameter_faults name (name_start name span) lengths x.value u y) in
    let k = unless_faulty fs (parameter_kind y.structures u) in
    let m = parameter_meaning (unless_faulty fs u) k y in
    with_labels (unless_faulty fs u) k (with_parameter_name name m y) ∙ named_labels name m y
    ∙ (grown_trans s x.scope l.scope (specifiers_grow false all s) (lengths_grow lengths x.scope)).labels

list_labels : (ps : ParameterList) (s : Scope) → (judge_parameter_list ps s).scope.labels ≡ s.labels
list_labels tree.no_parameters s = refl
list_labels (tree.parameters p rest) s =
    list_labels rest (judge_parameter p s).scope ∙ parameter_labels p s

pub parameters_labels : (all : Parameters) (s : Scope) → (judge_parameters all s).scope.labels ≡ s.labels
parameters_labels (tree.Empty span) s = refl
parameters_labels (tree.Void span) s = refl
parameters_labels (tree.Listed ps span) s = list_labels ps s
