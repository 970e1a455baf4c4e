-- Declarations at file scope: without a fault, what is declared stands after them.
use Rattle.std.proofs.Common.{◌≡◌, ℕ, ◌||◌, Bool, true, false, if◌then◌else◌, List, [], ◌∷◌, ◌++◌, length, drop, map, Option, Some, None, option_map, refl, ap, sym, ◌∙◌, subst}
use Rattle.mc_span.specs.declared.span.Span.{Span}
use Rattle.mc_tree.specs.declared.declarations.specifier_word.SpecifierWord.TheVariants as word
use Rattle.mc_tree.specs.Tree.{Name, Specifiers, ArrayLengths, Initializer, InitDeclarator, Declaration, Parameters}
use Rattle.mc_tree.specs.Tree as tree
use Rattle.mc_typed.specs.Layout.{ObjectType}
use Rattle.mc_typed.specs.Tree.{Object, Declarator}
use Rattle.mc_typed.specs.Tree as t
use Rattle.mc_typed.specs.Frames.{slots_declarators}
use Rattle.mc_typed.specs.Sound.{slots_from}
use Rattle.types_faults.specs.declared.fault.Fault.{Fault}
use Rattle.types_faults.specs.declared.fault.FaultKind.TheVariants.{Mismatch}
use Rattle.types_faults.specs.Faults.{fault, fault_if, unless_faulty}
use Rattle.types_rules.specs.Types.{CType, has, ParameterKind, Signature}
use Rattle.types_rules.specs.Scopes.{Entry, Meaning, Stored, Function, Typedef, Scope, named, meaning_here, with_name, next_static, prototype}
use Rattle.types_rules.specs.Values.{Judged}
use Rattle.types_rules.specs.Limits.{parameter_count_faults}
use Rattle.types_rules.specs.Declarators.{Listed, declared_type}
use Rattle.types_rules.specs.Judgement.{typed_by, judge_specifiers, judge_lengths, judge_parameters}
use Rattle.types_rules.specs.Declarations.{Storage, TypedefStorage, StaticStorage, AutomaticStorage, storage_of, count_listed, judge_optional_initializer, object_faults, layout_counted, after_initializer, typedef_faults, static_faults_with, static_scope, static_value, object_judged, all_of, result_of_lengths, result_of, has_lengths, is_array_type, signature_of, has_body, repeated_faults, external_faults, function_faults, signature_listed, function_form_faults, again_faults, judge_init, judge_init_declarator, judge_init_declarators, append, is_tag_alone, empty_faults, judge_declaration}
use Rattle.laws_soundness.specs.Growth.{MeansNoFunction, AddsNoFunction}
use Rattle.laws_soundness.specs.Fits.{World, ArePositive, Fits, arrays_in}
use Rattle.laws_soundness.proofs.Lists.{right_nil, begins_refl, begins_with}
use Rattle.laws_soundness.proofs.Tests.{nil_left, nil_right, no_fault, lift2_some}
use Rattle.laws_soundness.proofs.Grows.{adds_none, adds_both, below_append, specifiers_grow, lengths_grow}
use Rattle.laws_soundness.proofs.Fitting.{fits_name, passed, ends_back, ends_before}
use Rattle.laws_soundness.proofs.Types.{type_typed}
use Rattle.laws_soundness.proofs.Sound.{specifiers_well}
use Rattle.laws_soundness.proofs.Stills.{specifiers_still}
use Rattle.laws_soundness.proofs.Passes.{passed_by, below_grown}
use Rattle.laws_soundness.proofs.Extends.{optional_grows, init_extends}
use Rattle.laws_soundness.proofs.Declared.{init_well}
use Rattle.laws_soundness.proofs.Parameters.{parameters_well, parameters_pass}
use Rattle.laws_soundness.proofs.Numbered.{IsOfFile, init_still, none_numbered, parameters_numbered}
use Rattle.laws_soundness.proofs.Agreeing.{function_entry, among_last, agree_more, agree_function}
use Rattle.laws_soundness.proofs.Stages.{functions_before, stage, stage_ends, stage_functions, Stands, Later, later_passed, stands_before}

-- ---- specifiers

pub specifiers_stand : (alone : Bool) (all : Specifiers) (s : Scope) → Stands s
    → (judge_specifiers alone all s).faults ≡ [] → Stands (judge_specifiers alone all s).scope
specifiers_stand alone all s st h =
    let z = judge_specifiers alone all s in
    let g = specifiers_grow alone all s in
    record {
      fits = λ w ends bodies fun.
          (specifiers_well w alone all s (st.fits w (ends_back w s z.scope g ends) (sym g.bodies ∙ bodies)
          (functions_before w s.names z.scope.names g.names fun)) ends h).fits;
      below = below_grown s z.scope g st.below;
      agree = agree_more s.names z.scope.names g.functions st.agree;
      none = specifiers_still alone all s h ∙ st.none;
      file = g.is_file ∙ st.file;
      from = g.names_from ∙ st.from;
    }

-- they have a type
pub record IsKnown (x : Judged CType) : Type 0 where
  pub type : CType
  pub is : x.value ≡ Some type
  pub positive : ArePositive type.lengths

pub type_known : (alone : Bool) (all : Specifiers) (at : ℕ) (s : Scope) → Stands s
    → (typed_by at all (judge_specifiers alone all s)).faults ≡ []
    → IsKnown (typed_by at all (judge_specifiers alone all s))
type_known alone all at s st h =
    let z = judge_specifiers alone all s in
    let g = specifiers_grow alone all s in
    let z_nil = nil_left z.faults _ h in
    let agree = agree_more s.names z.scope.names g.functions st.agree in
    let few = none_numbered z.scope (specifiers_still alone all s z_nil ∙ st.none) in
    let w = stage z.scope.names z.scope [] t.NoResult few in
    let ends = stage_ends z.scope.names z.scope [] t.NoResult few in
    let fun = stage_functions z.scope.names z.scope [] t.NoResult few agree in
    let fit = stands_before w s z.scope z.scope.names st (later_passed s z.scope (passed_by s z.scope g)) g.names ends refl fun in
    let r = type_typed w s at all z (specifiers_well w alone all s fit ends z_nil) h in
    record { type = r.value; is = r.is; positive = r.positive }

-- ---- parameters

pub fits_prototype : (w : World) (s : Scope) → Fits w s → Fits w (prototype s)
fits_prototype w s fit = record {
  names = fit.names;
  structures = fit.structures;
  laid = tt;
  frame = refl;
  statics = fit.statics;
  bodies = fit.bodies;
}

pub parameters_later : (all : Parameters) (s : Scope) → Later s (judge_parameters all (prototype s)).scope
parameters_later all s =
    let g = parameters_pass all (prototype s) in
    record { names = g.names; structures = g.structures; statics = g.statics; bodies = g.bodies }

pub record AreKnown (s : Scope) (all : Parameters) : Type 0 where
  pub kinds : List ParameterKind
  pub are : (judge_parameters all (prototype s)).items ≡ map Some kinds

pub parameters_known : (all : Parameters) (s : Scope) (at : ℕ) → Stands s
    → (judge_parameters all (prototype s)).faults ≡ []
    → parameter_count_faults (length (judge_parameters all (prototype s)).items) at ≡ [] → AreKnown s all
parameters_known all s at st h count =
    let y = judge_parameters all (prototype s) in
    let arrays = arrays_in y.scope.structures y.items in
    let few = parameters_numbered all s at y.scope.structures count in
    let w = stage s.names y.scope arrays t.NoResult few in
    let ends = stage_ends s.names y.scope arrays t.NoResult few in
    let fit = stands_before w s y.scope s.names st (parameters_later all s) (begins_refl Entry s.names) ends refl
    (stage_functions s.names y.scope arrays t.NoResult few st.agree) in
    let p = parameters_well w all (prototype s) (fits_prototype w s fit) st.below ends
    (record { before = []; more = []; count = refl; are = sym (right_nil arrays) }) h in
    record { kinds = p.kinds; are = p.are }

all_of_some : (ks : List ParameterKind) → all_of (map Some ks) ≡ Some ks
all_of_some [] = refl
all_of_some (k ∷ ks) = ap (λ o. option_map (λ others. k ∷ others) o) (all_of_some ks)

no_lengths : (ls : List ℕ) → has_lengths ls ≡ false → ls ≡ []
no_lengths [] h = refl
no_lengths (n ∷ ns) h = absurd (cc)

pub signature_known : (b : CType) (y : Listed (Option ParameterKind)) (ks : List ParameterKind) (at : ℕ)
    → y.items ≡ map Some ks → fault_if (is_array_type (Some b)) Mismatch at ≡ []
    → signature_listed (Some b) y ≡ Some (record { result = b.base; parameters = ks })
signature_known b y ks at are h =
    let plain = no_lengths b.lengths (no_fault (has_lengths b.lengths) Mismatch at h) in
    ap (λ l. signature_of (result_of_lengths b.base l) (all_of y.items)) plain
    ∙ ap (signature_of (Some b.base)) (ap all_of are ∙ all_of_some ks)

pub result_known : (b : CType) (at : ℕ) → fault_if (is_array_type (Some b)) Mismatch at ≡ []
    → result_of (Some b) ≡ Some b.base
result_known b at h =
    ap (result_of_lengths b.base) (no_lengths b.lengths (no_fault (has_lengths b.lengths) Mismatch at h))

-- ---- functions

pub function_named : (name : Name) (f : Signature) (b : Bool) (s : Scope) → Stands s
    → repeated_faults (meaning_here name s) (Some f) name.span.start ≡ []
    → external_faults name (Some f) ≡ [] → Stands (with_name name (Function (Some f) b) s)
function_named name f b s st h external =
    let here : meaning_here name s ≡ named name.text s.names =
    ap (λ n. named name.text (drop n s.names)) st.from in
    let repeated = subst (λ o. repeated_faults o (Some f) name.span.start ≡ []) here h in
    let new = function_entry name.text (Some f) b in
    record {
      fits = λ w ends bodies fun.
          fits_name w s name (Function (Some f) b)
          (st.fits w (record { structures = ends.structures; objects = ends.objects; statics = ends.statics }) bodies
          (functions_before w s.names (s.names ++ (new ∷ [])) (begins_with Entry s.names (new ∷ [])) fun))
          (fun name.text f b (among_last new s.names));
      below = below_append (length s.statics) s.names (new ∷ []) st.below (tt, tt);
      agree = agree_function s.names name f b st.agree repeated external;
      none = st.none;
      file = st.file;
      from = st.from;
    }

-- after a declarator, or declarators
pub record IsStood (x : Judged (List Declarator)) : Type 0 where
  pub stands : Stands x.scope
  pub value : List Declarator
  pub is : x.value ≡ Some value

function_stands : (storage : Storage) (b : CType) (stars : ℕ) (name : Name) (all : Parameters) (span : Span)
    (value : Option Initializer) (s : Scope) → IsOfFile storage → Stands s
    → (judge_init storage (Some b) (tree.function stars name all span) value s).faults ≡ []
    → IsStood (judge_init storage (Some b) (tree.function stars name all span) value s)
function_stands TypedefStorage b stars name all span value s of st h =
    let at = name.span.start in
    let y = judge_parameters all (prototype s) in
    let f = signature_listed (Some b) y in
    let again = again_faults TypedefStorage name f s in
    let functions = function_faults name (Some b) (length y.items) f in
    let own = again ++ (functions ++ function_form_faults TypedefStorage value at) in
    let form : fault Mismatch at ≡ [] =
    nil_right functions _ (nil_right again _ (nil_left own _ (nil_right y.faults _ h))) in
    absurd (cc)
function_stands StaticStorage b stars name all span (Some i) s of st h =
    let at = name.span.start in
    let y = judge_parameters all (prototype s) in
    let f = signature_listed (Some b) y in
    let again = again_faults StaticStorage name f s in
    let functions = function_faults name (Some b) (length y.items) f in
    let own = again ++ (functions ++ function_form_faults StaticStorage (Some i) at) in
    let form : fault Mismatch at ≡ [] =
    nil_right functions _ (nil_right again _ (nil_left own _ (nil_right y.faults _ h))) in
    absurd (cc)
function_stands StaticStorage b stars name all span None s of st h =
    let at = name.span.start in
    let y = judge_parameters all (prototype s) in
    let f = signature_listed (Some b) y in
    let again = again_faults StaticStorage name f s in
    let functions = function_faults name (Some b) (length y.items) f in
    let own = again ++ (functions ++ function_form_faults StaticStorage None at) in
    let own_nil = nil_left own [] (nil_right y.faults _ h) in
    let functions_nil = nil_left functions _ (nil_right again _ own_nil) in
    let count = nil_right (fault_if (is_array_type (Some b)) Mismatch at) _ (nil_right (external_faults name f) _ functions_nil) in
    let ps = parameters_known all s at st (nil_left y.faults _ h) count in
    let g : Signature = record { result = b.base; parameters = ps.kinds } in
    let f_is : f ≡ Some g = signature_known b y ps.kinds at ps.are
    (nil_left (fault_if (is_array_type (Some b)) Mismatch at) _ (nil_right (external_faults name f) _ functions_nil)) in
    let typed : unless_faulty own f ≡ Some g = ap (λ z. unless_faulty z f) own_nil ∙ f_is in
    let repeated = subst (λ o. repeated_faults (meaning_here name s) o at ≡ []) f_is (nil_left again _ own_nil) in
    let external = subst (λ o. external_faults name o ≡ []) f_is (nil_left (external_faults name f) _ functions_nil) in
    record {
      stands = subst (λ o. Stands (with_name name (Function o (has_body (meaning_here name s))) s)) (sym typed)
          (function_named name g (has_body (meaning_here name s)) s st repeated external);
      value = [];
      is = refl;
    }
function_stands AutomaticStorage b stars name all span value s of st h = absurd of

-- ---- objects and typedef names

after_adds : (fs : List Fault) (name : Name) (m : Meaning) (s : Scope) → MeansNoFunction m
    → AddsNoFunction s.names (after_initializer fs name m s).names
after_adds [] name m s none = adds_none s.names
after_adds (f ∷ fs) name m s none = (record { name = name.text; meaning = m } ∷ [], refl, (none, tt))

scope_adds : (layout : Option ObjectType) (value : Option (Option t.Initializer)) (s : Scope)
    → AddsNoFunction s.names (static_scope layout value s).names
scope_adds (Some layout) (Some value) s = adds_none s.names
scope_adds (Some layout) None s = adds_none s.names
scope_adds None value s = adds_none s.names

pub object_adds : (storage : Storage) (faults : List Fault) (name : Name) (lengths : ArrayLengths)
    (base u : Option CType) (value : Option Initializer) (s : Scope) → IsOfFile storage
    → AddsNoFunction s.names (object_judged storage faults name lengths base u value s).scope.names
object_adds TypedefStorage faults name lengths base u value s of =
    let m = Typedef (unless_faulty (faults ++ typedef_faults name lengths value s) u) in
    let named = with_name name m s in
    adds_both s.names named.names (object_judged TypedefStorage faults name lengths base u value s).scope.names
    (record { name = name.text; meaning = m } ∷ [], refl, (tt, tt)) (optional_grows true None value named).functions
object_adds StaticStorage faults name lengths base u value s of =
    let own = object_faults name lengths (count_listed value) base u s in
    let m = Stored (next_static s) (unless_faulty (faults ++ own) u) in
    let named = with_name name m s in
    let v = unless_faulty own u in
    let x = judge_optional_initializer true v value named in
    let layout = layout_counted (own ++ x.faults) u x.scope in
    let sum = static_faults_with name.span.start layout x.value x.scope in
    let last = after_initializer (x.faults ++ sum) name (Stored (next_static s) None) x.scope in
    adds_both s.names named.names (static_scope layout x.value last).names
    (record { name = name.text; meaning = m } ∷ [], refl, (tt, tt))
    (adds_both named.names x.scope.names (static_scope layout x.value last).names (optional_grows true v value named).functions
    (adds_both x.scope.names last.names (static_scope layout x.value last).names
    (after_adds (x.faults ++ sum) name (Stored (next_static s) None) x.scope tt) (scope_adds layout x.value last)))
object_adds AutomaticStorage faults name lengths base u value s of = absurd of

none_listed : (layout : Option ObjectType) (value : Option (Option t.Initializer)) (ds : List Declarator)
    → static_value layout value ≡ Some ds → ds ≡ []
none_listed (Some layout) (Some value) ds h = cc
none_listed (Some layout) None ds h = absurd (cc)
none_listed None value ds h = absurd (cc)

-- no declarator with automatic storage duration is found
none_automatic : (storage : Storage) (faults : List Fault) (name : Name) (lengths : ArrayLengths)
    (base u : Option CType) (value : Option Initializer) (s : Scope) (ds : List Declarator) → IsOfFile storage
    → (object_judged storage faults name lengths base u value s).value ≡ Some ds → ds ≡ []
none_automatic TypedefStorage faults name lengths base u value s ds of h = cc
none_automatic StaticStorage faults name lengths base u value s ds of h =
    none_listed _ _ ds h
none_automatic AutomaticStorage faults name lengths base u value s ds of h = absurd of

no_slots : (n : ℕ) (ds : List Declarator) (os : List Object) → ds ≡ [] → slots_declarators ds ≡ slots_from n os
    → os ≡ []
no_slots n ds [] e h = refl
no_slots n ds (o ∷ os) e h =
    let k : [] ≡ slots_from n (o ∷ os) = ap slots_declarators (sym e) ∙ h in absurd (cc)

object_stands : (storage : Storage) (b : CType) (stars : ℕ) (name : Name) (lengths : ArrayLengths) (span : Span)
    (value : Option Initializer) (s : Scope) → IsOfFile storage → ArePositive b.lengths → Stands s
    → (judge_init storage (Some b) (tree.object stars name lengths span) value s).faults ≡ []
    → IsStood (judge_init storage (Some b) (tree.object stars name lengths span) value s)
object_stands storage b stars name lengths span value s of pb st h =
    let d = tree.object stars name lengths span in
    let x = judge_init storage (Some b) d value s in
    let l = judge_lengths lengths s in
    let u = declared_type lengths l.value (count_listed value) (Some b) in
    let e = init_extends storage (Some b) d value s in
    let adds = adds_both s.names l.scope.names x.scope.names (lengths_grow lengths s).functions
    (object_adds storage l.faults name lengths (Some b) u value l.scope of) in
    let agree = agree_more s.names x.scope.names adds st.agree in
    let few = none_numbered x.scope (init_still storage b stars name lengths span value s of h ∙ st.none) in
    let v = stage x.scope.names x.scope [] t.NoResult few in
    let v_ends = stage_ends x.scope.names x.scope [] t.NoResult few in
    let v_fun = stage_functions x.scope.names x.scope [] t.NoResult few agree in
    let v_fit = stands_before v s x.scope x.scope.names st (later_passed s x.scope (passed s x.scope e)) e.names v_ends refl v_fun in
    let r = init_well v storage b d value s tt pb v_fit st.below v_ends h in
    let empty = none_automatic storage l.faults name lengths (Some b) u value l.scope r.declared of r.is in
    let nothing : r.made.0 ≡ [] = no_slots (length s.objects) r.declared r.made.0 empty r.made.2 in
    record {
      stands = record {
        fits = λ w ends bodies fun.
            (init_well w storage b d value s tt pb
            (st.fits w (ends_before w s x.scope e ends) (sym e.bodies ∙ bodies)
            (functions_before w s.names x.scope.names e.names fun)) st.below ends h).fits;
        below = r.below;
        agree = agree;
        none = r.made.1 ∙ ap (λ o. s.objects ++ o) nothing ∙ right_nil s.objects ∙ st.none;
        file = e.is_file ∙ st.file;
        from = e.names_from ∙ st.from;
      };
      value = r.declared;
      is = r.is;
    }

-- ---- declarations

init_stands : (storage : Storage) (b : CType) (d : tree.Declarator) (value : Option Initializer) (s : Scope)
    → IsOfFile storage → ArePositive b.lengths → Stands s → (judge_init storage (Some b) d value s).faults ≡ []
    → IsStood (judge_init storage (Some b) d value s)
init_stands storage b (tree.object stars name lengths span) value s of pb st h =
    object_stands storage b stars name lengths span value s of pb st h
init_stands storage b (tree.function stars name all span) value s of pb st h =
    function_stands storage b stars name all span value s of st h

init_declarator_stands : (storage : Storage) (b : CType) (d : InitDeclarator) (s : Scope) → IsOfFile storage
    → ArePositive b.lengths → Stands s → (judge_init_declarator storage (Some b) d s).faults ≡ []
    → IsStood (judge_init_declarator storage (Some b) d s)
init_declarator_stands storage b (tree.bare d) s of pb st h = init_stands storage b d None s of pb st h
init_declarator_stands storage b (tree.initialized d value) s of pb st h =
    init_stands storage b d (Some value) s of pb st h

init_declarators_stand : (storage : Storage) (b : CType) (ds : List InitDeclarator) (s : Scope) → IsOfFile storage
    → ArePositive b.lengths → Stands s → (judge_init_declarators storage (Some b) ds s).faults ≡ []
    → IsStood (judge_init_declarators storage (Some b) ds s)
init_declarators_stand storage b [] s of pb st h = record { stands = st; value = []; is = refl }
init_declarators_stand storage b (d ∷ ds) s of pb st h =
    let x = judge_init_declarator storage (Some b) d s in
    let y = judge_init_declarators storage (Some b) ds x.scope in
    let one = init_declarator_stands storage b d s of pb st (nil_left x.faults _ h) in
    let rest = init_declarators_stand storage b ds x.scope of pb one.stands
    (nil_left y.faults [] (nil_right x.faults _ h)) in
    record {
      stands = rest.stands;
      value = one.value ++ rest.value;
      is = lift2_some append x.value y.value one.value rest.value one.is rest.is;
    }

pub storage_of_file : (all : Specifiers) (b : Bool) → b ≡ true → IsOfFile (storage_of all b)
storage_of_file all b e = by_words (has word.Typedef all) b e
  where
    by_words : (d c : Bool) → c ≡ true
        → IsOfFile (if d then TypedefStorage else if c || has word.Static all then StaticStorage else AutomaticStorage)
    by_words true c e = tt
    by_words false true e = tt
    by_words false false e = absurd (cc)

pub declaration_stands : (d : Declaration) (s : Scope) → Stands s → (judge_declaration d s).faults ≡ []
    → IsStood (judge_declaration d s)
declaration_stands (tree.declaration all ds span) s st h =
    let alone = is_tag_alone all ds in
    let z = judge_specifiers alone all s in
    let x = typed_by span.start all z in
    let storage = storage_of all s.is_file in
    let before = nil_left (x.faults ++ empty_faults all ds span.start) _ h in
    let here = nil_left x.faults _ before in
    let k = type_known alone all span.start s st here in
    let stands = specifiers_stand alone all s st (nil_left z.faults _ here) in
    let later = nil_right (x.faults ++ empty_faults all ds span.start) _ h in
    let r = subst (λ o. (judge_init_declarators storage o ds x.scope).faults ≡ []
    → IsStood (judge_init_declarators storage o ds x.scope)) (sym k.is)
    (λ f. init_declarators_stand storage k.type ds x.scope (storage_of_file all s.is_file st.file) k.positive stands f) later in
    record { stands = r.stands; value = r.value; is = r.is }
