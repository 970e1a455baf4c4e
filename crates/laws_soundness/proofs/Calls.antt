-- Arguments and calls: what is found of them is well where their parts are and they have no fault of
-- their own.
use Rattle.std.proofs.Common.{◌≡◌, ℕ, ◌==◌, Bool, true, false, not, ◌&&◌, ◌||◌, if◌then◌else◌, List, [], ◌∷◌, ◌++◌, length, map, slice_get, Option, Some, None, option_map, option_and_then, is_none, refl, ap, sym, ◌∙◌, subst, arith}
use Rattle.mc_span.specs.declared.span.Span.{Span}
use Rattle.mc_tree.specs.Tree.{Name}
use Rattle.mc_value.specs.declared.int_type.IntType.{IntType}
use Rattle.mc_value.specs.declared.int_type.IntType.TheVariants as the
use Rattle.mc_typed.specs.declared.expressions.Slot.{Slot}
use Rattle.mc_typed.specs.Layout.{ObjectType, Array, cells}
use Rattle.mc_typed.specs.Tree.{Place, Argument, Arguments, Object, ParameterType}
use Rattle.mc_typed.specs.Tree as t
use Rattle.mc_typed.specs.Frames.{slots, slots_argument, slots_arguments}
use Rattle.mc_typed.specs.Sound.{structure_result, result_at, IsSlotOf, IsExpression, IsStructureType, IsArgument, AreArguments, Takes, type_of}
use Rattle.types_faults.specs.declared.fault.FaultKind.TheVariants.{Mismatch, NoBody}
use Rattle.mc_limits.specs.Limits.{most_frame_cells}
use Rattle.types_rules.specs.Profile.{counted, start_at}
use Rattle.types_rules.specs.Types.{Base, Void, Integer, Tagged, CType, plain, Structure, is_complete, layout_of_base, arrays_of, layout_of, same_base, same_lengths, same_unqualified, ParameterKind, ByValue, ByArray, Signature}
use Rattle.types_rules.specs.Scopes.{Function, Scope, place_from, function_number, is_input, is_output, is_external, next_slot, with_object, with_counted}
use Rattle.types_rules.specs.Values.{Value, Number, Stored, Borrowed, Returned, Done, Assigned, Designator, Kind, IsVoid, IsInteger, IsStructure, IsArray, IsAssignment, IsFunction, kind_of_base, kind_of_object, kind_of, Found, kind_found, is_integer, is_array}
use Rattle.types_rules.specs.Initializers.{is_kind}
use Rattle.types_rules.specs.Expressions.{convert_to}
use Rattle.types_rules.specs.Calls.{Given, array_fits, argument_fits, argument_faults, stored_array, argument_of, copy_of, argument_value, argument_judged, gives, signature_faults, body_faults, callee_faults, output_of, returned, called, call_value, after_call, call_found}
use Rattle.types_rules.specs.Typing.{parameter_type, result_type}
use Rattle.laws_soundness.specs.Fits.{World, Completes, FunctionFits, SignatureFits, Fits, Ends, Made, IsSoundValue, slots_of, IsWell, AreWell}
use Rattle.laws_soundness.proofs.Lists.{right_nil, get_next, get_begun}
use Rattle.laws_soundness.proofs.Tests.{nil_left, nil_right, no_fault, or_left, or_right, not_false, and_left, and_right, false_true, and_then_some}
use Rattle.laws_soundness.proofs.IntTypes.{same_integers}
use Rattle.laws_soundness.proofs.Fitting.{layout_kept, fits_object, structure_type_fits, made_as, made_two, next_numbered, made_object}
use Rattle.laws_soundness.proofs.Values.{converts, numbers, structures, kind_itself, known_kind}
use Rattle.laws_soundness.proofs.Expressions.{array_object, array_layout}

-- ---- the same type

same_number : (m n : ℕ) → (m == n) ≡ true → m ≡ n
same_number m n h = grind (arith, h)

pub same_bases : (a b : Base) → same_base a b ≡ true → a ≡ b
same_bases Void Void h = refl
same_bases (Integer a) (Integer b) h = ap Integer (same_integers a b h)
same_bases (Tagged j) (Tagged k) h = ap Tagged (same_number j k h)
same_bases Void (Integer b) h = absurd (cc)
same_bases Void (Tagged k) h = absurd (cc)
same_bases (Integer a) Void h = absurd (cc)
same_bases (Integer a) (Tagged k) h = absurd (cc)
same_bases (Tagged j) Void h = absurd (cc)
same_bases (Tagged j) (Integer b) h = absurd (cc)

pub same_lists : (ms ns : List ℕ) → same_lengths ms ns ≡ true → ms ≡ ns
same_lists [] [] h = refl
same_lists (m ∷ ms) (n ∷ ns) h =
    let a = same_number m n (and_left (m == n) (same_lengths ms ns) h) in
    let b = same_lists ms ns (and_right (m == n) (same_lengths ms ns) h) in
    ap (λ x. x ∷ ms) a ∙ ap (λ l. n ∷ l) b
same_lists [] (n ∷ ns) h = absurd (cc)
same_lists (m ∷ ms) [] h = absurd (cc)

-- types that differ in their qualifiers alone have one layout
pub same_layout : (all : List Structure) (u v : CType) → same_unqualified u v ≡ true
    → layout_of all u ≡ layout_of all v
same_layout all u v h =
    let a = same_bases u.base v.base (and_left (same_base u.base v.base) _ h) in
    let b = same_lists u.lengths v.lengths (and_right (same_base u.base v.base) _ h) in
    ap (λ x. arrays_of u.lengths (layout_of_base all x)) a
    ∙ ap (λ l. arrays_of l (layout_of_base all v.base)) b

-- ---- objects that are made

-- the object that is made next stands in the program
pub next_there : (w : World) (s : Scope) (u : ObjectType) → Ends w (with_object u s)
    → IsSlotOf w.scope.objects (next_slot s) u
next_there w s u e =
    let o : Object = record { object_type = u; cells = counted (cells u); start = start_at most_frame_cells s.frame } in
    let here : slice_get w.scope.objects (next_slot s).object ≡ Some o =
    ap (slice_get w.scope.objects) (next_numbered w s u e)
    ∙ get_begun Object (s.objects ++ (o ∷ [])) w.scope.objects (length s.objects) o e.objects
    (get_next s.objects o []) in
    (ap (option_map (λ x. x.start)) here, ap (option_map (λ x. x.object_type)) here)

-- ---- arguments

record IsPassed (w : World) (s : Scope) (p : ParameterKind) (v : Value) : Type 0 where
  argument : Argument
  is : argument_of s p v ≡ Some argument
  sound : Ends w (with_counted (copy_of s (Some p) (Some argument)) s)
      → IsArgument argument (parameter_type w.structures p) w.scope
  made : Ends w (with_counted (copy_of s (Some p) (Some argument)) s) → (r : Scope)
      → Made r s (slots_of v) → Made r (with_counted (copy_of s (Some p) (Some argument)) s) (slots_argument argument)
  fits : Fits w (with_counted (copy_of s (Some p) (Some argument)) s)

number_passed : (w : World) (s : Scope) (a : IntType) (v : Value) → is_integer (kind_of v) ≡ true
    → Fits w s → IsSoundValue w s.structures v → IsPassed w s (ByValue (Integer a)) v
number_passed w s a v k fit h =
    let n = numbers w s.structures v k h in
    let p = converts w.scope a n.number n.sound in
    record {
      argument = t.NumberArgument (convert_to a n.number);
      is = ap (option_map (λ e. t.NumberArgument (convert_to a e))) n.is;
      sound = λ e. (p.sound, p.type);
      made = λ e r m. made_as r s _ _ (sym (p.slots ∙ n.slots)) m;
      fits = fit;
    }

structure_passed : (w : World) (s : Scope) (k : ℕ) (v : Value) → is_kind k (kind_of v) ≡ true
    → Fits w s → Completes s.structures w.structures → IsSoundValue w s.structures v
    → IsPassed w s (ByValue (Tagged k)) v
structure_passed w s k v q fit kept h =
    let n = structures w s.structures k v q h in
    let c = kept in
    let same = layout_kept s.structures w.structures (plain (Tagged k)) c n.complete in
    let u = layout_of s.structures (plain (Tagged k)) in
    record {
      argument = t.StructureArgument n.structure (next_slot s);
      is = ap (option_map (λ x. t.StructureArgument x (next_slot s))) n.is;
      sound = λ e. subst (λ x. IsArgument (t.StructureArgument n.structure (next_slot s)) (t.StructureParameter x) w.scope)
          same (n.sound, n.type, next_there w s u e);
      made = λ e r m. made_two r s (with_object u s) _ _ (made_as r s _ _ (sym n.slots) m)
          (made_object w s u e);
      fits = fits_object w s u fit (structure_type_fits w s.structures k fit.structures c n.complete);
    }

array_kind : (p : CType) (k : Kind) → argument_fits (ByArray p) k ≡ true
    → (v : CType) × (k ≡ IsArray v) × (array_fits p v ≡ true)
array_kind p (IsArray v) h = (v, refl, h)
array_kind p IsVoid h = absurd (cc)
array_kind p IsAssignment h = absurd (cc)
array_kind p IsInteger h = absurd (cc)
array_kind p (IsStructure n) h = absurd (cc)
array_kind p IsFunction h = absurd (cc)

array_passed : (w : World) (s : Scope) (p : CType) (v : Value)
    → argument_fits (ByArray p) (kind_of v) ≡ true → Fits w s → Completes s.structures w.structures
    → IsSoundValue w s.structures v → IsPassed w s (ByArray p) v
array_passed w s p (Stored place u) q fit kept h =
    let shape = array_object u u.lengths (is_one u.lengths q) in
    let element : CType = record u { lengths = shape.1 } in
    let same_as : array_fits p element ≡ true =
    subst (λ l. argument_fits (ByArray p) (kind_of_object u l) ≡ true) shape.2 q in
    let unqualified = and_left (same_unqualified p element) _ same_as in
    let c = kept in
    let layout : layout_of s.structures element ≡ layout_of w.structures p =
    layout_kept s.structures w.structures element c h.2
    ∙ sym (same_layout w.structures p element unqualified) in
    record {
      argument = t.ArrayArgument place shape.0;
      is = ap (stored_array p place u) shape.2
          ∙ ap (λ b. if b then Some (t.ArrayArgument place shape.0) else None) same_as;
      sound = λ e. (
        h.0,
        h.1 ∙ ap Some (array_layout s.structures u shape.0 shape.1 shape.2)
            ∙ ap (λ x. Some (Array shape.0 x)) layout,
      );
      made = λ e r m. m;
      fits = fit;
    }
  where
    of_base : (b : Base) → argument_fits (ByArray p) (kind_of_base b) ≡ true → ⊥
    of_base Void e = cc
    of_base (Integer a) e = cc
    of_base (Tagged n) e = cc

    is_one : (ls : List ℕ) → argument_fits (ByArray p) (kind_of_object u ls) ≡ true
        → is_array (kind_of_object u ls) ≡ true
    is_one [] e = absurd (of_base u.base e)
    is_one (n ∷ ns) e = refl
array_passed w s p (Borrowed array u span) q fit kept h =
    let c = kept in
    record {
      argument = t.AgainArgument array span;
      is = ap (λ b. if b then Some (t.AgainArgument array span) else None) q;
      sound = λ e. h.0 ∙ ap Some (layout_kept s.structures w.structures u c h.1
          ∙ sym (same_layout w.structures p u (and_left (same_unqualified p u) _ q)));
      made = λ e r m. m;
      fits = fit;
    }
array_passed w s p (Number e) q fit kept h = absurd (cc)
array_passed w s p (Returned k n) q fit kept h = absurd (cc)
array_passed w s p (Done effect) q fit kept h = absurd (cc)
array_passed w s p (Assigned effect) q fit kept h = absurd (cc)
array_passed w s p Designator q fit kept h = absurd (cc)

is_same_structure : (j : ℕ) (k : Kind) → argument_fits (ByValue (Tagged j)) k ≡ true
    → is_kind j k ≡ true
is_same_structure j (IsStructure k) h = subst (λ n. is_kind j (IsStructure n) ≡ true)
    (same_number j k h) (kind_itself j)
is_same_structure j IsVoid h = absurd (cc)
is_same_structure j IsAssignment h = absurd (cc)
is_same_structure j IsInteger h = absurd (cc)
is_same_structure j (IsArray u) h = absurd (cc)
is_same_structure j IsFunction h = absurd (cc)

void_fits : (k : Kind) → argument_fits (ByValue Void) k ≡ true → ⊥
void_fits IsVoid h = cc
void_fits IsAssignment h = cc
void_fits IsInteger h = cc
void_fits (IsStructure n) h = cc
void_fits (IsArray u) h = cc
void_fits IsFunction h = cc

passes : (w : World) (s : Scope) (p : ParameterKind) (v : Value)
    → argument_fits p (kind_of v) ≡ true → Fits w s → Completes s.structures w.structures
    → IsSoundValue w s.structures v → IsPassed w s p v
passes w s (ByValue (Integer a)) v q fit kept h = number_passed w s a v q fit h
passes w s (ByValue (Tagged k)) v q fit kept h =
    structure_passed w s k v (is_same_structure k (kind_of v) q) fit kept h
passes w s (ByValue Void) v q fit kept h = absurd (void_fits (kind_of v) q)
passes w s (ByArray u) v q fit kept h = array_passed w s u v q fit kept h

-- one argument
pub record IsGiven (w : World) (s : Scope) (p : ParameterKind) (x : Given Argument) : Type 0 where
  pub value : Argument
  pub is : x.value ≡ Some value
  pub sound : IsArgument value (parameter_type w.structures p) w.scope
  pub made : Made s x.scope (slots_argument value)
  pub fits : Fits w x.scope

pub argument_well : (w : World) (s : Scope) (at : ℕ) (p : ParameterKind) (x : Found) → IsWell w s x
    → Completes x.scope.structures w.structures → Ends w (argument_judged at (Some p) x).scope
    → argument_faults at (Some p) (kind_found x) ≡ []
    → IsGiven w s p (argument_judged at (Some p) x)
argument_well w s at p x wx kept ends h =
    let k = known_kind (argument_fits p) x.value wx.value wx.is (no_fault _ Mismatch at h) in
    let a = passes w x.scope p wx.value k wx.fits kept wx.sound in
    let is : argument_value x.scope (Some p) x.value ≡ Some a.argument =
    and_then_some (argument_of x.scope p) x.value wx.value wx.is ∙ a.is in
    let after : (argument_judged at (Some p) x).scope
    ≡ with_counted (copy_of x.scope (Some p) (Some a.argument)) x.scope =
    ap (λ o. with_counted (copy_of x.scope (Some p) o) x.scope) is in
    record {
      value = a.argument;
      is = is;
      sound = a.sound (subst (Ends w) after ends);
      made = subst (λ r. Made s r (slots_argument a.argument)) (sym after) (a.made (subst (Ends w) after ends) s wx.made);
      fits = subst (Fits w) (sym after) a.fits;
    }

-- ---- calls

-- the scope after a call, and its value
record IsCalled (w : World) (r s : Scope) (v : Option Value) (n : ℕ) (l : List Slot) : Type 0 where
  value : Value
  is : v ≡ Some value
  sound : Ends w (after_call (Some value) n s) → IsSoundValue w s.structures value
  made : Ends w (after_call (Some value) n s) → (r : Scope) → Made r s l → Made r (after_call (Some value) n s) (slots_of value)
  fits : Fits w (after_call (Some value) n s)
  kept : (after_call (Some value) n s).structures ≡ s.structures

called_by_number : (w : World) (r s : Scope) (f : Signature) (k n : ℕ) (given : Arguments) (span : Span)
    → FunctionFits w f k → gives s.structures f.result ≡ true → Fits w s
    → Completes s.structures w.structures
    → AreArguments given (map (parameter_type w.structures) f.parameters) w.scope
    → (b : Base) → f.result ≡ b
    → IsCalled w r s (returned s k given span b) n (slots_arguments given)
called_by_number w r s f k n given span fun g fit kept h Void e =
    let args = subst (λ ps. AreArguments given ps w.scope) (sym fun.parameters) h in
    let result = fun.result ∙ ap (result_type w.structures) e in
    record {
      value = Done (t.CallEffect (t.call k given None span));
      is = refl;
      sound = λ ends. ((fun.there, args, tt, result), (fun.there, args, tt, result), tt, tt);
      made = λ e r m. made_as r s _ _ (sym (right_nil (slots_arguments given))) m;
      fits = fit;
      kept = refl;
    }
called_by_number w r s f k n given span fun g fit kept h (Integer a) e =
    let args = subst (λ ps. AreArguments given ps w.scope) (sym fun.parameters) h in
    let result = fun.result ∙ ap (result_type w.structures) e in
    record {
      value = Number (t.Call (t.call k given None span) a);
      is = refl;
      sound = λ ends. (fun.there, args, tt, result);
      made = λ e r m. made_as r s _ _ (sym (right_nil (slots_arguments given))) m;
      fits = fit;
      kept = refl;
    }
called_by_number w r s f k n given span fun g fit kept h (Tagged j) e =
    let args = subst (λ ps. AreArguments given ps w.scope) (sym fun.parameters) h in
    let complete : is_complete s.structures (Tagged j) ≡ true =
    sym (ap (gives s.structures) e) ∙ g in
    let c = kept in
    let u = layout_of s.structures (plain (Tagged j)) in
    let same = layout_kept s.structures w.structures (plain (Tagged j)) c complete in
    let result : result_at (slice_get w.scope.functions k) ≡ t.StructureResult u =
    fun.result ∙ ap (result_type w.structures) e ∙ ap t.StructureResult (sym same) in
    let type : structure_result (result_at (slice_get w.scope.functions k)) ≡ Some u =
    ap structure_result result in
    record {
      value = Returned (t.call k given (Some (next_slot s)) span) j;
      is = ap (λ b. if b then Some (Returned (t.call k given (Some (next_slot s)) span) j) else None)
          complete;
      sound = λ ends. (
        (
          fun.there,
          args,
          subst IsStructureType (sym type) tt,
          subst (λ x. Takes (Some (next_slot s)) x w.scope) (sym result) (next_there w s u ends),
        ),
        type,
        complete,
      );
      made = λ e r m. made_two r s (with_object u s) _ _ m (made_object w s u e);
      fits = fits_object w s u fit (structure_type_fits w s.structures j fit.structures c complete);
      kept = refl;
    }

-- a call of mcdc_in has no argument, one of mcdc_out has one
none_given : (given : Arguments) (w : World) → AreArguments given [] w.scope → given ≡ t.no_arguments
none_given t.no_arguments w h = refl
none_given (t.arguments a rest) w h = absurd h

record IsOne (w : World) (given : Arguments) : Type 0 where
  number : t.Expression
  is : given ≡ t.arguments (t.NumberArgument number) t.no_arguments
  sound : IsExpression number w.scope
  type : type_of number ≡ the.Int

one_given : (w : World) (given : Arguments)
    → AreArguments given (t.NumberParameter the.Int ∷ []) w.scope → IsOne w given
one_given w t.no_arguments h = absurd h
one_given w (t.arguments a (t.arguments b rest)) h = absurd h.1
one_given w (t.arguments (t.NumberArgument e) t.no_arguments) h =
    record { number = e; is = refl; sound = h.0.0; type = h.0.1 }
one_given w (t.arguments (t.StructureArgument v slot) t.no_arguments) h = absurd h.0
one_given w (t.arguments (t.ArrayArgument place n) t.no_arguments) h = absurd h.0
one_given w (t.arguments (t.AgainArgument array span) t.no_arguments) h = absurd h.0

calls : (w : World) (r s : Scope) (name : Name) (f : Signature) (n : ℕ) (given : Arguments) (span : Span)
    → SignatureFits w name.text f → gives s.structures f.result ≡ true
    → body_faults name.span.start name s ≡ [] → Fits w s → Completes s.structures w.structures
    → AreArguments given (map (parameter_type w.structures) f.parameters) w.scope
    → IsCalled w r s (called name span s f.result given) n (slots_arguments given)
calls w r s name f n given span sig g body fit kept h =
    by_input (is_input name) refl
  where
    by_number : (o : Option ℕ) → function_number name s ≡ o → is_none o ≡ false
        → IsCalled w r s (option_and_then (λ k. returned s k given span f.result) o) n
        (slots_arguments given)
    by_number None e q = absurd (cc)
    by_number (Some k) e q =
        let there : place_from 0 name.text w.bodies ≡ Some k =
        ap (place_from 0 name.text) (sym fit.bodies) ∙ e in
        called_by_number w r s f k n given span (sig.defined k there) g fit kept h f.result refl

    by_output : (b : Bool) → is_output name ≡ b → is_input name ≡ false
        → IsCalled w r s (if b then output_of span given
        else option_and_then (λ k. returned s k given span f.result) (function_number name s)) n
        (slots_arguments given)
    by_output true e i =
        let one = one_given w given
        (subst (λ x. AreArguments given (map (parameter_type w.structures) x.parameters) w.scope)
        (sig.output name refl e) h) in
        subst (λ x. IsCalled w r s (output_of span x) n (slots_arguments x)) (sym one.is) (record {
          value = Done (t.Output one.number span);
          is = refl;
          sound = λ ends. ((one.sound, one.type), (one.sound, one.type), tt, tt);
          made = λ e r m. made_as r s _ _ (right_nil (slots one.number)) m;
          fits = fit;
          kept = refl;
        })
    by_output false e i =
        let external : is_external name ≡ false = ap (λ b. b || is_output name) i ∙ e in
        let q = no_fault _ NoBody _ body in
        by_number (function_number name s) refl
        (sym (ap (λ b. not b && is_none (function_number name s)) external) ∙ q)

    by_input : (b : Bool) → is_input name ≡ b
        → IsCalled w r s (if b then Some (Number (t.Input span))
        else if is_output name then output_of span given
        else option_and_then (λ k. returned s k given span f.result) (function_number name s)) n
        (slots_arguments given)
    by_input true e =
        let none = none_given given w
        (subst (λ x. AreArguments given (map (parameter_type w.structures) x.parameters) w.scope)
        (sig.input name refl e) h) in
        record {
          value = Number (t.Input span);
          is = refl;
          sound = λ ends. tt;
          made = λ e r m. made_as r s _ _ (ap slots_arguments none) m;
          fits = fit;
          kept = refl;
        }
    by_input false e = by_output (is_output name) refl e

-- The name of what is called: as many arguments as parameters, and what the call gives.
pub counts : (w : World) (s : Scope) (name : Name) (at count : ℕ) (f : Signature) (b : Bool) (x : Scope)
    → callee_faults name at count x (Some (Function (Some f) b)) ≡ []
    → (count ≡ length f.parameters) × (gives x.structures f.result ≡ true)
    × (body_faults name.span.start name x ≡ [])
counts w s name at count f b x h =
    let own = no_fault _ Mismatch at (nil_left _ _ h) in (
      same_number count (length f.parameters)
          (not_false (count == length f.parameters) (or_left _ _ own)),
      not_false (gives x.structures f.result) (or_right (not (count == length f.parameters)) _ own),
      nil_right (signature_faults at count x.structures (Some f)) _ h,
    )

pub call_well : (w : World) (s : Scope) (name : Name) (count : ℕ) (span : Span) (f : Signature)
    (b : Bool) (x : Given Arguments) → SignatureFits w name.text f
    → AreWell w s f.parameters x → Completes x.scope.structures w.structures
    → Ends w (call_found name count span (Some (Function (Some f) b)) x).scope
    → callee_faults name span.start count x.scope (Some (Function (Some f) b)) ≡ []
    → IsWell w s (call_found name count span (Some (Function (Some f) b)) x)
call_well w s name count span f b x sig wx kept ends h =
    let c = counts w s name span.start count f b x.scope h in
    let r = calls w s x.scope name f x.copied wx.value span sig c.1 c.2 wx.fits kept wx.sound in
    let v = call_value name span (Some (Function (Some f) b)) x.scope x.value in
    let is : v ≡ Some r.value =
    and_then_some (called name span x.scope f.result) x.value wx.value wx.is ∙ r.is in
    let after : after_call v x.copied x.scope ≡ after_call (Some r.value) x.copied x.scope =
    ap (λ o. after_call o x.copied x.scope) is in
    record {
      value = r.value;
      is = is;
      sound = subst (λ t. IsSoundValue w t.structures r.value) (sym after)
          (subst (λ l. IsSoundValue w l r.value) (sym r.kept) (r.sound (subst (Ends w) after ends)));
      made = subst (λ t. Made s t (slots_of r.value)) (sym after) (r.made (subst (Ends w) after ends) s wx.made);
      fits = subst (Fits w) (sym after) r.fits;
      place = λ q. false_true q;
      constant = λ q. false_true q;
    }
