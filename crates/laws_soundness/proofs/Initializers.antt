-- Initializers: what is declared stays, and what is found of one without a fault is well.
use Rattle.std.proofs.Common.{◌≡◌, ℕ, zero, suc, ◌+◌, ◌-◌, ◌≤◌, ◌==◌, nat_lt, Bool, true, false, ◌||◌, if◌then◌else◌, List, [], ◌∷◌, ◌++◌, length, map, take, drop, slice_get, Option, Some, None, option_map, option_and_then, refl, ap, sym, ◌∙◌, subst, arith, append_assoc}
use Rattle.mc_tree.specs.Tree.{Expression, Initializer, Initializers, span_of}
use Rattle.mc_tree.specs.Tree as tree
use Rattle.mc_value.specs.declared.int_type.IntType.{IntType}
use Rattle.mc_typed.specs.Layout.{ObjectType, Scalar, Array, cells, repeated, scalars, scalars_all, members_from}
use Rattle.mc_typed.specs.Layout as layout
use Rattle.mc_typed.specs.Tree as t
use Rattle.mc_typed.specs.Frames.{slots_initializer, slots_initializers}
use Rattle.mc_typed.specs.Sound.{type_of, IsInitializer, AreElements, AreMembers, AreInRange}
use Rattle.mc_typed.specs.Sound as sound
use Rattle.mc_typed.proofs.CellTypes.{length_scalars}
use Rattle.types_faults.specs.declared.fault.FaultKind.TheVariants.{Mismatch}
use Rattle.types_faults.specs.Faults.{fault, fault_if}
use Rattle.types_rules.specs.Profile.{counted}
use Rattle.types_rules.specs.Types.{Base, Void, Integer, Tagged, CType, plain, Member, Structure, Complete, members_of, is_complete, layout_of, cells_of}
use Rattle.types_rules.specs.Scopes.{Scope}
use Rattle.types_rules.specs.Values.{Judged, judged, judged_one, part, Found, kind_found, is_integer, fails, number_in, number_found}
use Rattle.mc_typed.specs.Constants.{constant_value}
use Rattle.types_rules.specs.Constants.{value_of_constant, constant_found, is_zero_constant}
use Rattle.types_rules.specs.Expressions.{convert_to, layouts_of}
use Rattle.types_rules.specs.Initializers.{Target, ScalarTarget, ArrayTarget, StructureTarget, target_of_base, target_of_object, target_of, Parts, Elements, Members, NoParts, parts_of, first_part, later_parts, is_kind, item_faults, static_faults, scalar_value, item_value, item_count, count_faults, only_item, list_value, zero_value, is_zero, zero_judged, list_judged, braced_judged, only_expression, items_judged, judge_initializer, judge_items, values_of, values_of_items}
use Rattle.types_rules.specs.Judgement.{judge}
use Rattle.laws_soundness.specs.Growth.{Grown}
use Rattle.laws_soundness.specs.Fits.{World, IsTypeIn, AreTypesIn, Completes, StructuresFit, Fits, Ends, IsWell, HasRoom, ArePartsKnown, IsInitialized, AreInitialized}
use Rattle.laws_soundness.proofs.Lists.{right_nil}
use Rattle.laws_soundness.proofs.Tests.{nil_left, nil_right, no_fault, or_left, or_right, false_true, and_then_some, lift2_some}
use Rattle.laws_soundness.proofs.Grows.{grown_refl, grown_trans, grows}
use Rattle.laws_soundness.proofs.Sizes.{cells_exact, element_in, list_types}
use Rattle.laws_soundness.proofs.Fitting.{kept_completes, complete_at, layout_kept, complete_kept, members_kept, made_none, made_as, made_two, ends_back}
use Rattle.laws_soundness.proofs.Values.{IsPlain, plain_layout, converts, numbers, structures, known_kind}
use Rattle.laws_soundness.proofs.Expressions.{array_layout}
use Rattle.laws_soundness.proofs.Types.{constant_well}
use Rattle.laws_soundness.proofs.Constants.{initial_within, within_append, AreFirst, filled_within, none_first}
use Rattle.laws_soundness.proofs.Sound.{well}

-- ---- what is declared stays

braced_grows : (u : Option CType) (at count : ℕ) (o : Option Expression) (x : Judged t.Initializers)
    (s : Scope) → Grown s x.scope
    → Grown s (braced_judged u at count (option_map (λ e. judge e s) o) x s).scope
braced_grows u at count None x s g = g
braced_grows u at count (Some e) x s g = by_test (is_zero (Some (judge e s)))
  where
    by_test : (b : Bool) → Grown s (if b then zero_judged u (Some (judge e s)) s else list_judged u at count x).scope
    by_test true = grows e s
    by_test false = g

mutual
  pub initializer_grows : (static : Bool) (u : Option CType) (i : Initializer) (s : Scope)
      → Grown s (judge_initializer static u i s).scope
  initializer_grows static u (tree.Single e) s = grows e s
  initializer_grows static u (tree.Braced items span) s =
      let parts = parts_of (target_of s.structures u) in
      braced_grows u span.start (item_count items) (only_expression items) (judge_items static parts items s) s
      (items_grow static parts items s)

  pub items_grow : (static : Bool) (parts : Parts) (items : Initializers) (s : Scope)
      → Grown s (judge_items static parts items s).scope
  items_grow static parts tree.no_initializers s = grown_refl s
  items_grow static parts (tree.initializers one rest) s =
      let x = judge_initializer static (first_part parts) one s in
      grown_trans s x.scope _ (initializer_grows static (first_part parts) one s)
      (items_grow static (later_parts parts) rest x.scope)

-- ---- targets

-- a complete type is an integer type, an array, or a structure with members
abbrev IsIntegerType : CType → Type 0
IsIntegerType u = (a : IntType) × IsPlain u (Integer a)

abbrev IsArrayType : CType → Type 0
IsArrayType u = (n : ℕ) × (ns : List ℕ) × (u.lengths ≡ n ∷ ns)

abbrev IsListedType : List Structure → CType → Type 0
IsListedType all u =
    (k : ℕ) × (ms : List Member) × (IsPlain u (Tagged k)) × (slice_get all k ≡ Some (Complete ms))

data View (all : List Structure) (u : CType) : Type 0 where
  integer_view : IsIntegerType u → View all u
  array_view : IsArrayType u → View all u
  structure_view : IsListedType all u → View all u

view_by : (all : List Structure) (u : CType) (b : Base) (ls : List ℕ) → u.base ≡ b → u.lengths ≡ ls
    → is_complete all u.base ≡ true → View all u
view_by all u b (n ∷ ns) p q h = array_view (n, ns, q)
view_by all u (Integer a) [] p q h = integer_view (a, record { base = p; lengths = q })
view_by all u Void [] p q h = absurd (by_base (ap (is_complete all) p))
  where
    by_base : is_complete all u.base ≡ false → ⊥
    by_base e = cc
view_by all u (Tagged k) [] p q h =
    let c = complete_at (slice_get all k) (subst (λ b. is_complete all b ≡ true) p h) in
    structure_view (k, c.0, record { base = p; lengths = q }, c.1)

view : (all : List Structure) (u : CType) → is_complete all u.base ≡ true → View all u
view all u h = view_by all u u.base u.lengths refl refl h

target_integer : (all : List Structure) (u : CType) (a : IntType) → IsPlain u (Integer a)
    → target_of all (Some u) ≡ ScalarTarget u
target_integer all u a p = ap (target_of_object all u) p.lengths ∙ ap (target_of_base all u) p.base

target_array : (all : List Structure) (u : CType) (n : ℕ) (ns : List ℕ) → u.lengths ≡ n ∷ ns
    → target_of all (Some u) ≡ ArrayTarget n (record u { lengths = ns })
target_array all u n ns e = ap (target_of_object all u) e

target_structure : (all : List Structure) (u : CType) (k : ℕ) (ms : List Member) → IsPlain u (Tagged k)
    → slice_get all k ≡ Some (Complete ms) → target_of all (Some u) ≡ StructureTarget k ms
target_structure all u k ms p e =
    ap (target_of_object all u) p.lengths ∙ ap (target_of_base all u) p.base
    ∙ ap (λ o. StructureTarget k (members_of o)) e

structure_layout : (all : List Structure) (u : CType) (k : ℕ) (ms : List Member) → IsPlain u (Tagged k)
    → slice_get all k ≡ Some (Complete ms) → layout_of all u
    ≡ layout.Structure (counted k) (layouts_of ms)
structure_layout all u k ms p e =
    plain_layout all u (Tagged k) p ∙ ap (λ o. layout.Structure (counted k) (layouts_of (members_of o))) e

-- ---- an expression

abbrev single_with : Bool → CType → ℕ → Found → Target → Judged t.Initializer
single_with static u at x target =
    judged_one
    (item_faults static target at (kind_found x) ++ static_faults static at x.constant (number_found x))
    (option_and_then (item_value x.scope.structures (Some u) target) x.value) (part x)

constants_of : (w : World) (s : Scope) (at : ℕ) (x : Found) (static : Bool) → IsWell w s x
    → static_faults static at x.constant (number_found x) ≡ [] → static ≡ true
    → x.scope.objects ≡ s.objects
constants_of w s at x static wx h q =
    (constant_well w s at x wx (subst (λ b. static_faults b at x.constant (number_found x) ≡ []) q h)).still

single_integer : (w : World) (static : Bool) (s : Scope) (u : CType) (at : ℕ) (x : Found) (a : IntType)
    → IsPlain u (Integer a) → IsWell w s x → (single_with static u at x (ScalarTarget u)).faults ≡ []
    → IsInitialized w static s u (single_with static u at x (ScalarTarget u))
single_integer w static s u at x a p wx h =
    let all = x.scope.structures in
    let own = nil_right x.faults _ h in
    let b = no_fault _ Mismatch at (nil_left (fault_if (fails is_integer (kind_found x)) Mismatch at) _ own) in
    let n = numbers w all wx.value (known_kind is_integer x.value wx.value wx.is b) wx.sound in
    let q = converts w.scope a n.number n.sound in
    let e : layout_of all u ≡ Scalar a = plain_layout all u (Integer a) p in
    let i = t.NumberInitializer (convert_to a n.number) in
    record {
      value = i;
      is = and_then_some (item_value all (Some u) (ScalarTarget u)) x.value wx.value wx.is
          ∙ ap (λ c. scalar_value c wx.value) p.base
          ∙ ap (option_map (λ e. t.NumberInitializer (convert_to a e))) n.is;
      sound = subst (λ l. IsInitializer i l w.scope) (sym e) (q.sound, q.type);
      made = made_as s x.scope _ _ (sym (q.slots ∙ n.slots)) wx.made;
      fits = wx.fits;
      values = λ r. (
        constants_of w s at x static wx
            (nil_right (fault_if (fails is_integer (kind_found x)) Mismatch at) _ own) r,
        subst (λ l. AreInRange (scalars l) (values_of i)) (sym e)
            (initial_within w.scope (convert_to a n.number) a q.sound q.type, tt),
      );
    }

single_structure : (w : World) (static : Bool) (s : Scope) (u : CType) (at : ℕ) (x : Found) (k : ℕ)
    (ms : List Member) → IsTypeIn w.structures (layout_of x.scope.structures u) → IsPlain u (Tagged k)
    → IsWell w s x → (single_with static u at x (StructureTarget k ms)).faults ≡ []
    → IsInitialized w static s u (single_with static u at x (StructureTarget k ms))
single_structure w static s u at x k ms object p wx h =
    let all = x.scope.structures in
    let own = nil_right x.faults _ h in
    let b = no_fault _ Mismatch at (nil_left (fault_if (static || fails (is_kind k) (kind_found x)) Mismatch at) _ own) in
    let n = structures w all k wx.value (known_kind (is_kind k) x.value wx.value wx.is (or_right static _ b)) wx.sound in
    let e : layout_of all u ≡ layout_of all (plain (Tagged k)) = plain_layout all u (Tagged k) p in
    let i = t.StructureInitializer n.structure (cells_of all u) in
    record {
      value = i;
      is = and_then_some (item_value all (Some u) (StructureTarget k ms)) x.value wx.value wx.is
          ∙ ap (option_map (λ w. t.StructureInitializer w (cells_of all u))) n.is;
      sound = (n.sound, n.type ∙ ap Some (sym e), cells_exact w.structures (layout_of all u) object);
      made = made_as s x.scope _ _ (sym n.slots) wx.made;
      fits = wx.fits;
      values = λ r. false_true (sym (or_left static _ b) ∙ r);
    }

single_by : (w : World) (static : Bool) (s : Scope) (u : CType) (at : ℕ) (x : Found)
    → View x.scope.structures u → IsTypeIn w.structures (layout_of x.scope.structures u) → IsWell w s x
    → (single_with static u at x (target_of x.scope.structures (Some u))).faults ≡ []
    → IsInitialized w static s u (single_with static u at x (target_of x.scope.structures (Some u)))
single_by w static s u at x (integer_view p) object wx =
    subst (λ z. (single_with static u at x z).faults ≡ [] → IsInitialized w static s u (single_with static u at x z))
    (sym (target_integer x.scope.structures u p.0 p.1)) (single_integer w static s u at x p.0 p.1 wx)
single_by w static s u at x (structure_view p) object wx =
    subst (λ z. (single_with static u at x z).faults ≡ [] → IsInitialized w static s u (single_with static u at x z))
    (sym (target_structure x.scope.structures u p.0 p.1 p.2 p.3))
    (single_structure w static s u at x p.0 p.1 object p.2 wx)
single_by w static s u at x (array_view p) object wx =
    subst (λ z. (single_with static u at x z).faults ≡ [] → IsInitialized w static s u (single_with static u at x z))
    (sym (target_array x.scope.structures u p.0 p.1 p.2)) (λ h. absurd (never h))
  where
    never : (single_with static u at x (ArrayTarget p.0 (record u { lengths = p.1 }))).faults ≡ [] → ⊥
    never h =
        let own = nil_left (fault Mismatch at) _ (nil_right x.faults _ h) in cc

-- ---- parts

parts_by : (w : World) (all : List Structure) (u : CType) → StructuresFit w all
    → is_complete all u.base ≡ true → View all u → ArePartsKnown all (parts_of (target_of all (Some u)))
parts_by w all u fit c (integer_view p) =
    subst (λ z. ArePartsKnown all (parts_of z)) (sym (target_integer all u p.0 p.1)) c
parts_by w all u fit c (array_view p) =
    subst (λ z. ArePartsKnown all (parts_of z)) (sym (target_array all u p.0 p.1 p.2)) c
parts_by w all u fit c (structure_view p) =
    subst (λ z. ArePartsKnown all (parts_of z)) (sym (target_structure all u p.0 p.1 p.2 p.3))
    (fit p.0 (Complete p.1) p.3).types

-- the types of the parts are types of the program too
abbrev ArePartsIn : World → List Structure → Parts → Type 0
ArePartsIn w all (Elements u) = IsTypeIn w.structures (layout_of all u)
ArePartsIn w all (Members ms) = AreTypesIn w.structures (map (λ m. m.layout) ms)
ArePartsIn w all NoParts = Unit {0}

parts_in : (w : World) (all : List Structure) (u : CType) → StructuresFit w all
    → IsTypeIn w.structures (layout_of all u) → View all u
    → ArePartsIn w all (parts_of (target_of all (Some u)))
parts_in w all u fit object (integer_view p) =
    subst (λ z. ArePartsIn w all (parts_of z)) (sym (target_integer all u p.0 p.1)) object
parts_in w all u fit object (array_view p) =
    subst (λ z. ArePartsIn w all (parts_of z)) (sym (target_array all u p.0 p.1 p.2))
    (element_in w.structures p.0 (layout_of all (record u { lengths = p.1 }))
    (subst (IsTypeIn w.structures) (array_layout all u p.0 p.1 p.2) object))
parts_in w all u fit object (structure_view p) =
    subst (λ z. ArePartsIn w all (parts_of z)) (sym (target_structure all u p.0 p.1 p.2 p.3))
    (list_types w all p.1 (fit p.0 (Complete p.1) p.3))

-- ---- a list

abbrev list_with : CType → ℕ → ℕ → Judged t.Initializers → Target → Judged t.Initializer
list_with u at count x target =
    judged_one (count_faults at count target)
    (option_and_then (list_value x.scope.structures (Some u) target) x.value) x

one_item : (i : t.Initializers) → sound.count_of i ≡ 1
    → (one : t.Initializer) × (i ≡ t.initializers one t.no_initializers)
one_item t.no_initializers h = absurd (omega (arith, h))
one_item (t.initializers i t.no_initializers) h = (i, refl)
one_item (t.initializers i (t.initializers j rest)) h = absurd (omega (arith, h))

exactly_one : (count : ℕ) → (nat_lt 1 count || (count == 0)) ≡ false → count ≡ 1
exactly_one count h = grind (arith, h)

not_more : (n count : ℕ) → (nat_lt n count || false) ≡ false → count ≤ n
not_more n count h = grind (arith, h)

list_integer : (w : World) (static : Bool) (s : Scope) (u : CType) (at count : ℕ)
    (x : Judged t.Initializers) → AreInitialized w static s (Elements u) count x
    → (list_with u at count x (ScalarTarget u)).faults ≡ []
    → IsInitialized w static s u (list_with u at count x (ScalarTarget u))
list_integer w static s u at count x ix h =
    let all = x.scope.structures in
    let one = exactly_one count (no_fault _ Mismatch at (nil_right x.faults _ h)) in
    let p = one_item ix.value (ix.count ∙ one) in
    let items = subst (λ z. AreElements z (layout_of all u) w.scope) p.1 ix.sound in
    record {
      value = p.0;
      is = and_then_some (list_value all (Some u) (ScalarTarget u)) x.value ix.value ix.is ∙ ap only_item p.1;
      sound = items.0;
      made = made_as s x.scope _ _ (ap slots_initializers p.1 ∙ right_nil (slots_initializer p.0)) ix.made;
      fits = ix.fits;
      values = λ r.
          let v = ix.values r in
          let within = subst (λ n. AreInRange (repeated n (scalars (layout_of all u))) (values_of_items ix.value)) one v.1 in
          let first = subst (λ z. AreInRange (scalars (layout_of all u) ++ []) (values_of_items z)) p.1 within in (
            v.0,
            subst (λ l. AreInRange l (values_of p.0)) (right_nil (scalars (layout_of all u)))
                (subst (λ l. AreInRange (scalars (layout_of all u) ++ []) l) (right_nil (values_of p.0)) first),
          );
    }

repeated_more : (A : Type 0) (xs : List A) (n m : ℕ) → repeated (n + m) xs ≡ repeated n xs ++ repeated m xs
repeated_more A xs zero m = let e : 0 + m ≡ m = omega arith in ap (λ k. repeated k xs) e
repeated_more A xs (suc n) m =
    let e : suc n + m ≡ suc (n + m) = omega arith in
    ap (λ k. repeated k xs) e ∙ ap (λ l. xs ++ l) (repeated_more A xs n m)
    ∙ sym (append_assoc xs (repeated n xs) (repeated m xs))

list_array : (w : World) (static : Bool) (s : Scope) (u : CType) (at count : ℕ)
    (x : Judged t.Initializers) (n : ℕ) (ns : List ℕ)
    → IsTypeIn w.structures (layout_of x.scope.structures u) → u.lengths ≡ n ∷ ns
    → AreInitialized w static s (Elements (record u { lengths = ns })) count x
    → (list_with u at count x (ArrayTarget n (record u { lengths = ns }))).faults ≡ []
    → IsInitialized w static s u (list_with u at count x (ArrayTarget n (record u { lengths = ns })))
list_array w static s u at count x n ns object q ix h =
    let all = x.scope.structures in
    let exact = cells_exact w.structures (layout_of all u) object in
    let v : CType = record u { lengths = ns } in
    let room = not_more n count (no_fault _ Mismatch at (nil_right x.faults _ h)) in
    let e : layout_of all u ≡ Array n (layout_of all v) = array_layout all u n ns q in
    let i = t.ListInitializer ix.value (cells_of all u) in
    record {
      value = i;
      is = and_then_some (list_value all (Some u) (ArrayTarget n v)) x.value ix.value ix.is;
      sound = subst (λ l. IsInitializer i l w.scope) (sym e)
          (exact ∙ ap cells e, subst (λ k. k ≤ n) (sym ix.count) room, ix.sound);
      made = ix.made;
      fits = ix.fits;
      values = λ r.
          let within = ix.values r in
          let sc = scalars (layout_of all v) in
          let parted : repeated n sc ≡ repeated count sc ++ repeated (n - count) sc =
          ap (λ k. repeated k sc) (split n count room) ∙ repeated_more IntType sc count (n - count) in
          let first : AreFirst (repeated n sc) (values_of_items ix.value) =
          record { first = repeated count sc; rest = repeated (n - count) sc; are = parted; within = within.1 } in
          let length_is : cells_of all u ≡ length (repeated n sc) =
          exact ∙ ap cells e ∙ sym (length_scalars (Array n (layout_of all v))) in (
            within.0,
            subst (λ l. AreInRange (scalars l) (values_of i)) (sym e)
                (filled_within (repeated n sc) (cells_of all u) (values_of_items ix.value) length_is first),
          );
    }
  where
    split : (n count : ℕ) → count ≤ n → n ≡ count + (n - count)
    split n count r = omega (arith, r)

scalars_split : (ms : List Member) (n : ℕ)
    → scalars_all (layouts_of ms) ≡ scalars_all (layouts_of (take n ms)) ++ scalars_all (layouts_of (drop n ms))
scalars_split ms zero = refl
scalars_split [] (suc n) = refl
scalars_split (m ∷ ms) (suc n) =
    ap (λ l. scalars m.layout ++ l) (scalars_split ms n)
    ∙ sym (append_assoc (scalars m.layout) (scalars_all (layouts_of (take n ms))) (scalars_all (layouts_of (drop n ms))))

list_structure : (w : World) (static : Bool) (s : Scope) (u : CType) (at count : ℕ)
    (x : Judged t.Initializers) (k : ℕ) (ms : List Member)
    → IsTypeIn w.structures (layout_of x.scope.structures u) → IsPlain u (Tagged k)
    → slice_get x.scope.structures k ≡ Some (Complete ms)
    → AreInitialized w static s (Members ms) count x
    → IsInitialized w static s u (list_with u at count x (StructureTarget k ms))
list_structure w static s u at count x k ms object p q ix =
    let all = x.scope.structures in
    let exact = cells_exact w.structures (layout_of all u) object in
    let e : layout_of all u ≡ layout.Structure (counted k) (layouts_of ms) = structure_layout all u k ms p q in
    let i = t.ListInitializer ix.value (cells_of all u) in
    record {
      value = i;
      is = and_then_some (list_value all (Some u) (StructureTarget k ms)) x.value ix.value ix.is;
      sound = subst (λ l. IsInitializer i l w.scope) (sym e) (exact ∙ ap cells e, ix.sound);
      made = ix.made;
      fits = ix.fits;
      values = λ r.
          let within = ix.values r in
          let first : AreFirst (scalars_all (layouts_of ms)) (values_of_items ix.value) =
          record {
            first = scalars_all (layouts_of (take count ms));
            rest = scalars_all (layouts_of (drop count ms));
            are = scalars_split ms count;
            within = within.1;
          } in
          let length_is : cells_of all u ≡ length (scalars_all (layouts_of ms)) =
          exact ∙ ap cells e ∙ sym (length_scalars (layout.Structure (counted k) (layouts_of ms))) in (
            within.0,
            subst (λ l. AreInRange (scalars l) (values_of i)) (sym e)
                (filled_within (scalars_all (layouts_of ms)) (cells_of all u) (values_of_items ix.value) length_is first),
          );
    }

room_structure : (count : ℕ) (ms : List Member) (at k : ℕ)
    → count_faults at count (StructureTarget k ms) ≡ [] → count ≤ length ms
room_structure count ms at k h = not_more (length ms) count (no_fault _ Mismatch at h)

list_by : (w : World) (static : Bool) (s : Scope) (u : CType) (at count : ℕ) (x : Judged t.Initializers)
    → View s.structures u → IsTypeIn w.structures (layout_of x.scope.structures u)
    → Completes s.structures x.scope.structures
    → (HasRoom (parts_of (target_of s.structures (Some u))) count
    → AreInitialized w static s (parts_of (target_of s.structures (Some u))) count x)
    → (list_judged (Some u) at count x).faults ≡ []
    → IsInitialized w static s u (list_judged (Some u) at count x)
list_by w static s u at count x (integer_view p) object c given h =
    let items = subst (λ z. HasRoom (parts_of z) count → AreInitialized w static s (parts_of z) count x)
    (target_integer s.structures u p.0 p.1) given tt in
    subst (λ z. (list_with u at count x z).faults ≡ [] → IsInitialized w static s u (list_with u at count x z))
    (sym (target_integer x.scope.structures u p.0 p.1)) (list_integer w static s u at count x items) h
list_by w static s u at count x (array_view p) object c given h =
    let items = subst (λ z. HasRoom (parts_of z) count → AreInitialized w static s (parts_of z) count x)
    (target_array s.structures u p.0 p.1 p.2) given tt in
    subst (λ z. (list_with u at count x z).faults ≡ [] → IsInitialized w static s u (list_with u at count x z))
    (sym (target_array x.scope.structures u p.0 p.1 p.2))
    (list_array w static s u at count x p.0 p.1 object p.2 items) h
list_by w static s u at count x (structure_view p) object c given h =
    let there = c p.0 p.1 p.3 in
    subst (λ z. (list_with u at count x z).faults ≡ [] → IsInitialized w static s u (list_with u at count x z))
    (sym (target_structure x.scope.structures u p.0 p.1 p.2 there))
    (λ r. list_structure w static s u at count x p.0 p.1 object p.2 there
    (subst (λ z. HasRoom (parts_of z) count → AreInitialized w static s (parts_of z) count x)
    (target_structure s.structures u p.0 p.1 p.2 p.3) given
    (room_structure count p.1 at p.0 (nil_right x.faults _ r)))) h

-- its type is still one of the program
object_kept : (w : World) (all more : List Structure) (u : CType) → Completes all more
    → is_complete all u.base ≡ true → IsTypeIn w.structures (layout_of all u)
    → IsTypeIn w.structures (layout_of more u)
object_kept w all more u c k object = subst (IsTypeIn w.structures) (layout_kept all more u c k) object

-- ---- the list {E}

zero_known : (x : Found) → is_zero (Some x) ≡ true
    → (e : t.Expression) × (x.constant ≡ true) × (number_found x ≡ Some e)
zero_known x h = by_constant x.constant refl (number_found x) refl
  where
    by_constant : (b : Bool) → x.constant ≡ b → (o : Option t.Expression) → number_found x ≡ o
        → (e : t.Expression) × (x.constant ≡ true) × (number_found x ≡ Some e)
    by_constant true p (Some e) q = (e, p, q)
    by_constant true p None q =
        let none : constant_found x ≡ None =
        ap (λ b. value_of_constant b (number_found x)) p ∙ ap (option_and_then constant_value) q in
        let no : is_zero (Some x) ≡ false = ap is_zero_constant none in absurd (cc)
    by_constant false p o q =
        let none : constant_found x ≡ None = ap (λ b. value_of_constant b (number_found x)) p in
        let no : is_zero (Some x) ≡ false = ap is_zero_constant none in absurd (cc)

zero_well : (w : World) (static : Bool) (s : Scope) (u : CType) (x : Found)
    → IsTypeIn w.structures (layout_of x.scope.structures u) → IsWell w s x → is_zero (Some x) ≡ true → IsInitialized w static s u (zero_judged (Some u) (Some x) s)
zero_well w static s u x object wx h =
    let all = x.scope.structures in
    let exact = cells_exact w.structures (layout_of all u) object in
    let k = zero_known x h in
    let c = wx.constant k.1 in
    let n = numbers w all wx.value c.1 wx.sound in
    let is : number_found x ≡ Some n.number = and_then_some number_in x.value wx.value wx.is ∙ n.is in
    let i = t.ZeroInitializer n.number (cells_of all u) in
    record {
      value = i;
      is = ap (zero_value all (Some u)) is;
      sound = (exact, n.sound);
      made = made_as s x.scope _ _ (sym n.slots) wx.made;
      fits = wx.fits;
      values = λ r. (
        c.0,
        filled_within (scalars (layout_of all u)) (cells_of all u) [] (exact ∙ sym (length_scalars (layout_of all u)))
            (none_first (scalars (layout_of all u))),
      );
    }

braced_well : (w : World) (static : Bool) (s : Scope) (u : CType) (at count : ℕ) (o : Option Expression)
    (x : Judged t.Initializers) → Fits w s → is_complete s.structures u.base ≡ true
    → IsTypeIn w.structures (layout_of s.structures u) → Completes s.structures x.scope.structures
    → (Ends w x.scope → x.faults ≡ [] → HasRoom (parts_of (target_of s.structures (Some u))) count
    → AreInitialized w static s (parts_of (target_of s.structures (Some u))) count x)
    → Ends w (braced_judged (Some u) at count (option_map (λ e. judge e s) o) x s).scope
    → (braced_judged (Some u) at count (option_map (λ e. judge e s) o) x s).faults ≡ []
    → IsInitialized w static s u (braced_judged (Some u) at count (option_map (λ e. judge e s) o) x s)
braced_well w static s u at count None x fit k object c given ends h =
    list_by w static s u at count x (view s.structures u k)
    (object_kept w s.structures x.scope.structures u c k object) c
    (λ room. given ends (nil_left x.faults _ h) room) h
braced_well w static s u at count (Some e) x fit k object c given ends h =
    by_test (is_zero (Some (judge e s))) refl ends h
  where
    by_test : (b : Bool) → is_zero (Some (judge e s)) ≡ b
        → Ends w (if b then zero_judged (Some u) (Some (judge e s)) s else list_judged (Some u) at count x).scope
        → (if b then zero_judged (Some u) (Some (judge e s)) s else list_judged (Some u) at count x).faults ≡ []
        → IsInitialized w static s u
        (if b then zero_judged (Some u) (Some (judge e s)) s else list_judged (Some u) at count x)
    by_test true q ends h =
        let z = judge e s in
        let c_z = kept_completes s.structures z.scope.structures (grows e s).structures in
        zero_well w static s u z (object_kept w s.structures z.scope.structures u c_z k object)
        (well w e s fit ends h) q
    by_test false q ends h =
        list_by w static s u at count x (view s.structures u k)
        (object_kept w s.structures x.scope.structures u c k object) c
        (λ room. given ends (nil_left x.faults _ h) room) h

-- ---- items

more_items : (w : World) (static : Bool) (s : Scope) (u : CType) (n : ℕ) (x : Judged t.Initializer)
    (y : Judged t.Initializers) → is_complete x.scope.structures u.base ≡ true
    → Completes x.scope.structures y.scope.structures → IsInitialized w static s u x
    → AreInitialized w static x.scope (Elements u) n y
    → AreInitialized w static s (Elements u) (n + 1) (items_judged x y)
more_items w static s u n x y k c ix iy =
    let e = layout_kept x.scope.structures y.scope.structures u c k in
    record {
      value = t.initializers ix.value iy.value;
      is = lift2_some t.initializers x.value y.value ix.value iy.value ix.is iy.is;
      sound = (subst (λ l. IsInitializer ix.value l w.scope) e ix.sound, iy.sound);
      count = ap (λ n. n + 1) iy.count;
      made = made_two s x.scope y.scope _ _ ix.made iy.made;
      fits = iy.fits;
      values = λ r.
          let a = ix.values r in
          let b = iy.values r in
          let sc = scalars (layout_of y.scope.structures u) in
          let one : n + 1 ≡ suc n = omega arith in (
            b.0 ∙ a.0,
            subst (λ k. AreInRange (repeated k sc) (values_of ix.value ++ values_of_items iy.value)) (sym one)
                (within_append sc (repeated n sc) (values_of ix.value) (values_of_items iy.value)
                (subst (λ l. AreInRange (scalars l) (values_of ix.value)) e a.1) b.1),
          );
    }

more_members : (w : World) (static : Bool) (s : Scope) (u : CType) (n : ℕ) (m : Member) (ms : List Member)
    (x : Judged t.Initializer) (y : Judged t.Initializers)
    → m.layout ≡ layout_of y.scope.structures u
    → is_complete x.scope.structures u.base ≡ true → Completes x.scope.structures y.scope.structures
    → IsInitialized w static s u x → AreInitialized w static x.scope (Members ms) n y
    → AreInitialized w static s (Members (m ∷ ms)) (n + 1) (items_judged x y)
more_members w static s u n m ms x y same k c ix iy =
    let e = layout_kept x.scope.structures y.scope.structures u c k ∙ sym same in
    record {
      value = t.initializers ix.value iy.value;
      is = lift2_some t.initializers x.value y.value ix.value iy.value ix.is iy.is;
      sound = (subst (λ l. IsInitializer ix.value l w.scope) e ix.sound, iy.sound);
      count = ap (λ n. n + 1) iy.count;
      made = made_two s x.scope y.scope _ _ ix.made iy.made;
      fits = iy.fits;
      values = λ r.
          let a = ix.values r in
          let b = iy.values r in
          let one : n + 1 ≡ suc n = omega arith in (
            b.0 ∙ a.0,
            subst (λ k. AreInRange (scalars_all (layouts_of (take k (m ∷ ms)))) (values_of ix.value ++ values_of_items iy.value)) (sym one)
                (within_append (scalars m.layout) (scalars_all (layouts_of (take n ms))) (values_of ix.value) (values_of_items iy.value)
                (subst (λ l. AreInRange (scalars l) (values_of ix.value)) e a.1) b.1),
          );
    }

no_items : (w : World) (static : Bool) (parts : Parts) (s : Scope) → Fits w s → ArePartsKnown s.structures parts
    → AreInitialized w static s parts 0 (judged [] (Some t.no_initializers) s)
no_items w static (Elements u) s fit k = record {
  value = t.no_initializers;
  is = refl;
  sound = tt;
  count = refl;
  made = made_none s;
  fits = fit;
  values = λ r. (refl, tt);
}
no_items w static (Members ms) s fit k = record {
  value = t.no_initializers;
  is = refl;
  sound = tt;
  count = refl;
  made = made_none s;
  fits = fit;
  values = λ r. (refl, tt);
}
no_items w static NoParts s fit k = absurd k

mutual
  pub initializer_well : (w : World) (static : Bool) (u : CType) (i : Initializer) (s : Scope)
      → Fits w s → is_complete s.structures u.base ≡ true
      → IsTypeIn w.structures (layout_of s.structures u)
      → Ends w (judge_initializer static (Some u) i s).scope
      → (judge_initializer static (Some u) i s).faults ≡ []
      → IsInitialized w static s u (judge_initializer static (Some u) i s)
  initializer_well w static u (tree.Single e) s fit k object ends h =
      let x = judge e s in
      let wx = well w e s fit ends (nil_left x.faults _ h) in
      let c = kept_completes s.structures x.scope.structures (grows e s).structures in
      let more = complete_kept s.structures x.scope.structures u.base c k in
      single_by w static s u (span_of e).start x (view x.scope.structures u more)
      (object_kept w s.structures x.scope.structures u c k object) wx h
  initializer_well w static u (tree.Braced items span) s fit k object ends h =
      let parts = parts_of (target_of s.structures (Some u)) in
      let x = judge_items static parts items s in
      braced_well w static s u span.start (item_count items) (only_expression items) x fit k object
      (kept_completes s.structures x.scope.structures (items_grow static parts items s).structures)
      (λ ends_x none room. items_well w static parts items s fit
      (parts_by w s.structures u fit.structures k (view s.structures u k))
      (parts_in w s.structures u fit.structures object (view s.structures u k)) room ends_x none)
      ends h

  pub items_well : (w : World) (static : Bool) (parts : Parts) (items : Initializers) (s : Scope)
      → Fits w s → ArePartsKnown s.structures parts → ArePartsIn w s.structures parts
      → HasRoom parts (item_count items)
      → Ends w (judge_items static parts items s).scope → (judge_items static parts items s).faults ≡ []
      → AreInitialized w static s parts (item_count items) (judge_items static parts items s)
  items_well w static parts tree.no_initializers s fit k p room ends h = no_items w static parts s fit k
  items_well w static (Elements u) (tree.initializers one rest) s fit k p room ends h =
      let x = judge_initializer static (Some u) one s in
      let y = judge_items static (Elements u) rest x.scope in
      let g = items_grow static (Elements u) rest x.scope in
      let c = kept_completes s.structures x.scope.structures (initializer_grows static (Some u) one s).structures in
      let more = complete_kept s.structures x.scope.structures u.base c k in
      let ix = initializer_well w static u one s fit k p (ends_back w x.scope y.scope g ends) (nil_left x.faults _ h) in
      let later = nil_left y.faults [] (nil_right x.faults _ h) in
      more_items w static s u (item_count rest) x y more
      (kept_completes x.scope.structures y.scope.structures g.structures) ix
      (items_well w static (Elements u) rest x.scope ix.fits more
      (object_kept w s.structures x.scope.structures u c k p) tt ends later)
  items_well w static (Members []) (tree.initializers one rest) s fit k p room ends h =
      absurd (omega (arith, room))
  items_well w static (Members (m ∷ ms)) (tree.initializers one rest) s fit k p room ends h =
      let x = judge_initializer static m.member_type one s in
      let y = judge_items static (Members ms) rest x.scope in
      let g = items_grow static (Members ms) rest x.scope in
      let g_x = initializer_grows static m.member_type one s in
      let u = k.0.0 in
      let c_x = kept_completes s.structures x.scope.structures g_x.structures in
      let c = kept_completes x.scope.structures y.scope.structures g.structures in
      let more = complete_kept s.structures x.scope.structures u.base c_x k.0.3 in
      let ends_x = ends_back w x.scope y.scope g ends in
      let ix = subst (λ o. Ends w (judge_initializer static o one s).scope
      → (judge_initializer static o one s).faults ≡ []
      → IsInitialized w static s u (judge_initializer static o one s)) (sym k.0.1)
      (λ e none. initializer_well w static u one s fit k.0.3
      (subst (IsTypeIn w.structures) k.0.2 p.0) e none) ends_x (nil_left x.faults _ h) in
      let later = nil_left y.faults [] (nil_right x.faults _ h) in
      let same : m.layout ≡ layout_of y.scope.structures u =
      k.0.2 ∙ layout_kept s.structures x.scope.structures u c_x k.0.3
      ∙ layout_kept x.scope.structures y.scope.structures u c more in
      more_members w static s u (item_count rest) m ms x y same more c ix
      (items_well w static (Members ms) rest x.scope ix.fits
      (members_kept s.structures x.scope.structures ms c_x k.1) p.1 (omega (arith, room)) ends later)
  items_well w static NoParts (tree.initializers one rest) s fit k p room ends h = absurd k
