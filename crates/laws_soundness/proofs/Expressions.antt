-- Each node of an expression, but for calls: what is found of it is well where its parts are and it
-- has no fault of its own.
use Rattle.std.proofs.Common.{◌≡◌, ℕ, suc, ◌+◌, ℤ, Bool, true, false, not, ◌||◌, if◌then◌else◌, List, [], ◌∷◌, ◌++◌, map, slice_get, Option, Some, None, option_map, option_and_then, is_none, refl, ap, sym, ◌∙◌, subst, arith, bytes_eq}
use Rattle.std.proofs.lemmas.Bool.{and_parts}
use Rattle.std.proofs.lemmas.List.{length-map}
use Rattle.mc_span.specs.declared.span.Span.{Span}
use Rattle.mc_tree.specs.declared.expressions.unary_operator.UnaryOperator.{UnaryOperator}
use Rattle.mc_tree.specs.declared.expressions.unary_operator.UnaryOperator.TheVariants as unary
use Rattle.mc_tree.specs.declared.expressions.binary_operator.BinaryOperator.{BinaryOperator}
use Rattle.mc_tree.specs.declared.expressions.binary_operator.BinaryOperator.TheVariants as binary
use Rattle.mc_tree.specs.Tree.{Name}
use Rattle.mc_value.specs.declared.int_type.IntType.{IntType}
use Rattle.mc_value.specs.declared.int_type.IntType.TheVariants as the
use Rattle.mc_value.specs.declared.operators.BinOp.{BinOp}
use Rattle.mc_value.specs.declared.operators.BinOp.TheVariants as op
use Rattle.mc_value.specs.declared.operators.ShiftOp.{ShiftOp}
use Rattle.mc_value.specs.declared.operators.ShiftOp.TheVariants as shift
use Rattle.mc_value.specs.declared.operators.UnOp.{UnOp}
use Rattle.mc_value.specs.declared.operators.UnOp.TheVariants as un
use Rattle.mc_value.specs.IntTypes.{least_of, greatest_of, InRange, in_range}
use Rattle.mc_value.specs.Conversions.{promoted}
use Rattle.mc_value.proofs.Wrapping.{le_yes}
use Rattle.mc_typed.specs.declared.operators.Operator.TheVariants.{Shift}
use Rattle.mc_typed.specs.declared.expressions.Slot.{Slot}
use Rattle.mc_typed.specs.Layout.{ObjectType, Array, cells, members_from, member, start}
use Rattle.mc_typed.specs.Layout as layout
use Rattle.mc_typed.specs.Tree.{Place, Expression, Effect}
use Rattle.mc_typed.specs.Tree as t
use Rattle.mc_typed.specs.Frames.{slots}
use Rattle.mc_typed.specs.Sound.{type_of, place_type, structure_type, IsPlace, IsExpression, IsEffect, IsUnary, HasOperands, Updates, Converts, compares}
use Rattle.mc_typed.specs.Sound as sound
use Rattle.types_faults.specs.declared.fault.FaultKind.TheVariants.{Mismatch, Undeclared}
use Rattle.types_faults.specs.Faults.{fault_if}
use Rattle.types_rules.specs.Profile.{counted}
use Rattle.types_rules.specs.Types.{Base, Void, Integer, Tagged, CType, Member, Structure, Complete, members_of, is_complete, layout_of_base, arrays_of, layout_of, cells_of}
use Rattle.types_rules.specs.Scopes.{Meaning, Automatic, Constant, Function, Typedef, Scope, meaning_of, later_or}
use Rattle.types_rules.specs.Scopes as scope
use Rattle.types_rules.specs.Values.{Value, Number, Stored, Borrowed, Returned, Done, Assigned, Designator, IsStructure, kind_of_base, kind_of_object, kind_of, Found, kind_found, is_integer, is_array, is_structure, fails, number_found}
use Rattle.types_rules.specs.Constants.{first_holding}
use Rattle.types_rules.specs.Expressions.{convert_to, promote, common_type, is_object, is_enumerator, name_faults, value_of_name, literal, index_faults, stored_element, element_of, index_found, Selected, selected, undeclared_member, member_faults, member_type, layouts_of, member_at, stored_member, member_of, member_found, promoting, typed_unary, is_arithmetic, unary_faults, unary_found, in_common_type, shifting, typed_binary, operands_faults, binary_found}
use Rattle.laws_soundness.specs.Fits.{World, IsTypeIn, Completes, MemberFits, MembersFit, ListFits, StructuresFit, Fits, IsSoundValue, slots_of, Designates, IsWell}
use Rattle.laws_soundness.proofs.Tests.{nil_left, nil_right, no_fault, or_left, or_right, not_false, and_left, and_right, false_true, and_then_some, lift2_some}
use Rattle.laws_soundness.proofs.IntTypes.{promoted_twice, common_stays}
use Rattle.laws_soundness.proofs.Sizes.{counted_small, counted_cells, cells_exact, element_in, list_types, member_in, start_within, member_below}
use Rattle.laws_soundness.proofs.Fitting.{complete_at, name_fits, made_none, made_as, made_two}
use Rattle.laws_soundness.proofs.Values.{converts, IsPlain, plain_layout, value_kept, known_kind, finds_number}

-- ---- names and constants

abbrev named_found : Name → Option Meaning → Scope → Found
named_found name m s = record {
  faults = name_faults m name.span.start;
  value = option_and_then (value_of_name name.span) m;
  place = is_object m;
  constant = is_enumerator m;
  scope = s;
}

pub name_well : (w : World) (s : Scope) (name : Name) (m : Option Meaning) → Fits w s
    → meaning_of name s ≡ m → name_faults m name.span.start ≡ [] → IsWell w s (named_found name m s)
name_well w s name None fit e h = absurd (cc)
name_well w s name (Some (Automatic slot (Some u))) fit e h =
    let f = name_fits w s.structures name.text s.names (Automatic slot (Some u)) fit.names e in
    record {
      value = Stored (t.Local slot name.span) u;
      is = refl;
      sound = (f.0.0, f.0.1, f.1, f.2);
      made = made_none s;
      fits = fit;
      place = λ q. tt;
      constant = λ q. false_true q;
    }
name_well w s name (Some (Automatic slot None)) fit e h =
    absurd (name_fits w s.structures name.text s.names (Automatic slot None) fit.names e)
name_well w s name (Some (scope.Stored slot (Some u))) fit e h =
    let f = name_fits w s.structures name.text s.names (scope.Stored slot (Some u)) fit.names e in
    record {
      value = Stored (t.Static slot name.span) u;
      is = refl;
      sound = (f.0.0, f.0.1, f.1, f.2);
      made = made_none s;
      fits = fit;
      place = λ q. tt;
      constant = λ q. false_true q;
    }
name_well w s name (Some (scope.Stored slot None)) fit e h =
    absurd (name_fits w s.structures name.text s.names (scope.Stored slot None) fit.names e)
name_well w s name (Some (scope.Borrowed array u)) fit e h =
    let f = name_fits w s.structures name.text s.names (scope.Borrowed array u) fit.names e in
    record {
      value = Borrowed array u name.span;
      is = refl;
      sound = f;
      made = made_none s;
      fits = fit;
      place = λ q. tt;
      constant = λ q. false_true q;
    }
name_well w s name (Some (Constant (Some v))) fit e h =
    let f = name_fits w s.structures name.text s.names (Constant (Some v)) fit.names e in
    record {
      value = Number (t.Constant v the.Int name.span);
      is = refl;
      sound = f;
      made = made_none s;
      fits = fit;
      place = λ q. false_true q;
      constant = λ q. (refl, refl);
    }
name_well w s name (Some (Constant None)) fit e h =
    absurd (name_fits w s.structures name.text s.names (Constant None) fit.names e)
name_well w s name (Some (Function f b)) fit e h = record {
  value = Designator;
  is = refl;
  sound = tt;
  made = made_none s;
  fits = fit;
  place = λ q. false_true q;
  constant = λ q. false_true q;
}
name_well w s name (Some (Typedef u)) fit e h = absurd (cc)

pub in_range_is : (a : IntType) (v : ℤ) → in_range a v ≡ true → InRange a v
in_range_is a v e =
    let p = and_parts _ _ e in
    record { least = le_yes (least_of a) v p.0; greatest = le_yes v (greatest_of a) p.1 }

pub literal_well : (w : World) (s : Scope) (v : ℤ) (a : Option IntType) (span : Span) → Fits w s
    → ((b : IntType) → a ≡ Some b → InRange b v)
    → fault_if (is_none a) Mismatch span.start ≡ [] → IsWell w s (literal v a span s)
literal_well w s v None span fit holds h = absurd (cc)
literal_well w s v (Some a) span fit holds h = record {
  value = Number (t.Constant v a span);
  is = refl;
  sound = holds a refl;
  made = made_none s;
  fits = fit;
  place = λ q. false_true q;
  constant = λ q. (refl, refl);
}

pub first_holds : (v : ℤ) (l : List IntType) (b : IntType) → first_holding v l ≡ Some b → InRange b v
first_holds v [] b h = absurd (cc)
first_holds v (a ∷ rest) b h = by_test (in_range a v) refl h (λ q. first_holds v rest b q)
  where
    by_test : (x : Bool) → in_range a v ≡ x
        → (if x then Some a else first_holding v rest) ≡ Some b
        → (first_holding v rest ≡ Some b → InRange b v) → InRange b v
    by_test true q h below =
        let same : a ≡ b = cc in subst (λ c. InRange c v) same (in_range_is a v q)
    by_test false q h below = below h

-- ---- elements

record IsIndexed (w : World) (all : List Structure) (span : Span) (v : Value) (e : Expression) : Type 0 where
  value : Value
  is : element_of all span v e ≡ Some value
  sound : IsSoundValue w all value
  slots : slots_of value ≡ slots_of v ++ slots e
  designates : Designates value

pub array_object : (u : CType) (ls : List ℕ) → is_array (kind_of_object u ls) ≡ true
    → (n : ℕ) × (ns : List ℕ) × (ls ≡ n ∷ ns)
array_object u [] h = absurd (by_base u.base h)
  where
    by_base : (b : Base) → is_array (kind_of_base b) ≡ true → ⊥
    by_base Void h = cc
    by_base (Integer a) h = cc
    by_base (Tagged k) h = cc
array_object u (n ∷ ns) h = (n, ns, refl)

abbrev with_lengths : CType → List ℕ → CType
with_lengths u ns = record u { lengths = ns }

pub array_layout : (all : List Structure) (u : CType) (n : ℕ) (ns : List ℕ) → u.lengths ≡ n ∷ ns
    → layout_of all u ≡ Array n (layout_of all (record u { lengths = ns }))
array_layout all u n ns e = ap (λ l. arrays_of l (layout_of_base all u.base)) e

indexes : (w : World) (all : List Structure) (span : Span) (v : Value) (e : Expression)
    → is_array (kind_of v) ≡ true → IsSoundValue w all v → IsExpression e w.scope
    → IsIndexed w all span v e
indexes w all span (Stored place u) e k h i =
    let p = array_object u u.lengths k in
    let element = layout_of all (with_lengths u p.1) in
    let shape : place_type w.scope place ≡ Some (Array p.0 element) =
    h.1 ∙ ap Some (array_layout all u p.0 p.1 p.2) in
    let t_in = element_in w.structures p.0 element
    (subst (IsTypeIn w.structures) (array_layout all u p.0 p.1 p.2) h.3) in
    let exact = cells_exact w.structures element t_in in
    record {
      value = Stored (t.Item place p.0 (cells_of all (with_lengths u p.1)) e span)
          (with_lengths u p.1);
      is = ap (λ l. stored_element all place u l e span) p.2;
      sound = (
        (
          h.0,
          ap sound.length_of shape,
          ap (λ o. option_map cells (sound.element_of o)) shape ∙ ap Some (sym exact),
          i,
        ),
        ap sound.element_of shape,
        h.2,
        t_in,
      );
      slots = refl;
      designates = tt;
    }
indexes w all span (Borrowed array u name) e k h i = record {
  value = Stored (t.Parameter array (cells_of all u) e span) u;
  is = refl;
  sound = (
    (
      ap (option_map cells) h.0 ∙ ap Some (sym (cells_exact w.structures (layout_of all u) h.2)),
      i,
    ),
    h.0,
    h.1,
    h.2,
  );
  slots = refl;
  designates = tt;
}
indexes w all span (Number x) e k h i = absurd (cc)
indexes w all span (Returned c n) e k h i = absurd (cc)
indexes w all span (Done effect) e k h i = absurd (cc)
indexes w all span (Assigned effect) e k h i = absurd (cc)
indexes w all span Designator e k h i = absurd (cc)

pub index_well : (w : World) (s : Scope) (span : Span) (x y : Found) → IsWell w s x
    → IsWell w x.scope y → Completes x.scope.structures y.scope.structures
    → index_faults span.start x.place (kind_found x) (kind_found y) ≡ []
    → IsWell w s (index_found span x y)
index_well w s span x y wx wy c h =
    let b = no_fault _ Mismatch span.start h in
    let left = or_left (not x.place || fails is_array (kind_found x)) _ b in
    let n = finds_number w x.scope y wy (or_right _ (fails is_integer (kind_found y)) b) in
    let k = known_kind is_array x.value wx.value wx.is (or_right (not x.place) _ left) in
    let all = y.scope.structures in
    let i = indexes w all span wx.value n.number k
    (value_kept w x.scope.structures all wx.value c wx.sound) n.sound in
    record {
      value = i.value;
      is = and_then_some _ x.value wx.value wx.is ∙ and_then_some _ (number_found y) n.number n.is ∙ i.is;
      sound = i.sound;
      made = made_as s y.scope _ _ (ap (λ l. slots_of wx.value ++ l) (sym n.slots) ∙ sym i.slots)
          (made_two s x.scope y.scope _ _ wx.made wy.made);
      fits = wy.fits;
      place = λ q. i.designates;
      constant = λ q. false_true q;
    }

-- ---- members

record IsSelected (all : List Structure) (k : ℕ) (ms : List Member) (one : Selected) : Type 0 where
  place : ℕ
  number : one.number ≡ k + place
  layout : member (layouts_of ms) place ≡ Some one.member.layout
  fits : MemberFits all one.member

selects : (all : List Structure) (k : ℕ) (name : List ℕ) (ms : List Member) (one : Selected)
    → MembersFit all ms → selected k name ms ≡ Some one → IsSelected all k ms one
selects all k name [] one fit h = absurd (cc)
selects all k name (m ∷ ms) one fit h =
    by_rest (selected (k + 1) name ms) refl h (λ q. selects all (k + 1) name ms one fit.1 q)
  where
    later : IsSelected all (k + 1) ms one → IsSelected all k (m ∷ ms) one
    later r =
        let e : k + 1 + r.place ≡ k + suc r.place = omega arith in
        record { place = suc r.place; number = r.number ∙ e; layout = r.layout; fits = r.fits }

    by_test : (b : Bool) → (if b then Some (record { number = k; member = m }) else None) ≡ Some one
        → IsSelected all k (m ∷ ms) one
    by_test true q =
        let same : record { number = k; member = m } ≡ one = cc in
        let here : k ≡ k + 0 = omega arith in
        subst (λ x. IsSelected all k (m ∷ ms) x) same
        (record { place = 0; number = here; layout = refl; fits = fit.0 })
    by_test false q = absurd (cc)

    by_rest : (o : Option Selected) → selected (k + 1) name ms ≡ o
        → later_or o (if bytes_eq m.name name then Some (record { number = k; member = m }) else None) ≡ Some one
        → (selected (k + 1) name ms ≡ Some one → IsSelected all (k + 1) ms one)
        → IsSelected all k (m ∷ ms) one
    by_rest (Some x) e q below = let same : x ≡ one = cc in later (below (e ∙ ap Some same))
    by_rest None e q below = by_test (bytes_eq m.name name) q

there_is : {A : Type 0} (o : Option A) → is_none o ≡ false → (a : A) × (o ≡ Some a)
there_is None h = absurd (cc)
there_is (Some a) h = (a, refl)

record IsMemberOf (w : World) (all : List Structure) (name : Name) (span : Span) (v : Value) : Type 0 where
  value : Value
  is : member_of all name span v ≡ Some value
  sound : IsSoundValue w all value
  slots : slots_of value ≡ slots_of v
  designates : Designates value

number_exact : (w : World) (all : List Structure) (ms : List Member) (i : ℕ) (u : ObjectType)
    → ListFits w all ms → member (layouts_of ms) i ≡ Some u → counted i ≡ i
number_exact w all ms i u list there =
    let count = length-map ms (λ (m : Member). m.layout) in
    let below = member_below (map (λ m. m.layout) ms) i u there in
    let few = list.few in
    counted_small i (omega (arith, count, below, few))

start_exact : (w : World) (all : List Structure) (ms : List Member) (i : ℕ) → ListFits w all ms
    → counted (start (layouts_of ms) i) ≡ start (layouts_of ms) i
start_exact w all ms i list =
    let within = start_within (map (λ m. m.layout) ms) i in
    let small = list.small in
    counted_cells (start (layouts_of ms) i) (omega (arith, within, small))

member_stands : (w : World) (all : List Structure) (name : Name) (span : Span) (place : Place)
    (u : CType) (k : ℕ) (ms : List Member) (one : Selected) → slice_get all k ≡ Some (Complete ms)
    → IsPlain u (Tagged k) → ListFits w all ms → selected 0 name.text ms ≡ Some one
    → IsSoundValue w all (Stored place u) → IsMemberOf w all name span (Stored place u)
member_stands w all name span place u k ms one e p fit q h =
    let r = selects all 0 name.text ms one fit.types q in
    let m = r.fits in
    let number : one.number ≡ r.place = r.number ∙ zero_plus r.place in
    let shaped : member (layouts_of ms) one.number ≡ Some (layout_of all m.0) =
    ap (member (layouts_of ms)) number ∙ r.layout ∙ ap Some m.2 in
    let shape : place_type w.scope place ≡ Some (layout.Structure (counted k) (layouts_of ms)) =
    h.1 ∙ ap Some (plain_layout all u (Tagged k) p
    ∙ ap (λ o. layout.Structure (counted k) (layouts_of (members_of o))) e) in
    let i = one.number in
    let us = map (λ m. m.layout) ms in
    let n_exact = number_exact w all ms i (layout_of all m.0) fit shaped in
    let s_exact = start_exact w all ms i fit in
    let target = t.Member place (counted i) (counted (start (layouts_of ms) i)) span in
    record {
      value = Stored target (member_type u.is_const m.0);
      is = ap (λ l. stored_member all name span place u l u.base) p.lengths
          ∙ ap (stored_member all name span place u []) p.base
          ∙ ap (λ o. option_and_then (member_at (members_of o) place u.is_const span)
          (selected 0 name.text (members_of o))) e
          ∙ ap (option_and_then (member_at ms place u.is_const span)) q
          ∙ ap (option_map (λ v. Stored target (member_type u.is_const v))) m.1;
      sound = (
        (
          h.0,
          ap (sound.offset_of (place_type w.scope place)) n_exact
              ∙ ap (λ o. sound.offset_of o i) shape
              ∙ ap (option_map (λ v. start (layouts_of ms) i)) shaped ∙ ap Some (sym s_exact),
        ),
        ap (sound.member_of (place_type w.scope place)) n_exact
            ∙ ap (λ o. sound.member_of o i) shape ∙ shaped,
        m.3,
        member_in w.structures us i (layout_of all m.0) (list_types w all ms fit) shaped,
      );
      slots = refl;
      designates = tt;
    }
  where
    zero_plus : (n : ℕ) → 0 + n ≡ n
    zero_plus n = omega arith

structure_plain : (u : CType) (b : Base) (ls : List ℕ) → u.base ≡ b → u.lengths ≡ ls
    → is_structure (kind_of_object u ls) ≡ true
    → (k : ℕ) × (IsPlain u (Tagged k)) × (kind_of_object u u.lengths ≡ IsStructure k)
structure_plain u (Tagged k) [] p q h =
    (k, record { base = p; lengths = q }, ap (kind_of_object u) q ∙ ap kind_of_base p)
structure_plain u Void [] p q h = absurd (by_kind (ap (λ b. is_structure (kind_of_base b)) p))
  where
    by_kind : is_structure (kind_of_base u.base) ≡ false → ⊥
    by_kind e = cc
structure_plain u (Integer a) [] p q h = absurd (by_kind (ap (λ b. is_structure (kind_of_base b)) p))
  where
    by_kind : is_structure (kind_of_base u.base) ≡ false → ⊥
    by_kind e = cc
structure_plain u b (n ∷ ns) p q h = absurd (cc)

takes_member : (w : World) (all : List Structure) (name : Name) (span : Span) (v : Value)
    → StructuresFit w all → Designates v → is_structure (kind_of v) ≡ true
    → undeclared_member all name (Some (kind_of v)) ≡ false → IsSoundValue w all v
    → IsMemberOf w all name span v
takes_member w all name span (Stored place u) fit d k q h =
    let p = structure_plain u u.base u.lengths refl refl k in
    let complete = subst (λ b. is_complete all b ≡ true) p.1.base h.2 in
    let c = complete_at (slice_get all p.0) complete in
    let known : is_none (selected 0 name.text (members_of (slice_get all p.0))) ≡ false =
    sym (ap (λ k. undeclared_member all name (Some k)) p.2) ∙ q in
    let one = there_is (selected 0 name.text c.0)
    (sym (ap (λ o. is_none (selected 0 name.text (members_of o))) c.1) ∙ known) in
    member_stands w all name span place u p.0 c.0 one.0 c.1 p.1 (fit p.0 (Complete c.0) c.1) one.1 h
takes_member w all name span (Number e) fit d k q h = absurd (cc)
takes_member w all name span (Borrowed array u name2) fit d k q h = absurd (cc)
takes_member w all name span (Returned c n) fit d k q h = absurd d
takes_member w all name span (Done effect) fit d k q h = absurd (cc)
takes_member w all name span (Assigned effect) fit d k q h = absurd (cc)
takes_member w all name span Designator fit d k q h = absurd (cc)

pub member_well : (w : World) (s : Scope) (name : Name) (span : Span) (x : Found) → IsWell w s x
    → member_faults span.start name x.scope.structures x.place (kind_found x) ≡ []
    → IsWell w s (member_found name span x)
member_well w s name span x wx h =
    let all = x.scope.structures in
    let first = no_fault _ Mismatch span.start (nil_left _ _ h) in
    let second = no_fault _ Undeclared name.span.start
    (nil_right (fault_if (not x.place || fails is_structure (kind_found x)) Mismatch span.start) _ h) in
    let k = known_kind is_structure x.value wx.value wx.is (or_right (not x.place) _ first) in
    let d = wx.place (not_false x.place (or_left (not x.place) _ first)) in
    let q = subst (λ o. undeclared_member all name (option_map kind_of o) ≡ false) wx.is second in
    let m = takes_member w all name span wx.value wx.fits.structures d k q wx.sound in
    record {
      value = m.value;
      is = and_then_some _ x.value wx.value wx.is ∙ m.is;
      sound = m.sound;
      made = made_as s x.scope _ _ (sym m.slots) wx.made;
      fits = wx.fits;
      place = λ q. m.designates;
      constant = λ q. false_true q;
    }

-- ---- promotions

pub record IsPromoted (c : sound.Scope) (e f : Expression) : Type 0 where
  pub sound : IsExpression f c
  pub type : type_of f ≡ promoted (type_of e)
  pub stays : promoted (type_of f) ≡ type_of f
  pub slots : slots f ≡ slots e

pub promotes : (c : sound.Scope) (e : Expression) → IsExpression e c → IsPromoted c e (promote e)
promotes c e h =
    let p = converts c (promoted (type_of e)) e h in
    record {
      sound = p.sound;
      type = p.type;
      stays = ap promoted p.type ∙ promoted_twice (type_of e) ∙ sym p.type;
      slots = p.slots;
    }

-- ---- unary operators

record IsMade (c : sound.Scope) (o : Option Expression) (l : List Slot) : Type 0 where
  number : Expression
  is : o ≡ Some number
  sound : IsExpression number c
  slots : slots number ≡ l

promoting_made : (c : sound.Scope) (operator : UnOp) (span : Span) (e : Expression) → IsUnary operator
    → IsExpression e c → IsMade c (Some (promoting operator span e)) (slots e)
promoting_made c operator span e u h =
    let p = promotes c e h in
    record {
      number = promoting operator span e;
      is = refl;
      sound = (u, p.stays, p.sound, refl);
      slots = p.slots;
    }

unary_made : (c : sound.Scope) (operator : UnaryOperator) (span : Span) (e : Expression)
    → is_arithmetic operator ≡ true → IsExpression e c
    → IsMade c (typed_unary operator span e) (slots e)
unary_made c unary.Plus span e k h = promoting_made c un.Plus span e tt h
unary_made c unary.Minus span e k h = promoting_made c un.Minus span e tt h
unary_made c unary.Complement span e k h = promoting_made c un.Flip span e tt h
unary_made c unary.Not span e k h =
    record { number = t.Not e span; is = refl; sound = h; slots = refl }
unary_made c unary.Dereference span e k h = absurd (cc)
unary_made c unary.Address span e k h = absurd (cc)

pub unary_well : (w : World) (s : Scope) (operator : UnaryOperator) (span : Span) (x : Found)
    → IsWell w s x → unary_faults operator span.start (kind_found x) ≡ []
    → IsWell w s (unary_found operator span x)
unary_well w s operator span x wx h =
    let b = no_fault _ Mismatch span.start h in
    let n = finds_number w s x wx (or_right _ _ b) in
    let m = unary_made w.scope operator span n.number
    (not_false (is_arithmetic operator) (or_left _ _ b)) n.sound in
    record {
      value = Number m.number;
      is = ap (option_map Number) (and_then_some _ (number_found x) n.number n.is ∙ m.is);
      sound = m.sound;
      made = made_as s x.scope _ _ (sym (m.slots ∙ n.slots)) wx.made;
      fits = wx.fits;
      place = λ q. false_true q;
      constant = λ q. ((wx.constant (and_right (is_arithmetic operator) x.constant q)).0, refl);
    }

-- ---- binary operators

in_common_type_made : (c : sound.Scope) (operator : BinOp) (span : Span) (e f : Expression)
    → IsExpression e c → IsExpression f c
    → IsExpression (in_common_type operator span e f) c
    × (slots (in_common_type operator span e f) ≡ slots e ++ slots f)
in_common_type_made c operator span e f h k =
    let a = common_type e f in
    let p = converts c a e h in
    let q = converts c a f k in
    let stays = common_stays (type_of e) (type_of f) in (
      (p.sound, q.sound, (stays.0, p.type, q.type)),
      ap (λ l. l ++ slots (convert_to a f)) p.slots ∙ ap (λ l. slots e ++ l) q.slots,
    )

shifting_made : (c : sound.Scope) (operator : ShiftOp) (span : Span) (e f : Expression)
    → IsExpression e c → IsExpression f c
    → IsExpression (shifting (Shift operator) span e f) c
    × (slots (shifting (Shift operator) span e f) ≡ slots e ++ slots f)
shifting_made c operator span e f h k =
    let p = promotes c e h in
    let q = promotes c f k in (
      (p.sound, q.sound, (p.stays, refl, q.stays)),
      ap (λ l. l ++ slots (promote f)) p.slots ∙ ap (λ l. slots e ++ l) q.slots,
    )

binary_made : (c : sound.Scope) (operator : BinaryOperator) (span : Span) (e f : Expression)
    → IsExpression e c → IsExpression f c
    → IsExpression (typed_binary operator span e f) c
    × (slots (typed_binary operator span e f) ≡ slots e ++ slots f)
binary_made c binary.Multiply span e f h k = in_common_type_made c op.Mul span e f h k
binary_made c binary.Divide span e f h k = in_common_type_made c op.Div span e f h k
binary_made c binary.Remainder span e f h k = in_common_type_made c op.Rem span e f h k
binary_made c binary.Add span e f h k = in_common_type_made c op.Add span e f h k
binary_made c binary.Subtract span e f h k = in_common_type_made c op.Sub span e f h k
binary_made c binary.ShiftLeft span e f h k = shifting_made c shift.Left span e f h k
binary_made c binary.ShiftRight span e f h k = shifting_made c shift.Right span e f h k
binary_made c binary.Less span e f h k = in_common_type_made c op.Lt span e f h k
binary_made c binary.Greater span e f h k = in_common_type_made c op.Gt span e f h k
binary_made c binary.LessOrEqual span e f h k = in_common_type_made c op.Le span e f h k
binary_made c binary.GreaterOrEqual span e f h k = in_common_type_made c op.Ge span e f h k
binary_made c binary.Equal span e f h k = in_common_type_made c op.Eq span e f h k
binary_made c binary.Unequal span e f h k = in_common_type_made c op.Ne span e f h k
binary_made c binary.BitAnd span e f h k = in_common_type_made c op.And span e f h k
binary_made c binary.BitXor span e f h k = in_common_type_made c op.Xor span e f h k
binary_made c binary.BitOr span e f h k = in_common_type_made c op.Or span e f h k
binary_made c binary.And span e f h k = ((h, k), refl)
binary_made c binary.Or span e f h k = ((h, k), refl)

pub binary_well : (w : World) (s : Scope) (operator : BinaryOperator) (span : Span) (x y : Found)
    → IsWell w s x → IsWell w x.scope y
    → operands_faults span.start (kind_found x) (kind_found y) ≡ []
    → IsWell w s (binary_found operator span x y)
binary_well w s operator span x y wx wy h =
    let b = no_fault _ Mismatch span.start h in
    let m = finds_number w s x wx (or_left _ _ b) in
    let n = finds_number w x.scope y wy (or_right _ _ b) in
    let p = binary_made w.scope operator span m.number n.number m.sound n.sound in
    record {
      value = Number (typed_binary operator span m.number n.number);
      is = ap (option_map Number)
          (lift2_some (typed_binary operator span) (number_found x) (number_found y) m.number n.number m.is n.is);
      sound = p.0;
      made = made_as s y.scope _ _
          (sym (p.1 ∙ ap (λ l. l ++ slots n.number) m.slots ∙ ap (λ l. slots_of wx.value ++ l) n.slots))
          (made_two s x.scope y.scope _ _ wx.made wy.made);
      fits = wy.fits;
      place = λ q. false_true q;
      constant = λ q. ((wy.constant (and_right x.constant _ q)).0 ∙ (wx.constant (and_left x.constant _ q)).0, refl);
    }
