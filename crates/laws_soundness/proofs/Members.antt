-- Structures with a list: what is found of members, and of the whole, is well.
use Rattle.std.proofs.Common.{◌≡◌, ℕ, zero, suc, ◌+◌, ◌<◌, ◌≤◌, nat_lt, nat_le, Bool, true, false, ◌&&◌, if◌then◌else◌, List, [], ◌∷◌, ◌++◌, map, length, take, slice_get, slice_set, Option, Some, None, refl, ap, sym, ◌∙◌, subst, arith, inl, inr}
use Rattle.std.proofs.lemmas.List.{map-append, length-append}
use Rattle.mc_tree.specs.Tree.{Name, ArrayLengths}
use Rattle.mc_typed.specs.Layout.{ObjectType, cells, cells_all, nesting, nesting_all, members_from}
use Rattle.mc_typed.specs.Sound.{IsFormed, AreFormed}
use Rattle.types_faults.specs.declared.fault.FaultKind.TheVariants.{Mismatch, Limit, Redeclared}
use Rattle.types_faults.specs.Faults.{fault_if, unless_faulty}
use Rattle.mc_limits.specs.Limits.{most_nesting}
use Rattle.mc_value.specs.ObjectTypes.{most_cells}
use Rattle.types_rules.specs.Profile.{most_counted, most_lengths}
use Rattle.types_rules.specs.Types.{Base, Void, Integer, Tagged, CType, plain, Member, Structure, Incomplete, Complete, Faulty, is_complete, layout_of_base, arrays_of, layout_of}
use Rattle.types_rules.specs.Scopes.{TagMeaning, StructureTag, EnumerationTag, Scope, tag_here, with_tag, with_structure, with_structure_at}
use Rattle.types_rules.specs.Values.{Judged, lift3}
use Rattle.types_rules.specs.Limits.{is_long, is_large_member, is_passed_with, member_limit_faults}
use Rattle.types_rules.specs.Declarators.{Listed, Opened, opened, opened_tag, opened_again, completed, structure_judged, is_first_absent, is_later_absent, leading, array_of, declared_type, absent_faults, incomplete_faults, cells_of_members, with_member, has_member, member_listed}
use Rattle.laws_soundness.specs.Growth.{Kept}
use Rattle.laws_soundness.specs.Fits.{World, IsFull, AreFull, Completes, objects_of, ArePositive, MembersFit, ListFits, StructuresFit, Fits, AreTyped, AreLengths, AreListed}
use Rattle.laws_soundness.proofs.Lists.{get_next, get_set_other, is_or_not}
use Rattle.laws_soundness.proofs.Tests.{nil_left, nil_right, no_fault, or_left, or_right, not_false}
use Rattle.laws_soundness.proofs.Fitting.{members_kept, fits_tag, fits_structure, fits_structure_at, structure_type_fits}
use Rattle.laws_soundness.proofs.Types.{completes_more}

-- ---- types of declared objects and members

pub positive_append : (ms ns : List ℕ) → ArePositive ms → ArePositive ns → ArePositive (ms ++ ns)
positive_append [] ns h k = k
positive_append (m ∷ ms) ns h k = (h.0, positive_append ms ns h.1 k)

pub positive_take : (n : ℕ) (ns : List ℕ) → ArePositive ns → ArePositive (take n ns)
positive_take zero ns h = tt
positive_take (suc n) [] h = tt
positive_take (suc n) (m ∷ ns) h = (h.0, positive_take n ns h.1)

pub formed_arrays : (all : List ObjectType) (ns : List ℕ) (u : ObjectType) → ArePositive ns
    → IsFormed all u → IsFormed all (arrays_of ns u)
formed_arrays all [] u h f = f
formed_arrays all (n ∷ ns) u h f = (h.0, formed_arrays all ns u h.1 f)

pub formed_base : (w : World) (all : List Structure) (b : Base) → StructuresFit w all
    → Completes all w.structures → is_complete all b ≡ true
    → length w.structures ≤ most_counted → IsFormed (objects_of w) (layout_of_base all b)
formed_base w all Void fit c h few = absurd (cc)
formed_base w all (Integer a) fit c h few = tt
formed_base w all (Tagged k) fit c h few = (structure_type_fits w all k fit c h).formed few

pub formed_type : (w : World) (all : List Structure) (u : CType) → StructuresFit w all
    → Completes all w.structures → is_complete all u.base ≡ true → ArePositive u.lengths
    → length w.structures ≤ most_counted → IsFormed (objects_of w) (layout_of all u)
formed_type w all u fit c h p few =
    formed_arrays (objects_of w) u.lengths (layout_of_base all u.base) p
    (formed_base w all u.base fit c h few)

full_arrays : (ns : List ℕ) (u : ObjectType) → ArePositive ns → IsFull u → IsFull (arrays_of ns u)
full_arrays [] u h f = f
full_arrays (n ∷ ns) u h f = (h.0, full_arrays ns u h.1 f)

full_base : (w : World) (all : List Structure) (b : Base) → StructuresFit w all
    → Completes all w.structures → is_complete all b ≡ true → IsFull (layout_of_base all b)
full_base w all Void fit c h = absurd (cc)
full_base w all (Integer a) fit c h = tt
full_base w all (Tagged k) fit c h = (structure_type_fits w all k fit c h).full

pub full_type : (w : World) (all : List Structure) (u : CType) → StructuresFit w all
    → Completes all w.structures → is_complete all u.base ≡ true → ArePositive u.lengths
    → IsFull (layout_of all u)
full_type w all u fit c h p =
    full_arrays u.lengths (layout_of_base all u.base) p (full_base w all u.base fit c h)

-- ---- one more member

formed_append : (all : List ObjectType) (us : List ObjectType) (u : ObjectType)
    → AreFormed all (members_from us) → IsFormed all u → AreFormed all (members_from (us ++ (u ∷ [])))
formed_append all [] u h f = (f, tt)
formed_append all (v ∷ us) u h f = (h.0, formed_append all us u h.1 f)

full_append : (us : List ObjectType) (u : ObjectType) → AreFull (members_from us) → IsFull u
    → AreFull (members_from (us ++ (u ∷ [])))
full_append [] u h f = (f, tt)
full_append (v ∷ us) u h f = (h.0, full_append us u h.1 f)

cells_append : (us : List ObjectType) (u : ObjectType)
    → cells_all (members_from (us ++ (u ∷ []))) ≡ cells_all (members_from us) + cells u
cells_append [] u = omega arith
cells_append (v ∷ us) u = let below = cells_append us u in omega (arith, below)

nesting_append : (us : List ObjectType) (u : ObjectType) (n : ℕ)
    → nesting_all (members_from us) < n → nesting u < n
    → nesting_all (members_from (us ++ (u ∷ []))) < n
nesting_append [] u n h k = omega (arith, k)
nesting_append (v ∷ us) u n h k =
    let below : nesting_all (members_from (us ++ (u ∷ []))) < n =
    nesting_append us u n (omega (arith, h)) k in
    omega (arith, h, below)

members_append : (all : List Structure) (ms : List Member) (m : Member) → MembersFit all ms
    → MembersFit all (m ∷ []) → MembersFit all (ms ++ (m ∷ []))
members_append all [] m h k = k
members_append all (x ∷ ms) m h k = (h.0, members_append all ms m h.1 k)

pub fits_in : (most before more : ℕ) → before ≤ most → is_passed_with most before more ≡ false
    → before + more ≤ most
fits_in most before more h k = grind (arith, h, k)

flat_enough : (n : ℕ) → nat_lt most_nesting (n + 1) ≡ false → n < most_nesting
flat_enough n h = grind (arith, h)

counted_more : (n : ℕ) → nat_le most_counted n ≡ false → n + 1 ≤ most_counted
counted_more n h = grind (arith, h)

pub list_more : (w : World) (all : List Structure) (ms : List Member) (name : List ℕ) (u : CType)
    → StructuresFit w all → Completes all w.structures → ListFits w all ms
    → is_complete all u.base ≡ true → ArePositive u.lengths
    → is_large_member (cells_of_members ms) (layout_of all u) ≡ false
    → nat_le most_counted (length ms) ≡ false
    → ListFits w all (ms ++ (record { name = name; member_type = Some u; layout = layout_of all u } ∷ []))
list_more w all ms name u fit c list h p small few =
    let m : Member = record { name = name; member_type = Some u; layout = layout_of all u } in
    let us = map (λ m. m.layout) ms in
    let e : map (λ m. m.layout) (ms ++ (m ∷ [])) ≡ us ++ (layout_of all u ∷ []) =
    map-append (λ m. m.layout) ms (m ∷ []) in
    let n = cells_all (members_from us) in
    let room : n + cells (layout_of all u) ≤ most_cells =
    fits_in most_cells n (cells (layout_of all u)) list.small
    (or_left (is_passed_with most_cells n (cells (layout_of all u))) _ small) in
    let flat : nesting (layout_of all u) < most_nesting =
    flat_enough (nesting (layout_of all u)) (or_right (is_passed_with most_cells n (cells (layout_of all u))) _ small) in
    record {
      types = members_append all ms m list.types ((u, refl, refl, h), tt);
      formed = λ q.
          subst (λ l. AreFormed (objects_of w) (members_from l)) (sym e)
          (formed_append (objects_of w) us (layout_of all u) (list.formed q) (formed_type w all u fit c h p q));
      full = subst (λ l. AreFull (members_from l)) (sym e)
          (full_append us (layout_of all u) list.full (full_type w all u fit c h p));
      few = subst (λ n. n ≤ most_counted) (sym (length-append ms (m ∷ []))) (counted_more (length ms) few);
      small = subst (λ l. cells_all (members_from l) ≤ most_cells) (sym e)
          (subst (λ k. k ≤ most_cells) (sym (cells_append us (layout_of all u))) room);
      flat = subst (λ l. nesting_all (members_from l) < most_nesting) (sym e)
          (nesting_append us (layout_of all u) most_nesting list.flat flat);
    }

pub list_kept : (w : World) (all more : List Structure) (ms : List Member) → Completes all more
    → ListFits w all ms → ListFits w more ms
list_kept w all more ms c h = record {
  types = members_kept all more ms c h.types;
  formed = h.formed;
  full = h.full;
  few = h.few;
  small = h.small;
  flat = h.flat;
}

pub list_empty : (w : World) (all : List Structure) → ListFits w all []
list_empty w all = record {
  types = tt;
  formed = λ few. tt;
  full = tt;
  few = omega arith;
  small = omega arith;
  flat = omega arith;
}

-- a declared type, where no length is absent
pub declared_given : (lengths : ArrayLengths) (o : Option (List ℕ)) (b : Option CType) (ns : List ℕ) (u : CType)
    → o ≡ Some ns → b ≡ Some u → is_later_absent lengths ≡ false → is_first_absent lengths ≡ false
    → declared_type lengths o None b ≡ Some (array_of [] ns u)
declared_given lengths o b ns u p q later first =
    ap (λ x. if x then None else lift3 array_of (leading lengths None) o b) later
    ∙ ap (λ x. lift3 array_of (if x then None else Some []) o b) first
    ∙ ap (λ x. lift3 array_of (Some []) x b) p ∙ ap (λ x. lift3 array_of (Some []) (Some ns) x) q

pub member_listed_well : (w : World) (s : Scope) (base : Option CType) (name : Name) (lengths : ArrayLengths)
    (members : List Member) (y : Judged (List ℕ)) (u : CType) → base ≡ Some u → ArePositive u.lengths
    → ListFits w s.structures members → Completes s.structures y.scope.structures
    → Completes y.scope.structures w.structures → AreLengths w s y
    → (member_listed base name lengths members y).faults ≡ []
    → AreListed w s (member_listed base name lengths members y)
member_listed_well w s base name lengths members y u is pos list c ends wy h =
    let all = y.scope.structures in
    let own = nil_right y.faults _ h in
    let at = name.span.start in
    let v = array_of [] wy.value u in
    let rest = nil_right (fault_if (has_member name.text members) Redeclared at) _ own in
    let absent = no_fault _ Mismatch at (nil_left (absent_faults lengths None at) _ rest) in
    let first = without (is_first_absent lengths) (or_right (is_later_absent lengths) _ absent) in
    let o = declared_type lengths y.value None base in
    let e = declared_given lengths y.value base wy.value u wy.is is (or_left (is_later_absent lengths) _ absent) first in
    let last = nil_right (absent_faults lengths None at) _ rest in
    let complete : is_complete all u.base ≡ true =
    not_false (is_complete all u.base)
    (no_fault _ Mismatch at (subst (λ o. incomplete_faults all o at ≡ []) is
    (nil_left (incomplete_faults all base at) _ last))) in
    let limits = nil_right (incomplete_faults all base at) _ last in
    let limit : member_limit_faults (cells_of_members members) all (Some v) at ≡ [] =
    subst (λ o. member_limit_faults (cells_of_members members) all o at ≡ []) e
    (nil_left (member_limit_faults (cells_of_members members) all o at) _ limits) in
    let few : nat_le most_counted (length members) ≡ false =
    no_fault _ Limit at (nil_right (member_limit_faults (cells_of_members members) all o at) _ limits) in
    let small = or_right (is_long v.lengths) _ (no_fault _ Limit at limit) in
    record {
      list = subst (λ o. ListFits w all (with_member name o members all)) (sym (ap (λ f. unless_faulty f o) h ∙ e))
          (list_more w all members name.text v wy.fits.structures ends
          (list_kept w s.structures all members c list) complete
          (positive_take most_lengths (wy.value ++ u.lengths)
          (positive_append wy.value u.lengths wy.positive pos)) small few);
      fits = wy.fits;
      still = wy.still;
    }
  where
    without : (b : Bool) → (b && true) ≡ false → b ≡ false
    without true q = q
    without false q = refl

-- ---- a list begins and ends

pub record Begun (w : World) (s : Scope) (x : Opened) : Type 0 where
  pub fits : Fits w x.scope
  pub begun : slice_get x.scope.structures x.number ≡ Some (Incomplete true)
  pub still : x.scope.objects ≡ s.objects

begun_new : (w : World) (s t : Scope) → Fits w t → t.objects ≡ s.objects
    → Begun w s (record { faults = []; number = length t.structures; scope = with_structure (Incomplete true) t })
begun_new w s t fit still = record {
  fits = fits_structure w t true fit (completes_more t.structures (Incomplete true));
  begun = get_next t.structures (Incomplete true) [];
  still = still;
}

set_there : (xs : List Structure) (k : ℕ) (x new : Structure) → slice_get xs k ≡ Some x
    → slice_get (slice_set xs k new) k ≡ Some new
set_there [] k x new h = absurd (cc)
set_there (y ∷ xs) zero x new h = refl
set_there (y ∷ xs) (suc k) x new h = set_there xs k x new h

-- an incomplete entry is changed, so what is complete stays
pub completes_set : (all : List Structure) (n : ℕ) (new : Structure) (b : Bool)
    → slice_get all n ≡ Some (Incomplete b) → Completes all (slice_set all n new)
completes_set all n new b e k ms h = elim (is_or_not k n) [
  | inl same ↦
      let here : slice_get all n ≡ Some (Complete ms) = ap (slice_get all) (sym same) ∙ h in absurd (cc)
  | inr d ↦ get_set_other all n k new (Complete ms) d h
]

begun_again : (w : World) (s : Scope) (tag : Name) (k : ℕ) (o : Option Structure)
    → slice_get s.structures k ≡ o → Fits w s → (opened_again tag k s o).faults ≡ []
    → Begun w s (opened_again tag k s o)
begun_again w s tag k (Some (Incomplete false)) e fit h = record {
  fits = fits_structure_at w s k (Incomplete true) fit
      (completes_set s.structures k (Incomplete true) false e) tt;
  begun = set_there s.structures k (Incomplete false) (Incomplete true) e;
  still = refl;
}
begun_again w s tag k (Some (Incomplete true)) e fit h = absurd (cc)
begun_again w s tag k (Some (Complete ms)) e fit h = absurd (cc)
begun_again w s tag k (Some Faulty) e fit h = absurd (cc)
begun_again w s tag k None e fit h = absurd (cc)

begun_tag : (w : World) (s : Scope) (tag : Name) (m : Option TagMeaning) → Fits w s
    → (opened_tag tag s m).faults ≡ [] → Begun w s (opened_tag tag s m)
begun_tag w s tag None fit h =
    begun_new w s (with_tag tag (StructureTag (length s.structures)) s) (fits_tag w s tag _ fit) refl
begun_tag w s tag (Some (StructureTag k)) fit h =
    begun_again w s tag k (slice_get s.structures k) refl fit h
begun_tag w s tag (Some EnumerationTag) fit h = absurd (cc)

pub begins : (w : World) (s : Scope) (tag : Option Name) → Fits w s → (opened tag s).faults ≡ []
    → Begun w s (opened tag s)
begins w s None fit h = begun_new w s s fit refl
begins w s (Some tag) fit h = begun_tag w s tag (tag_here tag s) fit h

-- the whole structure
pub structure_well : (w : World) (s : Scope) (x : Opened) (y : Listed Member) → Begun w s x
    → Kept x.scope.structures y.scope.structures → AreListed w x.scope y
    → (structure_judged x y).faults ≡ [] → AreTyped w s true (structure_judged x y)
structure_well w s x y b kept ly h =
    let still_begun = kept x.number (Incomplete true) b.begun tt in
    let new = Complete y.items in
    let e : completed (x.faults ++ y.faults) y.items ≡ new = ap (λ f. completed f y.items) h in
    let c = completes_set y.scope.structures x.number new true still_begun in
    let fit : Fits w (with_structure_at x.number new y.scope) =
    fits_structure_at w y.scope x.number new ly.fits c
    (list_kept w y.scope.structures (slice_set y.scope.structures x.number new) y.items c ly.list) in
    record {
      there = λ q. (plain (Tagged x.number), value_is);
      positive = λ u q.
          let same : plain (Tagged x.number) ≡ u = some_same (plain (Tagged x.number)) u (sym value_is ∙ q) in
          subst (λ z. ArePositive z.lengths) same tt;
      fits = subst (λ z. Fits w (with_structure_at x.number z y.scope)) (sym e) fit;
      still = ly.still ∙ b.still;
    }
  where
    some_same : (a b : CType) → Some a ≡ Some b → a ≡ b
    some_same a b h = cc

    value_is : unless_faulty (x.faults ++ y.faults) (Some (plain (Tagged x.number))) ≡ Some (plain (Tagged x.number))
    value_is = ap (λ f. unless_faulty f (Some (plain (Tagged x.number)))) h
