-- How a scope that fits goes on fitting.
use Rattle.std.proofs.Common.{◌≡◌, ℕ, zero, suc, ◌+◌, ◌≤◌, ◌<◌, ℤ, Bool, true, false, if◌then◌else◌, List, [], ◌∷◌, ◌++◌, length, map, slice_get, Option, Some, None, refl, ap, sym, ◌∙◌, subst, arith, bytes_eq, append_assoc, inl, inr}
use Rattle.std.proofs.lemmas.Slice.Eq.{bytes_eq-Decides}
use Rattle.std.proofs.lemmas.List.{length-append, map-append}
use Rattle.mc_tree.specs.Tree.{Name}
use Rattle.mc_typed.specs.declared.expressions.Slot.{Slot}
use Rattle.mc_typed.specs.Layout.{ObjectType, cells, scalars, members_from}
use Rattle.mc_typed.specs.Layout as layout
use Rattle.mc_typed.specs.Tree.{Object, StaticObject}
use Rattle.mc_typed.specs.Sound.{IsSlotOf, AreInRange, AreInitial, slots_from}
use Rattle.mc_limits.specs.Limits.{most_frame_cells, most_static_cells}
use Rattle.types_rules.specs.Profile.{counted, most_counted, most_numbered, start_at, most_summed, sum_of}
use Rattle.types_rules.specs.Types.{Base, Void, Integer, Tagged, CType, plain, Member, Structure, Incomplete, Complete, Faulty, members_of, is_complete_structure, is_complete, layout_of_base, arrays_of, layout_of, structure_from, structures_from}
use Rattle.types_rules.specs.Scopes.{Entry, Meaning, Automatic, Constant, Function, Typedef, Scope, TagMeaning, later_or, named, with_name, with_tag, with_structure, with_structure_at, with_object, with_static}
use Rattle.types_rules.specs.Scopes as scope
use Rattle.types_rules.proofs.Sums.{start_small, start_summed, sum_more, sum_within}
use Rattle.laws_soundness.specs.Growth.{Begins, Kept, Grown, Extended, Passed}
use Rattle.laws_soundness.specs.Fits.{World, FileScopeFits, objects_of, IsTypeIn, Completes, MemberFits, MembersFit, StructureFits, StructuresFit, MeaningFits, NamesFit, AreLaid, total, Fits, Ends, Made}
use Rattle.laws_soundness.proofs.Grows.{grown_refl}
use Rattle.laws_soundness.proofs.Sizes.{counted_small, cells_exact}
use Rattle.laws_soundness.proofs.Lists.{get_below, right_nil, begins_trans, is_or_not, get_set_same, get_unset}

-- ---- complete structures stay

pub kept_completes : (all more : List Structure) → Kept all more → Completes all more
kept_completes all more kept k ms h = kept k (Complete ms) h tt

pub complete_at : (o : Option Structure) → is_complete_structure o ≡ true
    → (ms : List Member) × (o ≡ Some (Complete ms))
complete_at (Some (Complete ms)) h = (ms, refl)
complete_at (Some (Incomplete b)) h = absurd (cc)
complete_at (Some Faulty) h = absurd (cc)
complete_at None h = absurd (cc)

pub complete_kept : (all more : List Structure) (b : Base) → Completes all more
    → is_complete all b ≡ true → is_complete more b ≡ true
complete_kept all more Void c h = h
complete_kept all more (Integer a) c h = h
complete_kept all more (Tagged k) c h =
    let p = complete_at (slice_get all k) h in ap is_complete_structure (c k p.0 p.1)

base_kept : (all more : List Structure) (b : Base) → Completes all more
    → is_complete all b ≡ true → layout_of_base all b ≡ layout_of_base more b
base_kept all more Void c h = refl
base_kept all more (Integer a) c h = refl
base_kept all more (Tagged k) c h =
    let p = complete_at (slice_get all k) h in
    ap (λ o. layout.Structure (counted k) (members_from (map (λ m. m.layout) (members_of o))))
    (p.1 ∙ sym (c k p.0 p.1))

pub layout_kept : (all more : List Structure) (u : CType) → Completes all more
    → is_complete all u.base ≡ true → layout_of all u ≡ layout_of more u
layout_kept all more u c h = ap (arrays_of u.lengths) (base_kept all more u.base c h)

member_kept : (all more : List Structure) (m : Member) → Completes all more → MemberFits all m
    → MemberFits more m
member_kept all more m c p =
    (p.0, p.1, p.2 ∙ layout_kept all more p.0 c p.3, complete_kept all more p.0.base c p.3)

pub members_kept : (all more : List Structure) (ms : List Member) → Completes all more
    → MembersFit all ms → MembersFit more ms
members_kept all more [] c h = tt
members_kept all more (m ∷ ms) c h = (member_kept all more m c h.0, members_kept all more ms c h.1)

pub structure_kept : (w : World) (all more : List Structure) (x : Structure) → Completes all more
    → StructureFits w all x → StructureFits w more x
structure_kept w all more (Incomplete b) c h = tt
structure_kept w all more (Complete ms) c h = record {
  types = members_kept all more ms c h.types;
  formed = h.formed;
  full = h.full;
  few = h.few;
  small = h.small;
  flat = h.flat;
}
structure_kept w all more Faulty c h = h

meaning_kept : (w : World) (all more : List Structure) (name : List ℕ) (m : Meaning)
    → Completes all more → MeaningFits w all name m → MeaningFits w more name m
meaning_kept w all more name (Automatic slot (Some u)) c h = (
  subst (λ v. IsSlotOf w.scope.objects slot v) (layout_kept all more u c h.1) h.0,
  complete_kept all more u.base c h.1,
  subst (IsTypeIn w.structures) (layout_kept all more u c h.1) h.2,
)
meaning_kept w all more name (Automatic slot None) c h = h
meaning_kept w all more name (scope.Stored slot (Some u)) c h = (
  subst (λ v. IsSlotOf w.scope.statics slot v) (layout_kept all more u c h.1) h.0,
  complete_kept all more u.base c h.1,
  subst (IsTypeIn w.structures) (layout_kept all more u c h.1) h.2,
)
meaning_kept w all more name (scope.Stored slot None) c h = h
meaning_kept w all more name (scope.Borrowed array u) c h = (
  h.0 ∙ ap Some (layout_kept all more u c h.1),
  complete_kept all more u.base c h.1,
  subst (IsTypeIn w.structures) (layout_kept all more u c h.1) h.2,
)
meaning_kept w all more name (Constant (Some v)) c h = h
meaning_kept w all more name (Constant None) c h = h
meaning_kept w all more name (Function (Some f) b) c h = h
meaning_kept w all more name (Function None b) c h = h
meaning_kept w all more name (Typedef (Some u)) c h = h
meaning_kept w all more name (Typedef None) c h = h

pub names_kept : (w : World) (all more : List Structure) (es : List Entry) → Completes all more
    → NamesFit w all es → NamesFit w more es
names_kept w all more [] c h = tt
names_kept w all more (e ∷ es) c h =
    (meaning_kept w all more e.name e.meaning c h.0, names_kept w all more es c h.1)

-- ---- names

pub names_append : (w : World) (all : List Structure) (es fs : List Entry) → NamesFit w all es
    → NamesFit w all fs → NamesFit w all (es ++ fs)
names_append w all [] fs h k = k
names_append w all (e ∷ es) fs h k = (h.0, names_append w all es fs h.1 k)

pub name_fits : (w : World) (all : List Structure) (name : List ℕ) (es : List Entry) (m : Meaning)
    → NamesFit w all es → named name es ≡ Some m → MeaningFits w all name m
name_fits w all name [] m fit h = absurd (cc)
name_fits w all name (e ∷ es) m fit h =
    by_rest (named name es) refl h (λ q. name_fits w all name es m fit.1 q)
  where
    by_test : (b : Bool) → bytes_eq e.name name ≡ b
        → (if b then Some e.meaning else None) ≡ Some m → MeaningFits w all name m
    by_test true q h =
        let same : e.meaning ≡ m = cc in
        subst (λ n. MeaningFits w all n m) ((bytes_eq-Decides e.name name).0 q)
        (subst (λ x. MeaningFits w all e.name x) same fit.0)
    by_test false q h = absurd (cc)

    by_rest : (o : Option Meaning) → named name es ≡ o
        → later_or o (if bytes_eq e.name name then Some e.meaning else None) ≡ Some m
        → (named name es ≡ Some m → MeaningFits w all name m) → MeaningFits w all name m
    by_rest (Some x) q h below = let same : x ≡ m = cc in below (q ∙ ap Some same)
    by_rest None q h below = by_test (bytes_eq e.name name) refl h

pub fits_name : (w : World) (s : Scope) (name : Name) (m : Meaning) → Fits w s
    → MeaningFits w s.structures name.text m → Fits w (with_name name m s)
fits_name w s name m fit h = record {
  names = names_append w s.structures s.names _ fit.names (h, tt);
  structures = fit.structures;
  laid = fit.laid;
  frame = fit.frame;
  statics = fit.statics;
  bodies = fit.bodies;
}

pub fits_tag : (w : World) (s : Scope) (name : Name) (m : TagMeaning) → Fits w s
    → Fits w (with_tag name m s)
fits_tag w s name m fit = record {
  names = fit.names;
  structures = fit.structures;
  laid = fit.laid;
  frame = fit.frame;
  statics = fit.statics;
  bodies = fit.bodies;
}

-- ---- structures

get_split : (all : List Structure) (new x : Structure) (k : ℕ)
    → slice_get (all ++ (new ∷ [])) k ≡ Some x → (P : Structure → Type 0) → P new
    → (slice_get all k ≡ Some x → P x) → P x
get_split [] new x zero h P p q = let same : new ≡ x = cc in subst P same p
get_split [] new x (suc k) h P p q = absurd (cc)
get_split (y ∷ all) new x zero h P p q = q h
get_split (y ∷ all) new x (suc k) h P p q = get_split all new x k h P p q

-- one more that is incomplete
pub fits_structure : (w : World) (s : Scope) (b : Bool) → Fits w s
    → Completes s.structures (s.structures ++ (Incomplete b ∷ []))
    → Fits w (with_structure (Incomplete b) s)
fits_structure w s b fit c =
    let more = s.structures ++ (Incomplete b ∷ []) in record {
      names = names_kept w s.structures more s.names c fit.names;
      structures = λ k x h. get_split s.structures (Incomplete b) x k h (StructureFits w more) tt
          (λ e. structure_kept w s.structures more x c (fit.structures k x e));
      laid = fit.laid;
      frame = fit.frame;
      statics = fit.statics;
      bodies = fit.bodies;
    }

-- another in the place of one
pub fits_structure_at : (w : World) (s : Scope) (n : ℕ) (new : Structure) → Fits w s
    → Completes s.structures (with_structure_at n new s).structures
    → StructureFits w (with_structure_at n new s).structures new
    → Fits w (with_structure_at n new s)
fits_structure_at w s n new fit c fits =
    let more = (with_structure_at n new s).structures in record {
      names = names_kept w s.structures more s.names c fit.names;
      structures = λ k x h. elim (is_or_not k n) [
        | inl e ↦ subst (λ y. StructureFits w more y)
            (get_set_same s.structures n new x (ap (slice_get more) (sym e) ∙ h)) fits
        | inr d ↦ structure_kept w s.structures more x c
            (fit.structures k x (get_unset s.structures n k new x d h))
      ];
      laid = fit.laid;
      frame = fit.frame;
      statics = fit.statics;
      bodies = fit.bodies;
    }

-- ---- objects

laid_append : (most : ℕ) (w : World) (n : ℕ) (os : List Object) (o : Object) → AreLaid most w n os
    → AreLaid most w (n + total os) (o ∷ []) → AreLaid most w n (os ++ (o ∷ []))
laid_append most w n [] o h k =
    let e : n + 0 ≡ n = omega arith in subst (λ m. AreLaid most w m (o ∷ [])) e k
laid_append most w n (x ∷ os) o h k =
    let e : n + (x.cells + total os) ≡ n + x.cells + total os = omega arith in
    (h.0, h.1, h.2, laid_append most w (n + x.cells) os o h.3 (subst (λ m. AreLaid most w m (o ∷ [])) e k))

total_append : (os : List Object) (o : Object) → total (os ++ (o ∷ [])) ≡ total os + o.cells
total_append [] o = omega arith
total_append (x ∷ os) o = let below = total_append os o in omega (arith, below)

pub fits_object : (w : World) (s : Scope) (u : ObjectType) → Fits w s
    → IsTypeIn w.structures u → Fits w (with_object u s)
fits_object w s u fit h =
    let o : Object = record { object_type = u; cells = counted (cells u); start = start_at most_frame_cells s.frame } in
    let start : o.start ≡ start_at most_frame_cells (0 + total s.objects) =
    ap (start_at most_frame_cells) fit.frame ∙ start_summed most_frame_cells (total s.objects) frame_below
    ∙ ap (start_at most_frame_cells) (zero_plus (total s.objects)) in
    record {
      names = fit.names;
      structures = fit.structures;
      laid = laid_append most_frame_cells w 0 s.objects o fit.laid (h, cells_exact w.structures u h, start, tt);
      frame = ap (λ n. sum_of n (counted (cells u))) fit.frame ∙ sum_more (total s.objects) (counted (cells u))
          ∙ ap (start_at most_summed) (sym (total_append s.objects o));
      statics = fit.statics;
      bodies = fit.bodies;
    }
  where
    zero_plus : (n : ℕ) → n ≡ 0 + n
    zero_plus n = omega arith

    frame_below : most_frame_cells ≤ most_summed
    frame_below = omega arith

map_last : (os : List StaticObject) (o : StaticObject)
    → map (λ o. o.object) (os ++ (o ∷ [])) ≡ map (λ o. o.object) os ++ (o.object ∷ [])
map_last os o = map-append (λ o. o.object) os (o ∷ [])

initial_append : (os : List StaticObject) (o : StaticObject) → AreInitial os → AreInitial (o ∷ [])
    → AreInitial (os ++ (o ∷ []))
initial_append [] o h k = k
initial_append (x ∷ os) o h k = (h.0, initial_append os o h.1 k)

-- one more with static storage duration
pub fits_static : (w : World) (s : Scope) (u : ObjectType) (vs : List ℤ) → Fits w s
    → IsTypeIn w.structures u → s.static_cells + cells u ≤ most_static_cells
    → length s.statics < most_numbered → AreInRange (scalars u) vs → Fits w (with_static u vs s)
fits_static w s u vs fit h room few values =
    let exact = cells_exact w.structures u h in
    let n = counted (cells u) in
    let room_n : s.static_cells + n ≤ most_static_cells =
    subst (λ n. s.static_cells + n ≤ most_static_cells) (sym exact) room in
    let o : StaticObject = record {
      object = record { object_type = u; cells = n; start = start_at most_static_cells s.static_cells };
      initial = vs;
    } in
    let os = map (λ o. o.object) s.statics in
    let start : start_at most_static_cells s.static_cells ≡ start_at most_static_cells (0 + total os) =
    ap (start_at most_static_cells) (fit.statics.cells ∙ zero_plus (total os)) in
    let sum : sum_of s.static_cells n ≡ s.static_cells + n =
    sum_within s.static_cells n (omega (arith, room_n)) in
    record {
      names = fit.names;
      structures = fit.structures;
      laid = fit.laid;
      frame = fit.frame;
      statics = record {
        laid = subst (AreLaid most_static_cells w 0) (sym (map_last s.statics o))
            (laid_append most_static_cells w 0 os o.object fit.statics.laid (h, exact, start, tt));
        cells = sum ∙ ap (λ m. m + n) fit.statics.cells ∙ sym (total_append os o.object)
            ∙ ap total (sym (map_last s.statics o));
        room = subst (λ m. m ≤ most_static_cells) (sym sum) room_n;
        few = let e = length-append s.statics (o ∷ []) in omega (arith, e, few);
        initial = initial_append s.statics o fit.statics.initial (values, tt);
      };
      bodies = fit.bodies;
    }
  where
    zero_plus : (n : ℕ) → n ≡ 0 + n
    zero_plus n = omega arith

-- the layout of a complete structure is a type of objects
pub get_structure : (n k : ℕ) (xs : List Structure) (x : Structure) → slice_get xs k ≡ Some x
    → slice_get (structures_from n xs) k ≡ Some (structure_from (n + k) x)
get_structure n k [] x h = absurd (cc)
get_structure n zero (y ∷ xs) x h =
    let same : y ≡ x = cc in
    let e : n ≡ n + 0 = omega arith in
    ap (λ z. Some (structure_from n z)) same ∙ ap (λ m. Some (structure_from m x)) e
get_structure n (suc k) (y ∷ xs) x h =
    let e : n + 1 + k ≡ n + suc k = omega arith in
    get_structure (n + 1) k xs x h ∙ ap (λ m. Some (structure_from m x)) e

pub structure_type_fits : (w : World) (all : List Structure) (k : ℕ) → StructuresFit w all
    → Completes all w.structures → is_complete all (Tagged k) ≡ true
    → IsTypeIn w.structures (layout_of all (plain (Tagged k)))
structure_type_fits w all k fit c h =
    let p = complete_at (slice_get all k) h in
    let list = fit k (Complete p.0) p.1 in
    let e : layout_of all (plain (Tagged k)) ≡ structure_from k (Complete p.0) =
    ap (λ o. layout.Structure (counted k) (members_from (map (λ m. m.layout) (members_of o)))) p.1 in
    let zero_more : 0 + k ≡ k = omega arith in
    let there : slice_get (objects_of w) k ≡ Some (structure_from k (Complete p.0)) =
    get_structure 0 k w.structures (Complete p.0) (c k p.0 p.1)
    ∙ ap (λ m. Some (structure_from m (Complete p.0))) zero_more in
    let below = get_below w.structures k (Complete p.0) (c k p.0 p.1) in
    let exact : length w.structures ≤ most_counted → counted k ≡ k = λ few. counted_small k (omega (arith, below, few)) in
    subst (IsTypeIn w.structures) (sym e)
    (record {
      formed = λ few. (ap (slice_get (objects_of w)) (exact few) ∙ there, list.formed few);
      full = list.full;
      small = list.small;
      flat = omega (arith, list.flat);
    })

-- ---- what is made

pub made_none : (s : Scope) → Made s s []
made_none s = ([], sym (right_nil s.objects), refl)

pub slots_append : (k : ℕ) (os ps : List Object)
    → slots_from k (os ++ ps) ≡ slots_from k os ++ slots_from (k + length os) ps
slots_append k [] ps = let e : k ≡ k + 0 = omega arith in ap (λ n. slots_from n ps) e
slots_append k (o ∷ os) ps =
    let e : k + 1 + length os ≡ k + suc (length os) = omega arith in
    ap (λ l. record { object = k; start = o.start } ∷ l)
    (slots_append (k + 1) os ps ∙ ap (λ n. slots_from (k + 1) os ++ slots_from n ps) e)

pub made_as : (s t : Scope) (l m : List Slot) → l ≡ m → Made s t l → Made s t m
made_as s t l m e p = subst (λ x. Made s t x) e p

pub made_two : (s t u : Scope) (l m : List Slot) → Made s t l → Made t u m → Made s u (l ++ m)
made_two s t u l m p q = (
  p.0 ++ q.0,
  q.1 ∙ ap (λ x. x ++ q.0) p.1 ∙ append_assoc s.objects p.0 q.0,
  ap (λ x. x ++ m) p.2 ∙ ap (λ x. slots_from (length s.objects) p.0 ++ x)
      (q.2 ∙ ap (λ n. slots_from n q.0) (ap length p.1 ∙ length-append s.objects p.0))
      ∙ sym (slots_append (length s.objects) p.0 q.0),
)

-- the object that is made next has a number
pub next_numbered : (w : World) (s : Scope) (u : ObjectType) → Ends w (with_object u s)
    → start_at most_numbered (length s.objects) ≡ length s.objects
next_numbered w s u e =
    let o : Object = record { object_type = u; cells = counted (cells u); start = start_at most_frame_cells s.frame } in
    let all : length w.scope.objects ≡ length s.objects + 1 + length e.objects.0 =
    ap length e.objects.1 ∙ length-append (s.objects ++ (o ∷ [])) e.objects.0
    ∙ ap (λ n. n + length e.objects.0) (length-append s.objects (o ∷ [])) in
    let few = w.few.0 in
    start_small most_numbered (length s.objects) (omega (arith, all, few))

pub made_object : (w : World) (s : Scope) (u : ObjectType) → Ends w (with_object u s)
    → Made s (with_object u s) (scope.next_slot s ∷ [])
made_object w s u e = (
  record { object_type = u; cells = counted (cells u); start = start_at most_frame_cells s.frame } ∷ [],
  refl,
  ap (λ n. slot_at n ∷ []) (next_numbered w s u e),
)
  where
    slot_at : ℕ → Slot
    slot_at n = record { object = n; start = start_at most_frame_cells s.frame }

-- ---- what the program has

pub begins_map : {A B : Type 0} (f : A → B) (xs ys : List A) → Begins A xs ys → Begins B (map f xs) (map f ys)
begins_map f xs ys p = (map f p.0, ap (map f) p.1 ∙ map-append f xs p.0)

-- what goes on from a scope, as a declaration does
pub extended : (s t : Scope) → Grown s t → Extended s t
extended s t g = record {
  names = g.names;
  structures = g.structures;
  statics = ([], g.statics ∙ sym (right_nil s.statics));
  objects = g.objects;
  bodies = g.bodies;
  names_from = g.names_from;
  is_file = g.is_file;
  labels = g.labels;
}

pub extended_refl : (s : Scope) → Extended s s
extended_refl s = extended s s (grown_refl s)

pub extended_trans : (s t u : Scope) → Extended s t → Extended t u → Extended s u
extended_trans s t u g h = record {
  names = begins_trans Entry s.names t.names u.names g.names h.names;
  structures = λ k x e n. h.structures k x (g.structures k x e n) n;
  statics = begins_trans StaticObject s.statics t.statics u.statics g.statics h.statics;
  objects = begins_trans Object s.objects t.objects u.objects g.objects h.objects;
  bodies = h.bodies ∙ g.bodies;
  names_from = h.names_from ∙ g.names_from;
  is_file = h.is_file ∙ g.is_file;
  labels = h.labels ∙ g.labels;
}

pub passed : (s t : Scope) → Extended s t → Passed s t
passed s t g = record {
  names = g.names;
  structures = g.structures;
  statics = g.statics;
  objects = g.objects;
  bodies = g.bodies;
}

pub passed_refl : (s : Scope) → Passed s s
passed_refl s = passed s s (extended_refl s)

pub passed_trans : (s t u : Scope) → Passed s t → Passed t u → Passed s u
passed_trans s t u g h = record {
  names = begins_trans Entry s.names t.names u.names g.names h.names;
  structures = λ k x e n. h.structures k x (g.structures k x e n) n;
  statics = begins_trans StaticObject s.statics t.statics u.statics g.statics h.statics;
  objects = begins_trans Object s.objects t.objects u.objects g.objects h.objects;
  bodies = h.bodies ∙ g.bodies;
}

pub ends_passed : (w : World) (s t : Scope) → Passed s t → Ends w t → Ends w s
ends_passed w s t g e = record {
  structures = λ k ms h. e.structures k ms (g.structures k (Complete ms) h tt);
  objects = begins_trans Object s.objects t.objects w.scope.objects g.objects e.objects;
  statics = begins_trans Object (map (λ o. o.object) s.statics) (map (λ o. o.object) t.statics)
      w.scope.statics (begins_map (λ o. o.object) s.statics t.statics g.statics) e.statics;
}

pub ends_before : (w : World) (s t : Scope) → Extended s t → Ends w t → Ends w s
ends_before w s t g e = ends_passed w s t (passed s t g) e

pub ends_back : (w : World) (s t : Scope) → Grown s t → Ends w t → Ends w s
ends_back w s t g e = ends_before w s t (extended s t g) e

-- the scope in which a unit begins
pub file_scope_fits : FileScopeFits
file_scope_fits w = record {
  names = tt;
  structures = λ k x h. none_here k x h;
  laid = tt;
  frame = refl;
  statics = record { laid = tt; cells = refl; room = omega arith; few = omega arith; initial = tt };
  bodies = refl;
}
  where
    none_here : (k : ℕ) (x : Structure) → slice_get [] k ≡ Some x → StructureFits w [] x
    none_here k x h = absurd (cc)
