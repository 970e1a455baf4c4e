-- Declarations of objects and typedef names: what is found of them is well where they have no fault.
use Rattle.std.proofs.Common.{◌≡◌, ℕ, zero, suc, ◌+◌, ◌≤◌, ◌<◌, nat_lt, nat_le, Bool, true, false, not, ◌&&◌, ◌||◌, if◌then◌else◌, List, [], ◌∷◌, ◌++◌, map, length, slice_get, Option, Some, None, option_map, is_none, refl, ap, sym, ◌∙◌, subst, arith, ℤ}
use Rattle.std.proofs.lemmas.List.{map-append, length-map, length-append}
use Rattle.mc_tree.specs.Tree.{Name, ArrayLengths, Initializer}
use Rattle.mc_tree.specs.Tree as tree
use Rattle.mc_typed.specs.Layout.{ObjectType, cells, nesting, scalars}
use Rattle.mc_typed.specs.Tree.{Object, Declarator}
use Rattle.mc_typed.specs.Tree as t
use Rattle.mc_typed.specs.Frames.{slots_value}
use Rattle.mc_typed.specs.Sound.{IsSlotOf, cells_at, IsInitial, AreInRange, slots_from}
use Rattle.mc_typed.proofs.CellTypes.{length_scalars}
use Rattle.types_faults.specs.declared.fault.Fault.{Fault}
use Rattle.types_faults.specs.declared.fault.FaultKind.TheVariants.{Mismatch, Limit}
use Rattle.types_faults.specs.Faults.{unless_faulty}
use Rattle.mc_limits.specs.Limits.{most_frame_cells, most_nesting, most_static_cells}
use Rattle.mc_value.specs.ObjectTypes.{most_cells}
use Rattle.types_rules.specs.Profile.{counted, most_lengths, most_numbered, start_at}
use Rattle.types_rules.specs.Types.{CType, Structure, Incomplete, Complete, Faulty, is_complete, layout_of}
use Rattle.types_rules.specs.Scopes.{Entry, Meaning, Automatic, Stored, Borrowed, Constant, Function, Typedef, Scope, with_name, with_counted, cells_counted, with_object, with_static, next_slot, next_static}
use Rattle.types_rules.specs.Values.{Judged, lift3}
use Rattle.types_rules.specs.Limits.{is_long, is_too_large, object_limit_faults, is_passed_with}
use Rattle.types_rules.specs.Declarators.{redeclared_faults, misnamed_faults, is_first_absent, is_later_absent, leading, array_of, declared_type, absent_faults, incomplete_faults}
use Rattle.types_rules.specs.Declarations.{at_least_one, count_listed, judge_optional_initializer, object_faults, layout_counted, after_initializer, counted_after, declarator_value, automatic_judged, initial_values, static_faults_with, static_scope, static_value, static_judged}
use Rattle.types_rules.proofs.Sums.{start_small, start_least}
use Rattle.laws_soundness.specs.Growth.{Begins, IsBelow, AreBelow}
use Rattle.laws_soundness.specs.Fits.{World, IsTypeIn, Completes, ArePositive, StructureFits, StructuresFit, MeaningFits, NamesFit, AreLaid, Fits, Ends, Made, IsDeclared}
use Rattle.laws_soundness.proofs.Lists.{right_nil, get_next, get_begun, slice_get-before}
use Rattle.laws_soundness.proofs.Tests.{nil_left, nil_right, no_fault, or_left, or_right, not_false}
use Rattle.laws_soundness.proofs.Grows.{below_append}
use Rattle.laws_soundness.proofs.Sizes.{cells_exact}
use Rattle.laws_soundness.proofs.Fitting.{kept_completes, layout_kept, fits_name, fits_object, fits_static, made_none, made_as, made_two, next_numbered, made_object, ends_back, ends_before}
use Rattle.laws_soundness.proofs.Calls.{next_there}
use Rattle.laws_soundness.proofs.Members.{positive_append, positive_take, formed_type, full_type, fits_in}
use Rattle.laws_soundness.proofs.Constants.{filled_within, none_first}
use Rattle.laws_soundness.proofs.Initializers.{initializer_well}
use Rattle.laws_soundness.proofs.Extends.{optional_grows, scope_extends}

-- ---- the type of an object

-- a list gives at least one item
abbrev pub IsCount : Option ℕ → Type 0
IsCount None = Unit {0}
IsCount (Some n) = 1 ≤ n

at_least : (n : ℕ) → IsCount (at_least_one n)
at_least zero = tt
at_least (suc n) = omega arith

pub count_is : (value : Option Initializer) → IsCount (count_listed value)
count_is None = tt
count_is (Some (tree.Single e)) = tt
count_is (Some (tree.Braced items span)) = at_least _

pub record IsGivenType (lengths : ArrayLengths) (o : Option (List ℕ)) (count : Option ℕ) (b : CType) : Type 0 where
  pub type : CType
  pub is : declared_type lengths o count (Some b) ≡ Some type
  pub base : type.base ≡ b.base
  pub positive : ArePositive type.lengths

pub given_type : (lengths : ArrayLengths) (o : Option (List ℕ)) (count : Option ℕ) (b : CType) (ns : List ℕ)
    → o ≡ Some ns → ArePositive ns → ArePositive b.lengths → IsCount count
    → is_later_absent lengths ≡ false → (is_first_absent lengths && is_none count) ≡ false
    → IsGivenType lengths o count b
given_type lengths o count b ns q p pb c later first =
    by_first (is_first_absent lengths) refl count refl c first
  where
    by_first : (f : Bool) → is_first_absent lengths ≡ f → (n : Option ℕ) → count ≡ n → IsCount n
        → (f && is_none n) ≡ false → IsGivenType lengths o count b
    by_first true e None k c h = absurd (cc)
    by_first true e (Some n) k c h = record {
      type = array_of (n ∷ []) ns b;
      is = ap (λ x. if x then None else lift3 array_of (leading lengths count) o (Some b)) later
          ∙ ap (λ x. lift3 array_of (if x then option_map (λ n. n ∷ []) count else Some []) o (Some b)) e
          ∙ ap (λ x. lift3 array_of (option_map (λ n. n ∷ []) x) o (Some b)) k
          ∙ ap (λ x. lift3 array_of (Some (n ∷ [])) x (Some b)) q;
      base = refl;
      positive = positive_take most_lengths ((n ∷ []) ++ (ns ++ b.lengths))
          (c, positive_append ns b.lengths p pb);
    }
    by_first false e n k c h = record {
      type = array_of [] ns b;
      is = ap (λ x. if x then None else lift3 array_of (leading lengths count) o (Some b)) later
          ∙ ap (λ x. lift3 array_of (if x then option_map (λ n. n ∷ []) count else Some []) o (Some b)) e
          ∙ ap (λ x. lift3 array_of (Some []) x (Some b)) q;
      base = refl;
      positive = positive_take most_lengths (ns ++ b.lengths) (positive_append ns b.lengths p pb);
    }

is_small : (n m : ℕ) → (nat_lt most_cells n || nat_lt most_nesting m) ≡ false
    → (n ≤ most_cells) × (m ≤ most_nesting)
is_small n m h =
    (cells_small n (or_left (nat_lt most_cells n) _ h), nesting_small m (or_right (nat_lt most_cells n) _ h))
  where
    cells_small : (n : ℕ) → nat_lt most_cells n ≡ false → n ≤ most_cells
    cells_small n h = grind (arith, h)

    nesting_small : (m : ℕ) → nat_lt most_nesting m ≡ false → m ≤ most_nesting
    nesting_small m h = grind (arith, h)

-- an object without a fault of its own
pub record IsObject (w : World) (s : Scope) (u : Option CType) : Type 0 where
  pub type : CType
  pub is : u ≡ Some type
  pub complete : is_complete s.structures type.base ≡ true
  pub object : IsTypeIn w.structures (layout_of s.structures type)

pub limited_object : (w : World) (s : Scope) (at : ℕ) (v : CType) → Fits w s
    → Completes s.structures w.structures → is_complete s.structures v.base ≡ true → ArePositive v.lengths
    → object_limit_faults s.structures (Some v) at ≡ []
    → IsTypeIn w.structures (layout_of s.structures v)
limited_object w s at v fit ends complete p h =
    let limit : is_too_large s.structures v ≡ false =
    sym (ap (λ b. b && is_too_large s.structures v) complete)
    ∙ no_fault (is_complete s.structures v.base && is_too_large s.structures v) Limit at h in
    let small = is_small (cells (layout_of s.structures v)) (nesting (layout_of s.structures v))
    (or_right (is_long v.lengths) _ limit) in
    record {
      formed = formed_type w s.structures v fit.structures ends complete p;
      full = full_type w s.structures v fit.structures ends complete p;
      small = small.0;
      flat = small.1;
    }

pub object_is : (w : World) (s : Scope) (name : Name) (lengths : ArrayLengths) (o : Option (List ℕ))
    (count : Option ℕ) (b : CType) (ns : List ℕ) → Fits w s → Completes s.structures w.structures
    → o ≡ Some ns → ArePositive ns → ArePositive b.lengths → IsCount count
    → object_faults name lengths count (Some b) (declared_type lengths o count (Some b)) s ≡ []
    → IsObject w s (declared_type lengths o count (Some b))
object_is w s name lengths o count b ns fit ends q p pb c h =
    let at = name.span.start in
    let rest = nil_right (misnamed_faults name s) _ (nil_right (redeclared_faults name s) _ h) in
    let absent = no_fault (is_later_absent lengths || (is_first_absent lengths && is_none count)) Mismatch at
    (nil_left (absent_faults lengths count at) _ rest) in
    let g = given_type lengths o count b ns q p pb c (or_left (is_later_absent lengths) _ absent)
    (or_right (is_later_absent lengths) _ absent) in
    let last = nil_right (absent_faults lengths count at) _ rest in
    let complete_base : is_complete s.structures b.base ≡ true =
    not_false (is_complete s.structures b.base)
    (no_fault (not (is_complete s.structures b.base)) Mismatch at (nil_left (incomplete_faults s.structures (Some b) at) _ last)) in
    let complete : is_complete s.structures g.type.base ≡ true =
    ap (is_complete s.structures) g.base ∙ complete_base in
    record {
      type = g.type;
      is = g.is;
      complete = complete;
      object = limited_object w s at g.type fit ends complete g.positive
          (subst (λ u. object_limit_faults s.structures u at ≡ []) g.is
          (nil_right (incomplete_faults s.structures (Some b) at) _ last));
    }

-- ---- initializers, where there is one

pub record IsOptional (w : World) (static : Bool) (s : Scope) (u : CType) (x : Judged (Option t.Initializer))
    : Type 0 where
  pub value : Option t.Initializer
  pub is : x.value ≡ Some value
  pub sound : IsInitial value (Some (layout_of x.scope.structures u)) w.scope
  pub made : Made s x.scope (slots_value value)
  pub fits : Fits w x.scope
  pub values : static ≡ true → (x.scope.objects ≡ s.objects)
      × AreInRange (scalars (layout_of x.scope.structures u)) (initial_values (layout_of x.scope.structures u) value)

optional_well : (w : World) (static : Bool) (u : CType) (i : Option Initializer) (s : Scope) → Fits w s
    → is_complete s.structures u.base ≡ true → IsTypeIn w.structures (layout_of s.structures u)
    → Ends w (judge_optional_initializer static (Some u) i s).scope
    → (judge_optional_initializer static (Some u) i s).faults ≡ []
    → IsOptional w static s u (judge_optional_initializer static (Some u) i s)
optional_well w static u None s fit k object ends h = record {
  value = None;
  is = refl;
  sound = tt;
  made = made_none s;
  fits = fit;
  values = λ r.
      let l = layout_of s.structures u in
      let exact = cells_exact w.structures l object in (
        refl,
        filled_within (scalars l) (counted (cells l)) [] (exact ∙ sym (length_scalars l)) (none_first (scalars l)),
      );
}
optional_well w static u (Some i) s fit k object ends h =
    let x = initializer_well w static u i s fit k object ends h in
    record {
      value = Some x.value;
      is = ap (option_map Some) x.is;
      sound = x.sound;
      made = x.made;
      fits = x.fits;
      values = x.values;
    }

-- ---- objects with automatic storage duration

-- the object that is made next
object_there : (w : World) (s : Scope) (u : ObjectType) → Ends w (with_object u s)
    → cells_at w.scope.objects (next_slot s).object ≡ Some (counted (cells u))
object_there w s u e =
    let o : Object = record { object_type = u; cells = counted (cells u); start = start_at most_frame_cells s.frame } in
    ap (option_map (λ x. x.cells))
    (ap (slice_get w.scope.objects) (next_numbered w s u e) ∙ get_begun Object (s.objects ++ (o ∷ [])) w.scope.objects (length s.objects) o e.objects
    (get_next s.objects o []))

-- the name and the object of a declarator with this type
abbrev declared_at : Name → Option CType → Option ObjectType → Scope → Scope
declared_at name u layout s = with_counted layout (with_name name (Automatic (next_slot s) u) s)

automatic_at : (w : World) (s : Scope) (name : Name) (u : CType) (value : Option Initializer) → Fits w s
    → AreBelow (length s.statics) s.names
    → is_complete s.structures u.base ≡ true → IsTypeIn w.structures (layout_of s.structures u)
    → Ends w (judge_optional_initializer false (Some u) value
    (declared_at name (Some u) (Some (layout_of s.structures u)) s)).scope
    → (judge_optional_initializer false (Some u) value
    (declared_at name (Some u) (Some (layout_of s.structures u)) s)).faults ≡ []
    → IsDeclared w s (declarator_value (next_slot s) (Some (layout_of s.structures u))
    (judge_optional_initializer false (Some u) value
    (declared_at name (Some u) (Some (layout_of s.structures u)) s)).value)
    (judge_optional_initializer false (Some u) value
    (declared_at name (Some u) (Some (layout_of s.structures u)) s)).scope
automatic_at w s name u value fit below complete object ends h =
    let l = layout_of s.structures u in
    let named = with_name name (Automatic (next_slot s) (Some u)) s in
    let d = with_object l named in
    let x = judge_optional_initializer false (Some u) value d in
    let g = optional_grows false (Some u) value d in
    let ends_d = ends_back w d x.scope g ends in
    let there = next_there w named l ends_d in
    let fit_named = fits_name w s name (Automatic (next_slot s) (Some u)) fit (there, complete, object) in
    let i = optional_well w false u value d (fits_object w named l fit_named object) complete object ends h in
    let same : layout_of x.scope.structures u ≡ l =
    sym (layout_kept d.structures x.scope.structures u (kept_completes d.structures x.scope.structures g.structures) complete) in
    let one : Declarator = record { slot = next_slot s; cells = counted (cells l); value = i.value } in
    record {
      declared = one ∷ [];
      is = ap (declarator_value (next_slot s) (Some l)) i.is;
      sound = (
        (
          there.0,
          object_there w named l ends_d,
          subst (λ o. IsInitial i.value o w.scope) (sym there.1)
              (subst (λ z. IsInitial i.value (Some z) w.scope) same i.sound),
        ),
        tt,
      );
      made = made_as s x.scope _ _ (ap (λ z. next_slot s ∷ z) (sym (right_nil (slots_value i.value))))
          (made_two s d x.scope _ _ (made_from s named d refl (made_object w named l ends_d)) i.made);
      fits = i.fits;
      below = subst (λ n. AreBelow n x.scope.names) (ap length (sym g.statics))
          (g.below (length s.statics) (below_append (length s.statics) s.names _ below (tt, tt)));
    }
  where
    made_from : (s t u : Scope) → t.objects ≡ s.objects → Made t u (next_slot s ∷ []) → Made s u (next_slot s ∷ [])
    made_from s t u e p = subst (λ os. (more : List Object) × (u.objects ≡ os ++ more) × ((next_slot s ∷ []) ≡ slots_from (length os) more)) e p

pub both_nil : (xs ys : List Fault) → xs ≡ [] → ys ≡ [] → xs ++ ys ≡ []
both_nil xs ys p q = ap (λ z. z ++ ys) p ∙ q

pub automatic_well : (w : World) (s : Scope) (faults : List Fault) (name : Name) (lengths : ArrayLengths)
    (base u : Option CType) (value : Option Initializer) → Fits w s → AreBelow (length s.statics) s.names
    → IsObject w s u → Ends w (automatic_judged faults name lengths base u value s).scope
    → (automatic_judged faults name lengths base u value s).faults ≡ []
    → IsDeclared w s (automatic_judged faults name lengths base u value s).value
    (automatic_judged faults name lengths base u value s).scope
automatic_well w s faults name lengths base u value fit below o ends h =
    let own = object_faults name lengths (count_listed value) base u s in
    let layout = layout_counted own u s in
    let typed = unless_faulty (faults ++ own) u in
    let judged = unless_faulty own u in
    let x = judge_optional_initializer false judged value (declared_at name typed layout s) in
    let rest = nil_right faults _ h in
    let own_nil = nil_left own x.faults rest in
    let x_nil = nil_right own x.faults rest in
    let l = layout_of s.structures o.type in
    let et : typed ≡ Some o.type =
    ap (λ f. unless_faulty f u) (both_nil faults own (nil_left faults _ h) own_nil) ∙ o.is in
    let el : layout ≡ Some l =
    ap (λ f. layout_counted f u s) own_nil ∙ ap (λ z. layout_counted [] z s) o.is in
    let es : (automatic_judged faults name lengths base u value s).scope ≡ x.scope =
    ap (λ f. counted_after f (cells_counted layout)
    (after_initializer f name (Automatic (next_slot s) None) x.scope)) x_nil in
    let at = automatic_at w s name o.type value fit below o.complete o.object in
    let ej : judged ≡ Some o.type = ap (λ f. unless_faulty f u) own_nil ∙ o.is in
    let at_j : Claim judged (Some o.type) (Some l) = subst (λ z. Claim z (Some o.type) (Some l)) (sym ej) at in
    let at_t : Claim judged typed (Some l) = subst (λ z. Claim judged z (Some l)) (sym et) at_j in
    let at_l : Claim judged typed layout = subst (λ z. Claim judged typed z) (sym el) at_t in
    subst (λ z. IsDeclared w s (declarator_value (next_slot s) layout x.value) z) (sym es)
    (at_l (subst (Ends w) es ends) x_nil)
  where
    Claim : Option CType → Option CType → Option ObjectType → Type 0
    Claim v typed layout =
        Ends w (judge_optional_initializer false v value (declared_at name typed layout s)).scope
        → (judge_optional_initializer false v value (declared_at name typed layout s)).faults ≡ []
        → IsDeclared w s (declarator_value (next_slot s) layout
        (judge_optional_initializer false v value (declared_at name typed layout s)).value)
        (judge_optional_initializer false v value (declared_at name typed layout s)).scope

-- ---- objects with static storage duration

abbrev named_at : Name → Option CType → Scope → Scope
named_at name u s = with_name name (Stored (next_static s) u) s

-- the object that is made next with static storage duration
static_there : (w : World) (s t : Scope) (u : ObjectType) (vs : List ℤ) → t.statics ≡ s.statics
    → t.static_cells ≡ s.static_cells → length s.statics ≤ most_numbered → Ends w (with_static u vs t)
    → IsSlotOf w.scope.statics (next_static s) u
static_there w s t u vs same cells_same few e =
    let o : Object = record { object_type = u; cells = counted (cells u); start = start_at most_static_cells t.static_cells } in
    let os = map (λ x. x.object) t.statics in
    let last : Begins Object (os ++ (o ∷ [])) w.scope.statics =
    subst (λ l. Begins Object l w.scope.statics) (map-append (λ x. x.object) t.statics (record { object = o; initial = vs } ∷ [])) e.statics in
    let count : length os ≡ length s.statics = length-map t.statics (λ x. x.object) ∙ ap length same in
    let here : slice_get w.scope.statics (next_static s).object ≡ Some o =
    ap (slice_get w.scope.statics) (start_small most_numbered (length s.statics) few ∙ sym count)
    ∙ get_begun Object (os ++ (o ∷ [])) w.scope.statics (length os) o last (get_next os o []) in (
      ap (option_map (λ x. x.start)) here ∙ ap (λ n. Some (start_at most_static_cells n)) cells_same,
      ap (option_map (λ x. x.object_type)) here,
    )

below_wider : (n : ℕ) (es : List Entry) → AreBelow n es → AreBelow (suc n) es
below_wider n [] h = tt
below_wider n (e ∷ es) h = (by_meaning e.meaning h.0, below_wider n es h.1)
  where
    by_meaning : (m : Meaning) → IsBelow n m → IsBelow (suc n) m
    by_meaning (Stored slot u) k = omega (arith, k)
    by_meaning (Automatic slot u) k = tt
    by_meaning (Borrowed array u) k = tt
    by_meaning (Constant v) k = tt
    by_meaning (Function f b) k = tt
    by_meaning (Typedef u) k = tt

below_more : (xs ys : List t.StaticObject) (y : t.StaticObject) (es : List Entry) → ys ≡ xs
    → AreBelow (suc (length xs)) es → AreBelow (length (ys ++ (y ∷ []))) es
below_more xs ys y es e h =
    let n : length (ys ++ (y ∷ [])) ≡ suc (length xs) =
    length-append ys (y ∷ []) ∙ one_more (length ys) ∙ ap (λ l. suc (length l)) e in
    subst (λ k. AreBelow k es) (sym n) h
  where
    one_more : (n : ℕ) → n + 1 ≡ suc n
    one_more n = omega arith

-- the same program, but for one object with static storage duration
abbrev with_object_at : World → List Object → World
with_object_at w os = record w { scope = record w.scope { statics = os } }

names_move : (w : World) (os : List Object) (n : ℕ) (all : List Structure) (es : List Entry)
    → ((k : ℕ) → k < n → slice_get os k ≡ slice_get w.scope.statics k) → AreBelow n es
    → NamesFit w all es → NamesFit (with_object_at w os) all es
names_move w os n all [] same below h = tt
names_move w os n all (e ∷ es) same below h =
    (by_meaning e.name e.meaning below.0 h.0, names_move w os n all es same below.1 h.1)
  where
    by_meaning : (name : List ℕ) (m : Meaning) → IsBelow n m → MeaningFits w all name m
        → MeaningFits (with_object_at w os) all name m
    by_meaning name (Stored slot (Some u)) b f =
        let e = sym (same slot.object b) in
        ((ap (option_map (λ o. o.start)) (sym e) ∙ f.0.0, ap (option_map (λ o. o.object_type)) (sym e) ∙ f.0.1), f.1, f.2)
    by_meaning name (Stored slot None) b f = f
    by_meaning name (Automatic slot (Some u)) b f = f
    by_meaning name (Automatic slot None) b f = f
    by_meaning name (Borrowed array u) b f = f
    by_meaning name (Constant (Some v)) b f = f
    by_meaning name (Constant None) b f = f
    by_meaning name (Function (Some g) x) b f =
        record {
          defined = λ k p. let d = f.defined k p in record { there = d.there; parameters = d.parameters; result = d.result };
          input = f.input;
          output = f.output;
        }
    by_meaning name (Function None x) b f = f
    by_meaning name (Typedef (Some u)) b f = f
    by_meaning name (Typedef None) b f = f

structures_move : (w : World) (os : List Object) (all : List Structure) → StructuresFit w all
    → StructuresFit (with_object_at w os) all
structures_move w os all fit k x h = by_structure x (fit k x h)
  where
    by_structure : (x : Structure) → StructureFits w all x → StructureFits (with_object_at w os) all x
    by_structure (Incomplete b) f = tt
    by_structure (Complete ms) f = record { types = f.types; formed = f.formed; full = f.full; few = f.few; small = f.small; flat = f.flat }
    by_structure Faulty f = f

laid_move : (most : ℕ) (w : World) (os : List Object) (n : ℕ) (xs : List Object) → AreLaid most w n xs
    → AreLaid most (with_object_at w os) n xs
laid_move most w os n [] h = tt
laid_move most w os n (x ∷ xs) h = (h.0, h.1, h.2, laid_move most w os (n + x.cells) xs h.3)

fits_move : (w : World) (os : List Object) (s : Scope) (n : ℕ)
    → ((k : ℕ) → k < n → slice_get os k ≡ slice_get w.scope.statics k) → AreBelow n s.names → Fits w s
    → Fits (with_object_at w os) s
fits_move w os s n same below fit = record {
  names = names_move w os n s.structures s.names same below fit.names;
  structures = structures_move w os s.structures fit.structures;
  laid = laid_move most_frame_cells w os 0 s.objects fit.laid;
  frame = fit.frame;
  statics = record {
    laid = laid_move most_static_cells w os 0 (map (λ o. o.object) s.statics) fit.statics.laid;
    cells = fit.statics.cells;
    room = fit.statics.room;
    few = fit.statics.few;
    initial = fit.statics.initial;
  };
  bodies = fit.bodies;
}

-- An initializer without a fault has a value: its name may stand for an object of any program.
static_value_there : (w : World) (s : Scope) (name : Name) (u : CType) (value : Option Initializer)
    → Fits w s → AreBelow (length s.statics) s.names → is_complete s.structures u.base ≡ true
    → IsTypeIn w.structures (layout_of s.structures u)
    → Ends w (judge_optional_initializer true (Some u) value (named_at name (Some u) s)).scope
    → (judge_optional_initializer true (Some u) value (named_at name (Some u) s)).faults ≡ []
    → (i : Option t.Initializer)
    × ((judge_optional_initializer true (Some u) value (named_at name (Some u) s)).value ≡ Some i)
static_value_there w s name u value fit below complete object ends none =
    let named = named_at name (Some u) s in
    let x = judge_optional_initializer true (Some u) value named in
    let g = optional_grows true (Some u) value named in
    let l = layout_of s.structures u in
    let o : Object = record { object_type = l; cells = counted (cells l); start = start_at most_static_cells s.static_cells } in
    let old = map (λ z. z.object) s.statics in
    let os = old ++ (o ∷ []) in
    let v = with_object_at w os in
    let count : length old ≡ length s.statics = length-map s.statics (λ z. z.object) in
    let first : Begins Object old w.scope.statics =
    subst (λ l. Begins Object (map (λ z. z.object) l) w.scope.statics) g.statics ends.statics in
    let fit_s = fits_move w os s (length s.statics)
    (λ k b. same_before old o w.scope.statics first k (subst (λ n. k < n) (sym count) b)) below fit in
    let here : slice_get os (next_static s).object ≡ Some o =
    ap (slice_get os) (start_small most_numbered (length s.statics) fit.statics.few ∙ sym count)
    ∙ get_next old o [] in
    let slot : IsSlotOf os (next_static s) l =
    (ap (option_map (λ z. z.start)) here, ap (option_map (λ z. z.object_type)) here) in
    let fit_named = fits_name v s name (Stored (next_static s) (Some u)) fit_s (slot, complete, object) in
    let ends_v : Ends v x.scope = record {
      structures = ends.structures;
      objects = ends.objects;
      statics = subst (λ l. Begins Object (map (λ z. z.object) l) os) (sym g.statics) (o ∷ [], refl);
    } in
    let r = optional_well v true u value named fit_named complete object ends_v none in
    (r.value, r.is)
  where
    same_before : (old : List Object) (o : Object) (all : List Object) → Begins Object old all → (k : ℕ)
        → k < length old → slice_get (old ++ (o ∷ [])) k ≡ slice_get all k
    same_before old o all p k b =
        slice_get-before old (o ∷ []) k b ∙ sym (slice_get-before old p.0 k b) ∙ ap (λ l. slice_get l k) (sym p.1)

static_at : (w : World) (s : Scope) (name : Name) (u : CType) (value : Option Initializer) (i : Option t.Initializer)
    → Fits w s → AreBelow (length s.statics) s.names → is_complete s.structures u.base ≡ true
    → IsTypeIn w.structures (layout_of s.structures u)
    → (judge_optional_initializer true (Some u) value (named_at name (Some u) s)).faults ≡ []
    → (judge_optional_initializer true (Some u) value (named_at name (Some u) s)).value ≡ Some i
    → static_faults_with name.span.start (Some (layout_of (judge_optional_initializer true (Some u) value (named_at name (Some u) s)).scope.structures u)) (Some i)
    (judge_optional_initializer true (Some u) value (named_at name (Some u) s)).scope ≡ []
    → Ends w (static_scope (Some (layout_of (judge_optional_initializer true (Some u) value (named_at name (Some u) s)).scope.structures u)) (Some i)
    (judge_optional_initializer true (Some u) value (named_at name (Some u) s)).scope)
    → IsDeclared w s (Some []) (static_scope (Some (layout_of (judge_optional_initializer true (Some u) value (named_at name (Some u) s)).scope.structures u)) (Some i)
    (judge_optional_initializer true (Some u) value (named_at name (Some u) s)).scope)
static_at w s name u value i fit below complete object none is sum ends =
    let named = named_at name (Some u) s in
    let x = judge_optional_initializer true (Some u) value named in
    let g = optional_grows true (Some u) value named in
    let l = layout_of x.scope.structures u in
    let c = kept_completes s.structures x.scope.structures g.structures in
    let same : layout_of s.structures u ≡ l = layout_kept s.structures x.scope.structures u c complete in
    let vs = initial_values l i in
    let e = scope_extends (Some l) (Some i) x.scope in
    let ends_x = ends_before w x.scope (with_static l vs x.scope) e ends in
    let slot = subst (λ z. IsSlotOf w.scope.statics (next_static s) z) (sym same)
    (static_there w s x.scope l vs g.statics g.static_cells fit.statics.few ends) in
    let fit_named = fits_name w s name (Stored (next_static s) (Some u)) fit (slot, complete, object) in
    let o = optional_well w true u value named fit_named complete object ends_x none in
    let v = o.values refl in
    let value_same : o.value ≡ i = some_same o.value i (sym o.is ∙ is) in
    let passes = is_passed_with most_static_cells x.scope.static_cells (cells l) in
    let many = nat_le most_numbered (length x.scope.statics) in
    let within : (passes || many) ≡ false = no_fault (passes || many) Limit name.span.start sum in
    let room = fits_in most_static_cells x.scope.static_cells (cells l) o.fits.statics.room (or_left passes many within) in
    let few : length x.scope.statics < most_numbered = fewer (length x.scope.statics) (or_right passes many within) in
    record {
      declared = [];
      is = refl;
      sound = tt;
      made = ([], v.0 ∙ sym (right_nil s.objects), refl);
      fits = fits_static w x.scope l vs o.fits (subst (IsTypeIn w.structures) same object) room few
          (subst (λ z. AreInRange (scalars l) (initial_values l z)) value_same v.1);
      below = below_more s.statics x.scope.statics _ x.scope.names g.statics
          (g.below (suc (length s.statics)) (below_append (suc (length s.statics)) s.names _
          (below_wider (length s.statics) s.names below) (next_less, tt)));
    }
  where
    fewer : (n : ℕ) → nat_le most_numbered n ≡ false → n < most_numbered
    fewer n h = grind (arith, h)

    next_less : (next_static s).object < suc (length s.statics)
    next_less = let e = start_least most_numbered (length s.statics) in omega (arith, e)

    some_same : (a b : Option t.Initializer) → Some a ≡ Some b → a ≡ b
    some_same a b h = cc

pub static_well : (w : World) (s : Scope) (faults : List Fault) (name : Name) (lengths : ArrayLengths)
    (base u : Option CType) (value : Option Initializer) → Fits w s → AreBelow (length s.statics) s.names
    → IsObject w s u → Ends w (static_judged faults name lengths base u value s).scope
    → (static_judged faults name lengths base u value s).faults ≡ []
    → IsDeclared w s (static_judged faults name lengths base u value s).value
    (static_judged faults name lengths base u value s).scope
static_well w s faults name lengths base u value fit below o ends h =
    let own = object_faults name lengths (count_listed value) base u s in
    let typed = unless_faulty (faults ++ own) u in
    let judged = unless_faulty own u in
    let x = judge_optional_initializer true judged value (named_at name typed s) in
    let layout = layout_counted (own ++ x.faults) u x.scope in
    let sum = static_faults_with name.span.start layout x.value x.scope in
    let rest = nil_right faults _ h in
    let own_nil = nil_left own _ rest in
    let last = nil_right own _ rest in
    let x_nil = nil_left x.faults sum last in
    let sum_nil = nil_right x.faults sum last in
    let et : typed ≡ Some o.type =
    ap (λ f. unless_faulty f u) (both_nil faults own (nil_left faults _ h) own_nil) ∙ o.is in
    let el : layout ≡ Some (layout_of x.scope.structures o.type) =
    ap (λ f. layout_counted f u x.scope) (both_nil own x.faults own_nil x_nil)
    ∙ ap (λ z. layout_counted [] z x.scope) o.is in
    let es : (static_judged faults name lengths base u value s).scope ≡ static_scope layout x.value x.scope =
    ap (λ f. static_scope layout x.value (after_initializer f name (Stored (next_static s) None) x.scope))
    (both_nil x.faults sum x_nil sum_nil) in
    let ej : judged ≡ Some o.type = ap (λ f. unless_faulty f u) own_nil ∙ o.is in
    let claim : Claim judged typed layout =
    subst (λ z. Claim judged typed z) (sym el)
    (subst (λ z. Given judged z) (sym et) (subst (λ z. Given z (Some o.type)) (sym ej) at)) in
    subst (λ z. IsDeclared w s (static_value layout x.value) z) (sym es)
    (claim (subst (Ends w) es ends) x_nil sum_nil)
  where
    Claim : Option CType → Option CType → Option ObjectType → Type 0
    Claim v typed layout =
        Ends w (static_scope layout (judge_optional_initializer true v value (named_at name typed s)).value
        (judge_optional_initializer true v value (named_at name typed s)).scope)
        → (judge_optional_initializer true v value (named_at name typed s)).faults ≡ []
        → static_faults_with name.span.start layout
        (judge_optional_initializer true v value (named_at name typed s)).value
        (judge_optional_initializer true v value (named_at name typed s)).scope ≡ []
        → IsDeclared w s (static_value layout (judge_optional_initializer true v value (named_at name typed s)).value)
        (static_scope layout (judge_optional_initializer true v value (named_at name typed s)).value
        (judge_optional_initializer true v value (named_at name typed s)).scope)

    Given : Option CType → Option CType → Type 0
    Given v typed =
        Claim v typed (Some (layout_of (judge_optional_initializer true v value (named_at name typed s)).scope.structures o.type))

    never : (i : Option t.Initializer) → Some i ≡ None → ⊥
    never i e = cc

    by_value : (i : Option (Option t.Initializer))
        → (judge_optional_initializer true (Some o.type) value (named_at name (Some o.type) s)).value ≡ i
        → Given (Some o.type) (Some o.type)
    by_value (Some i) q ends none sum =
        let l = layout_of (judge_optional_initializer true (Some o.type) value (named_at name (Some o.type) s)).scope.structures o.type in
        let t = (judge_optional_initializer true (Some o.type) value (named_at name (Some o.type) s)).scope in
        let d = static_at w s name o.type value i fit below o.complete o.object none q
        (ap (λ z. static_faults_with name.span.start (Some l) z t) (sym q) ∙ sum)
        (subst (λ z. Ends w (static_scope (Some l) z t)) q ends) in
        subst (λ z. IsDeclared w s (static_value (Some l) z) (static_scope (Some l) z t)) (sym q) d
    by_value None q ends none sum =
        let t = (judge_optional_initializer true (Some o.type) value (named_at name (Some o.type) s)).scope in
        let l = layout_of t.structures o.type in
        let there = static_value_there w s name o.type value fit below o.complete o.object
        (subst (λ z. Ends w (static_scope (Some l) z t)) q ends) none in
        absurd (never there.0 (sym there.1 ∙ q))

    at : Given (Some o.type) (Some o.type)
    at = by_value _ refl
