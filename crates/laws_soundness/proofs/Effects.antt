-- Casts, choices and assignments: what is found of them is well where their parts are and they have
-- no fault of their own.
use Rattle.std.proofs.Common.{◌≡◌, ℕ, ◌==◌, pos, Bool, true, false, not, ◌&&◌, ◌||◌, List, [], ◌∷◌, ◌++◌, Option, Some, None, option_map, option_and_then, refl, ap, sym, ◌∙◌, subst, arith, ◌⊎◌, inl, inr}
use Rattle.mc_span.specs.declared.span.Span.{Span}
use Rattle.mc_tree.specs.declared.expressions.step_operator.StepOperator.{StepOperator}
use Rattle.mc_tree.specs.declared.expressions.step_operator.StepOperator.TheVariants as step
use Rattle.mc_tree.specs.declared.expressions.assignment_operator.AssignmentOperator.{AssignmentOperator}
use Rattle.mc_tree.specs.declared.expressions.assignment_operator.AssignmentOperator.TheVariants as assign
use Rattle.mc_tree.specs.Tree as tree
use Rattle.mc_value.specs.declared.int_type.IntType.{IntType}
use Rattle.mc_value.specs.declared.int_type.IntType.TheVariants as the
use Rattle.mc_value.specs.declared.operators.BinOp.{BinOp}
use Rattle.mc_value.specs.declared.operators.BinOp.TheVariants as op
use Rattle.mc_value.specs.declared.operators.ShiftOp.{ShiftOp}
use Rattle.mc_value.specs.declared.operators.ShiftOp.TheVariants as shift
use Rattle.mc_value.specs.IntTypes.{InRange}
use Rattle.mc_value.specs.Conversions.{promoted, common_of}
use Rattle.mc_typed.specs.declared.operators.Operator.TheVariants.{Shift}
use Rattle.mc_typed.specs.declared.expressions.Slot.{Slot}
use Rattle.mc_typed.specs.Layout.{Scalar, cells}
use Rattle.mc_typed.specs.Tree.{Place, Expression, Effect}
use Rattle.mc_typed.specs.Tree as t
use Rattle.mc_typed.specs.Frames.{slots, slots_place, slots_effect}
use Rattle.mc_typed.specs.Sound.{type_of, place_type, IsPlace, IsExpression, IsEffect, compares}
use Rattle.types_faults.specs.declared.fault.FaultKind.TheVariants.{Mismatch}
use Rattle.types_rules.specs.Types.{Base, Void, Integer, Tagged, CType, plain, Structure, is_complete, layout_of, cells_of}
use Rattle.types_rules.specs.Scopes.{Scope}
use Rattle.types_rules.specs.Values.{Judged, Value, Number, Stored, Borrowed, Returned, Done, Assigned, Designator, Kind, IsVoid, IsInteger, IsStructure, IsArray, IsAssignment, IsFunction, kind_of_base, kind_of_object, kind_of, Found, kind_found, is_integer, is_discarded, fails, number_in, number_found, lift2, whole}
use Rattle.types_rules.specs.Initializers.{is_kind}
use Rattle.types_rules.specs.Expressions.{convert_to, promote, common_type, literal, not_tagged, cast_base, cast_faults_to, cast_faults, cast_value_to, casts_to_integer, may_cast_to_integer, cast_found, are_arms, arms_fail, conditional_faults, choice_of, choice_of_effects, arms_value, conditional_found, is_assigned, target_fails, sides_fit, sides_fail, assign_faults, update_faults, assign_effect, update_in_common_type, update_of, update_effect, effect_on, assign_found, update_found, assignment_found, step_operator, step_found}
use Rattle.laws_soundness.specs.Fits.{World, IsTypeIn, Completes, IsSoundValue, slots_of, Designates, IsWell, IsTyped}
use Rattle.laws_soundness.proofs.Lists.{right_nil}
use Rattle.laws_soundness.proofs.Tests.{nil_left, nil_right, no_fault, or_left, or_right, not_false, and_left, and_right, false_true, and_then_some, lift2_some}
use Rattle.laws_soundness.proofs.IntTypes.{promoted_twice, common_stays}
use Rattle.laws_soundness.proofs.Sizes.{cells_exact}
use Rattle.laws_soundness.proofs.Fitting.{made_as, made_two}
use Rattle.laws_soundness.proofs.Values.{converts, IsPlain, integer_object, structure_object, plain_layout, IsNumber, numbers, IsStructureOf, structures, discards, value_kept, known_kind, finds_number}
use Rattle.laws_soundness.proofs.Expressions.{promotes, literal_well, in_range_is}

-- ---- casts

record IsCastTo (w : World) (span : Span) (v : Value) (b : Option Base) : Type 0 where
  value : Value
  is : cast_value_to span v b ≡ Some value
  sound : (all : List Structure) → IsSoundValue w all value
  slots : slots_of value ≡ slots_of v
  number : casts_to_integer b ≡ true → is_integer (kind_of value) ≡ true

casts_to : (w : World) (all : List Structure) (span : Span) (e : tree.Expression) (v : Value) (b : Base)
    → not_tagged b ≡ Some b → cast_faults_to span.start e (Some (kind_of v)) (Some b) ≡ []
    → IsSoundValue w all v → IsCastTo w span v (Some b)
casts_to w all span e v Void n h s =
    let k = not_false (is_discarded (kind_of v)) (no_fault _ Mismatch _ h) in
    let d = discards w all v k s in
    record {
      value = Done (t.Discard d.effect span);
      is = ap (option_map (λ effect. Done (t.Discard effect span))) d.is;
      sound = λ more. ((d.cast, d.part), (d.cast_whole, d.all), tt, tt);
      slots = d.slots;
      number = λ q. false_true q;
    }
casts_to w all span e v (Integer a) n h s =
    let k = not_false (is_integer (kind_of v)) (no_fault _ Mismatch _ h) in
    let m = numbers w all v k s in
    record {
      value = Number (t.Convert a true m.number span);
      is = ap (option_map (λ x. Number (t.Convert a true x span))) m.is;
      sound = λ more. m.sound;
      slots = m.slots;
      number = λ q. refl;
    }
casts_to w all span e v (Tagged k) n h s = absurd (cc)

casts : (w : World) (all : List Structure) (span : Span) (e : tree.Expression) (v : Value) (o : Option Base)
    → ((b : Base) → o ≡ Some b → not_tagged b ≡ Some b)
    → cast_faults_to span.start e (Some (kind_of v)) o ≡ [] → IsSoundValue w all v
    → IsCastTo w span v o
casts w all span e v None n h s = absurd (cc)
casts w all span e v (Some b) n h s = casts_to w all span e v b (n b refl) h s

cast_bases : (u : CType) (ls : List ℕ) (b : Base) → cast_base u ls ≡ Some b → not_tagged b ≡ Some b
cast_bases u [] b h = by_base u.base h
  where
    by_base : (c : Base) → not_tagged c ≡ Some b → not_tagged b ≡ Some b
    by_base Void h = let same : Void ≡ b = cc in subst (λ x. not_tagged x ≡ Some x) same refl
    by_base (Integer a) h =
        let same : Integer a ≡ b = cc in subst (λ x. not_tagged x ≡ Some x) same refl
    by_base (Tagged k) h = absurd (cc)
cast_bases u (n ∷ ns) b h = absurd (cc)

pub cast_well : (w : World) (s : Scope) (span : Span) (x : Judged CType) (e : tree.Expression) (y : Found)
    → IsTyped w s x → IsWell w x.scope y
    → cast_faults span.start e (kind_found y) x.value ≡ [] → IsWell w s (cast_found span x e y)
cast_well w s span x e y wx wy h =
    let u = wx.value in
    let o = cast_base u u.lengths in
    let own : cast_faults_to span.start e (Some (kind_of wy.value)) o ≡ [] =
    subst (λ k. cast_faults_to span.start e (option_map kind_of k) o ≡ []) wy.is
    (subst (λ t. cast_faults span.start e (kind_found y) t ≡ []) wx.is h) in
    let c = casts w y.scope.structures span e wy.value o (cast_bases u u.lengths) own wy.sound in
    record {
      value = c.value;
      is = and_then_some _ x.value u wx.is ∙ and_then_some _ y.value wy.value wy.is ∙ c.is;
      sound = c.sound y.scope.structures;
      made = made_as s y.scope _ _ (sym c.slots)
          (made_two s x.scope y.scope [] _
          ([], wx.still ∙ sym (right_nil s.objects), refl) wy.made);
      fits = wy.fits;
      place = λ q. false_true q;
      constant = λ q. (
        (wy.constant (and_left y.constant _ q)).0 ∙ wx.still,
        c.number (subst (λ t. may_cast_to_integer t ≡ true) wx.is (and_right y.constant _ q)),
      );
    }

-- ---- choices

record AreArms (w : World) (span : Span) (e : Expression) (v u : Value) (l : List Slot) : Type 0 where
  value : Value
  is : arms_value span e v u ≡ Some value
  sound : (all : List Structure) → IsSoundValue w all value
  slots : slots_of value ≡ l
  no_place : Designates value → ⊥
  number : is_integer (kind_of v) ≡ true → is_integer (kind_of value) ≡ true

void_done : (w : World) (all : List Structure) (v : Value) → kind_of v ≡ IsVoid
    → IsSoundValue w all v → (effect : Effect) × (v ≡ Done effect)
void_done w all (Done effect) k h = (effect, refl)
void_done w all (Number e) k h = absurd (cc)
void_done w all (Borrowed array u span) k h = absurd (cc)
void_done w all (Returned c n) k h = absurd (cc)
void_done w all (Assigned effect) k h = absurd (cc)
void_done w all Designator k h = absurd (cc)
void_done w all (Stored place u) k h = absurd (by_lengths u.lengths k)
  where
    by_base : (b : Base) → u.base ≡ b → kind_of_base b ≡ IsVoid → ⊥
    by_base Void p q = let c : is_complete all u.base ≡ false = ap (is_complete all) p in let d = h.2 in cc
    by_base (Integer a) p q = cc
    by_base (Tagged n) p q = cc

    by_lengths : (ls : List ℕ) → kind_of_object u ls ≡ IsVoid → ⊥
    by_lengths [] q = by_base u.base refl q
    by_lengths (n ∷ ns) q = cc

arms_of_numbers : (span : Span) (e : Expression) (v u : Value) → is_integer (kind_of v) ≡ true
    → arms_value span e v u ≡ lift2 (choice_of span e) (number_in v) (number_in u)
arms_of_numbers span e (Number x) u k = refl
arms_of_numbers span e (Stored place y) u k = refl
arms_of_numbers span e (Borrowed array y name) u k = absurd (cc)
arms_of_numbers span e (Returned c n) u k = absurd (cc)
arms_of_numbers span e (Done effect) u k = absurd (cc)
arms_of_numbers span e (Assigned effect) u k = absurd (cc)
arms_of_numbers span e Designator u k = absurd (cc)

both_arms : (k l : Kind) → are_arms k l ≡ true
    → ((k ≡ IsVoid) × (l ≡ IsVoid)) ⊎ ((is_integer k ≡ true) × (is_integer l ≡ true))
both_arms IsVoid IsVoid h = inl (refl, refl)
both_arms IsInteger IsInteger h = inr (refl, refl)
both_arms IsVoid IsInteger h = absurd (cc)
both_arms IsVoid IsAssignment h = absurd (cc)
both_arms IsVoid (IsStructure n) h = absurd (cc)
both_arms IsVoid (IsArray u) h = absurd (cc)
both_arms IsVoid IsFunction h = absurd (cc)
both_arms IsInteger IsVoid h = absurd (cc)
both_arms IsInteger IsAssignment h = absurd (cc)
both_arms IsInteger (IsStructure n) h = absurd (cc)
both_arms IsInteger (IsArray u) h = absurd (cc)
both_arms IsInteger IsFunction h = absurd (cc)
both_arms IsAssignment l h = absurd (cc)
both_arms (IsStructure n) l h = absurd (cc)
both_arms (IsArray u) l h = absurd (cc)
both_arms IsFunction l h = absurd (cc)

done_arms : (w : World) (all : List Structure) (span : Span) (e : Expression) (v u : Value) (a b : Effect)
    → v ≡ Done a → u ≡ Done b → IsExpression e w.scope → IsSoundValue w all v → IsSoundValue w all u
    → AreArms w span e v u (slots e ++ slots_of v ++ slots_of u)
done_arms w all span e v u a b p q h hv hu =
    let sv = subst (IsSoundValue w all) p hv in
    let su = subst (IsSoundValue w all) q hu in
    subst (λ x. AreArms w span e x u (slots e ++ slots_of x ++ slots_of u)) (sym p)
    (subst (λ y. AreArms w span e (Done a) y (slots e ++ slots_effect a ++ slots_of y)) (sym q) (record {
      value = choice_of_effects span e a b;
      is = refl;
      sound = λ more. ((h, sv.0, su.0), (h, sv.0, su.0), tt, tt);
      slots = refl;
      no_place = λ d. d;
      number = λ q. false_true q;
    }))

number_arms : (w : World) (span : Span) (e : Expression) (v u : Value)
    → is_integer (kind_of v) ≡ true → IsExpression e w.scope → IsNumber w v → IsNumber w u
    → AreArms w span e v u (slots e ++ slots_of v ++ slots_of u)
number_arms w span e v u k h m n =
    let a = common_type m.number n.number in
    let p = converts w.scope a m.number m.sound in
    let q = converts w.scope a n.number n.sound in
    record {
      value = choice_of span e m.number n.number;
      is = arms_of_numbers span e v u k
          ∙ lift2_some (choice_of span e) (number_in v) (number_in u) m.number n.number m.is n.is;
      sound = λ more. (
        h,
        p.sound,
        q.sound,
        (common_stays (type_of m.number) (type_of n.number)).0,
        p.type,
        q.type,
      );
      slots = ap (λ l. slots e ++ l ++ slots (convert_to a n.number)) (p.slots ∙ m.slots)
          ∙ ap (λ l. slots e ++ slots_of v ++ l) (q.slots ∙ n.slots);
      no_place = λ d. d;
      number = λ q. refl;
    }

arms : (w : World) (all : List Structure) (span : Span) (e : Expression) (v u : Value)
    → are_arms (kind_of v) (kind_of u) ≡ true → IsExpression e w.scope → IsSoundValue w all v
    → IsSoundValue w all u → AreArms w span e v u (slots e ++ slots_of v ++ slots_of u)
arms w all span e v u k h hv hu =
    elim (both_arms (kind_of v) (kind_of u) k) [
      | inl p ↦
          let a = void_done w all v p.0 hv in
          let b = void_done w all u p.1 hu in
          done_arms w all span e v u a.0 b.0 a.1 b.1 h hv hu
      | inr p ↦ number_arms w span e v u p.0 h (numbers w all v p.0 hv) (numbers w all u p.1 hu)
    ]

pub conditional_well : (w : World) (s : Scope) (span : Span) (x y z : Found) → IsWell w s x
    → IsWell w x.scope y → IsWell w y.scope z → Completes y.scope.structures z.scope.structures
    → conditional_faults span.start (kind_found x) (kind_found y) (kind_found z) ≡ []
    → IsWell w s (conditional_found span x y z)
conditional_well w s span x y z wx wy wz c h =
    let b = no_fault _ Mismatch span.start h in
    let m = finds_number w s x wx (or_left (fails is_integer (kind_found x)) _ b) in
    let fit : not (are_arms (kind_of wy.value) (kind_of wz.value)) ≡ false =
    subst (λ o. arms_fail (Some (kind_of wy.value)) (option_map kind_of o) ≡ false) wz.is
    (subst (λ o. arms_fail (option_map kind_of o) (kind_found z) ≡ false) wy.is
    (or_right (fails is_integer (kind_found x)) _ b)) in
    let all = z.scope.structures in
    let a = arms w all span m.number wy.value wz.value (not_false _ fit) m.sound
    (value_kept w y.scope.structures all wy.value c wy.sound) wz.sound in
    record {
      value = a.value;
      is = and_then_some _ (number_found x) m.number m.is
          ∙ and_then_some _ y.value wy.value wy.is ∙ and_then_some _ z.value wz.value wz.is ∙ a.is;
      sound = a.sound all;
      made = made_as s z.scope _ _
          (sym (a.slots ∙ ap (λ l. l ++ slots_of wy.value ++ slots_of wz.value) m.slots))
          (made_two s y.scope z.scope _ _ (made_two s x.scope y.scope _ _ wx.made wy.made) wz.made);
      fits = wz.fits;
      place = λ q. false_true q;
      constant = λ q.
          let cx = wx.constant (and_left x.constant y.constant (and_left _ z.constant q)) in
          let cy = wy.constant (and_right x.constant y.constant (and_left _ z.constant q)) in
          let cz = wz.constant (and_right (x.constant && y.constant) z.constant q) in
          (cz.0 ∙ cy.0 ∙ cx.0, a.number cy.1);
    }

-- ---- assignments

record IsAssignedTo (w : World) (o : Option Value) (l : List Slot) : Type 0 where
  effect : Effect
  is : o ≡ Some (Assigned effect)
  sound : IsEffect effect true w.scope
  stays : whole effect ≡ effect
  slots : slots_effect effect ≡ l

-- what can be assigned to
record IsTarget (w : World) (all : List Structure) (v : Value) : Type 0 where
  place : Place
  type : CType
  is : v ≡ Stored place type
  sound : IsSoundValue w all (Stored place type)

target_of : (w : World) (all : List Structure) (v : Value) → Designates v
    → is_assigned (kind_of v) ≡ true → IsSoundValue w all v → IsTarget w all v
target_of w all (Stored place u) d k h = record { place = place; type = u; is = refl; sound = h }
target_of w all (Borrowed array u span) d k h = absurd (cc)
target_of w all (Number e) d k h = absurd d
target_of w all (Returned c n) d k h = absurd d
target_of w all (Done effect) d k h = absurd d
target_of w all (Assigned effect) d k h = absurd d
target_of w all Designator d k h = absurd d

both_sides : (k l : Kind) → sides_fit k l ≡ true
    → ((is_integer k ≡ true) × (is_integer l ≡ true))
    ⊎ ((n : ℕ) × (is_kind n k ≡ true) × (is_kind n l ≡ true))
both_sides IsInteger IsInteger h = inl (refl, refl)
both_sides (IsStructure j) (IsStructure k) h = inr (k, h, same_itself k)
  where
    same_itself : (k : ℕ) → (k == k) ≡ true
    same_itself k = grind arith
both_sides IsInteger IsVoid h = absurd (cc)
both_sides IsInteger IsAssignment h = absurd (cc)
both_sides IsInteger (IsStructure n) h = absurd (cc)
both_sides IsInteger (IsArray u) h = absurd (cc)
both_sides IsInteger IsFunction h = absurd (cc)
both_sides (IsStructure j) IsVoid h = absurd (cc)
both_sides (IsStructure j) IsAssignment h = absurd (cc)
both_sides (IsStructure j) IsInteger h = absurd (cc)
both_sides (IsStructure j) (IsArray u) h = absurd (cc)
both_sides (IsStructure j) IsFunction h = absurd (cc)
both_sides IsVoid l h = absurd (cc)
both_sides IsAssignment l h = absurd (cc)
both_sides (IsArray u) l h = absurd (cc)
both_sides IsFunction l h = absurd (cc)

number_assigned : (w : World) (all : List Structure) (span : Span) (place : Place) (u : CType) (v : Value)
    (a : IntType) → IsPlain u (Integer a) → IsSoundValue w all (Stored place u) → IsNumber w v
    → IsAssignedTo w (effect_on (assign_effect all span) (Stored place u) v)
    (slots_place place ++ slots_of v)
number_assigned w all span place u v a p h n =
    let q = converts w.scope a n.number n.sound in
    record {
      effect = t.Assign place a (convert_to a n.number) span;
      is = ap (λ l. option_map Assigned (assign_effect all span v place u.base l)) p.lengths
          ∙ ap (λ b. option_map Assigned (assign_effect all span v place b [])) p.base
          ∙ ap (λ o. option_map Assigned (option_map (λ e. t.Assign place a (convert_to a e) span) o)) n.is;
      sound = (refl, h.0, h.1 ∙ ap Some (plain_layout all u (Integer a) p), q.sound, q.type);
      stays = refl;
      slots = ap (λ l. slots_place place ++ l) (q.slots ∙ n.slots);
    }

structure_assigned : (w : World) (all : List Structure) (span : Span) (place : Place) (u : CType)
    (v : Value) (k : ℕ) → IsPlain u (Tagged k) → IsSoundValue w all (Stored place u)
    → IsStructureOf w all k v
    → IsAssignedTo w (effect_on (assign_effect all span) (Stored place u) v)
    (slots_place place ++ slots_of v)
structure_assigned w all span place u v k p h n =
    let type = h.1 ∙ ap Some (plain_layout all u (Tagged k) p) in
    let t_in = subst (IsTypeIn w.structures) (plain_layout all u (Tagged k) p) h.3 in
    let exact = cells_exact w.structures (layout_of all (plain (Tagged k))) t_in in
    record {
      effect = t.Copy place n.structure (cells_of all (plain (Tagged k))) span;
      is = ap (λ l. option_map Assigned (assign_effect all span v place u.base l)) p.lengths
          ∙ ap (λ b. option_map Assigned (assign_effect all span v place b [])) p.base
          ∙ ap (λ o. option_map Assigned
          (option_map (λ x. t.Copy place x (cells_of all (plain (Tagged k))) span) o)) n.is;
      sound = (refl, h.0, n.sound, type ∙ sym n.type, ap (option_map cells) n.type ∙ ap Some (sym exact));
      stays = refl;
      slots = ap (λ l. slots_place place ++ l) n.slots;
    }

assigned_to : (w : World) (all : List Structure) (span : Span) (v u : Value) → Designates v
    → is_assigned (kind_of v) ≡ true → sides_fit (kind_of v) (kind_of u) ≡ true
    → IsSoundValue w all v → IsSoundValue w all u
    → IsAssignedTo w (effect_on (assign_effect all span) v u) (slots_of v ++ slots_of u)
assigned_to w all span v u d k f hv hu =
    let target = target_of w all v d k hv in
    subst (λ x. IsAssignedTo w (effect_on (assign_effect all span) x u) (slots_of x ++ slots_of u))
    (sym target.is)
    (elim (both_sides (kind_of v) (kind_of u) f) [
      | inl p ↦
          let i = integer_object target.type target.type.base target.type.lengths refl refl
          (subst (λ x. is_integer (kind_of x) ≡ true) target.is p.0) in
          number_assigned w all span target.place target.type u i.0 i.1 target.sound
          (numbers w all u p.1 hu)
      | inr p ↦
          structure_assigned w all span target.place target.type u p.0
          (structure_object target.type p.0 target.type.base target.type.lengths refl refl
          (subst (λ x. is_kind p.0 (kind_of x) ≡ true) target.is p.1)) target.sound
          (structures w all p.0 u p.2 hu)
    ])

target_known : (test : Kind → Bool) (w : World) (s : Scope) (x : Found) (h : IsWell w s x)
    → target_fails test x.place x.value ≡ false
    → (Designates h.value) × (test (kind_of h.value) ≡ true)
target_known test w s x h b =
    let left = or_left (not x.place || fails test (option_map kind_of x.value)) _ b in (
      h.place (not_false x.place (or_left _ _ left)),
      known_kind test x.value h.value h.is (or_right (not x.place) _ left),
    )

pub assign_well : (w : World) (s : Scope) (span : Span) (x y : Found) → IsWell w s x
    → IsWell w x.scope y → Completes x.scope.structures y.scope.structures
    → assign_faults span.start x.place x.value (kind_found y) ≡ []
    → IsWell w s (assign_found span x y)
assign_well w s span x y wx wy c h =
    let b = no_fault _ Mismatch span.start h in
    let k = target_known is_assigned w s x wx (or_left (target_fails is_assigned x.place x.value) _ b) in
    let fit : not (sides_fit (kind_of wx.value) (kind_of wy.value)) ≡ false =
    subst (λ o. sides_fail (Some (kind_of wx.value)) (option_map kind_of o) ≡ false) wy.is
    (subst (λ o. sides_fail (option_map kind_of o) (kind_found y) ≡ false) wx.is
    (or_right (target_fails is_assigned x.place x.value) _ b)) in
    let all = y.scope.structures in
    let a = assigned_to w all span wx.value wy.value k.0 k.1 (not_false _ fit)
    (value_kept w x.scope.structures all wx.value c wx.sound) wy.sound in
    record {
      value = Assigned a.effect;
      is = and_then_some _ x.value wx.value wx.is ∙ and_then_some _ y.value wy.value wy.is ∙ a.is;
      sound = (a.sound, a.stays);
      made = made_as s y.scope _ _ (sym a.slots) (made_two s x.scope y.scope _ _ wx.made wy.made);
      fits = wy.fits;
      place = λ q. false_true q;
      constant = λ q. false_true q;
    }

-- ---- compound assignments

abbrev IsCompound : AssignmentOperator → Type 0
IsCompound assign.Assign = ⊥
IsCompound _ = Unit {0}

record IsUpdate (w : World) (o : Option Effect) (l : List Slot) : Type 0 where
  effect : Effect
  is : o ≡ Some effect
  sound : IsEffect effect true w.scope
  stays : whole effect ≡ effect
  slots : slots_effect effect ≡ l

updated_in_common_type : (w : World) (operator : BinOp) (place : Place) (a : IntType) (e : Expression)
    (span : Span) → compares operator ≡ false → IsPlace place w.scope
    → place_type w.scope place ≡ Some (Scalar a) → IsExpression e w.scope
    → IsUpdate w (Some (update_in_common_type operator place a e span)) (slots_place place ++ slots e)
updated_in_common_type w operator place a e span u h type i =
    let b = common_of a (type_of e) in
    let q = converts w.scope b e i in
    let stays = common_stays a (type_of e) in
    record {
      effect = update_in_common_type operator place a e span;
      is = refl;
      sound = (refl, h, type, u, stays.1, q.sound, (stays.0, refl, q.type));
      stays = refl;
      slots = ap (λ l. slots_place place ++ l) q.slots;
    }

shifted : (w : World) (operator : ShiftOp) (place : Place) (a : IntType) (e : Expression) (span : Span)
    → IsPlace place w.scope → place_type w.scope place ≡ Some (Scalar a) → IsExpression e w.scope
    → IsUpdate w (Some (t.Update place a (Shift operator) (promoted a) (promote e) span))
    (slots_place place ++ slots e)
shifted w operator place a e span h type i =
    let q = promotes w.scope e i in
    record {
      effect = t.Update place a (Shift operator) (promoted a) (promote e) span;
      is = refl;
      sound = (refl, h, type, tt, refl, q.sound, (promoted_twice a, refl, q.stays));
      stays = refl;
      slots = ap (λ l. slots_place place ++ l) q.slots;
    }

updates : (w : World) (operator : AssignmentOperator) (place : Place) (a : IntType) (e : Expression)
    (span : Span) → IsCompound operator → IsPlace place w.scope
    → place_type w.scope place ≡ Some (Scalar a) → IsExpression e w.scope
    → IsUpdate w (update_of operator place a e span) (slots_place place ++ slots e)
updates w assign.Assign place a e span o h type i = absurd o
updates w assign.Multiply place a e span o h type i =
    updated_in_common_type w op.Mul place a e span refl h type i
updates w assign.Divide place a e span o h type i =
    updated_in_common_type w op.Div place a e span refl h type i
updates w assign.Remainder place a e span o h type i =
    updated_in_common_type w op.Rem place a e span refl h type i
updates w assign.Add place a e span o h type i =
    updated_in_common_type w op.Add place a e span refl h type i
updates w assign.Subtract place a e span o h type i =
    updated_in_common_type w op.Sub place a e span refl h type i
updates w assign.ShiftLeft place a e span o h type i = shifted w shift.Left place a e span h type i
updates w assign.ShiftRight place a e span o h type i = shifted w shift.Right place a e span h type i
updates w assign.BitAnd place a e span o h type i =
    updated_in_common_type w op.And place a e span refl h type i
updates w assign.BitXor place a e span o h type i =
    updated_in_common_type w op.Xor place a e span refl h type i
updates w assign.BitOr place a e span o h type i =
    updated_in_common_type w op.Or place a e span refl h type i

assigned_if_integer : (k : Kind) → is_integer k ≡ true → is_assigned k ≡ true
assigned_if_integer IsInteger h = refl
assigned_if_integer IsVoid h = absurd (cc)
assigned_if_integer IsAssignment h = absurd (cc)
assigned_if_integer (IsStructure n) h = absurd (cc)
assigned_if_integer (IsArray u) h = absurd (cc)
assigned_if_integer IsFunction h = absurd (cc)

updated_at : (w : World) (all : List Structure) (operator : AssignmentOperator) (span : Span)
    (place : Place) (u : CType) (v : Value) (a : IntType) → IsCompound operator
    → IsPlain u (Integer a) → IsSoundValue w all (Stored place u) → IsNumber w v
    → IsAssignedTo w (effect_on (update_effect operator span) (Stored place u) v)
    (slots_place place ++ slots_of v)
updated_at w all operator span place u v a o p h n =
    let m = updates w operator place a n.number span o h.0
    (h.1 ∙ ap Some (plain_layout all u (Integer a) p)) n.sound in
    record {
      effect = m.effect;
      is = ap (λ l. option_map Assigned (update_effect operator span v place u.base l)) p.lengths
          ∙ ap (λ b. option_map Assigned (update_effect operator span v place b [])) p.base
          ∙ ap (λ x. option_map Assigned (option_and_then (λ e. update_of operator place a e span) x)) n.is
          ∙ ap (option_map Assigned) m.is;
      sound = m.sound;
      stays = m.stays;
      slots = m.slots ∙ ap (λ l. slots_place place ++ l) n.slots;
    }

updated_to : (w : World) (all : List Structure) (operator : AssignmentOperator) (span : Span)
    (v u : Value) → IsCompound operator → Designates v → is_integer (kind_of v) ≡ true
    → is_integer (kind_of u) ≡ true → IsSoundValue w all v → IsSoundValue w all u
    → IsAssignedTo w (effect_on (update_effect operator span) v u) (slots_of v ++ slots_of u)
updated_to w all operator span v u o d k l hv hu =
    let target = target_of w all v d (assigned_if_integer (kind_of v) k) hv in
    let i = integer_object target.type target.type.base target.type.lengths refl refl
    (subst (λ x. is_integer (kind_of x) ≡ true) target.is k) in
    subst (λ x. IsAssignedTo w (effect_on (update_effect operator span) x u) (slots_of x ++ slots_of u))
    (sym target.is)
    (updated_at w all operator span target.place target.type u i.0 o i.1 target.sound
    (numbers w all u l hu))

update_well : (w : World) (s : Scope) (operator : AssignmentOperator) (span : Span) (x y : Found)
    → IsCompound operator → IsWell w s x → IsWell w x.scope y
    → Completes x.scope.structures y.scope.structures
    → update_faults span.start x.place x.value (kind_found y) ≡ []
    → IsWell w s (update_found operator span x y)
update_well w s operator span x y o wx wy c h =
    let b = no_fault _ Mismatch span.start h in
    let k = target_known is_integer w s x wx (or_left (target_fails is_integer x.place x.value) _ b) in
    let l = known_kind is_integer y.value wy.value wy.is
    (or_right (target_fails is_integer x.place x.value) _ b) in
    let all = y.scope.structures in
    let a = updated_to w all operator span wx.value wy.value o k.0 k.1 l
    (value_kept w x.scope.structures all wx.value c wx.sound) wy.sound in
    record {
      value = Assigned a.effect;
      is = and_then_some _ x.value wx.value wx.is ∙ and_then_some _ y.value wy.value wy.is ∙ a.is;
      sound = (a.sound, a.stays);
      made = made_as s y.scope _ _ (sym a.slots) (made_two s x.scope y.scope _ _ wx.made wy.made);
      fits = wy.fits;
      place = λ q. false_true q;
      constant = λ q. false_true q;
    }

-- ---- each assignment, by its operator

-- the faults of its parts, and then its own
pub record AssignedParts (operator : AssignmentOperator) (span : Span) (x y : Found) : Type 0 where
  pub left : x.faults ≡ []
  pub right : y.faults ≡ []
  pub well : (w : World) (s : Scope) → IsWell w s x → IsWell w x.scope y
      → Completes x.scope.structures y.scope.structures
      → IsWell w s (assignment_found operator span x y)

update_parts : (operator : AssignmentOperator) (span : Span) (x y : Found) → IsCompound operator
    → assignment_found operator span x y ≡ update_found operator span x y
    → (assignment_found operator span x y).faults ≡ [] → AssignedParts operator span x y
update_parts operator span x y o e h =
    let g : x.faults ++ (y.faults ++ update_faults span.start x.place x.value (kind_found y)) ≡ [] =
    sym (ap (λ z. z.faults) e) ∙ h in
    let rest = nil_right x.faults _ g in
    record {
      left = nil_left x.faults _ g;
      right = nil_left y.faults _ rest;
      well = λ w s wx wy c. subst (IsWell w s) (sym e)
          (update_well w s operator span x y o wx wy c (nil_right y.faults _ rest));
    }

pub assigned_parts : (operator : AssignmentOperator) (span : Span) (x y : Found)
    → (assignment_found operator span x y).faults ≡ [] → AssignedParts operator span x y
assigned_parts assign.Assign span x y h =
    let rest = nil_right x.faults _ h in
    record {
      left = nil_left x.faults _ h;
      right = nil_left y.faults _ rest;
      well = λ w s wx wy c. assign_well w s span x y wx wy c (nil_right y.faults _ rest);
    }
assigned_parts assign.Multiply span x y h = update_parts assign.Multiply span x y tt refl h
assigned_parts assign.Divide span x y h = update_parts assign.Divide span x y tt refl h
assigned_parts assign.Remainder span x y h = update_parts assign.Remainder span x y tt refl h
assigned_parts assign.Add span x y h = update_parts assign.Add span x y tt refl h
assigned_parts assign.Subtract span x y h = update_parts assign.Subtract span x y tt refl h
assigned_parts assign.ShiftLeft span x y h = update_parts assign.ShiftLeft span x y tt refl h
assigned_parts assign.ShiftRight span x y h = update_parts assign.ShiftRight span x y tt refl h
assigned_parts assign.BitAnd span x y h = update_parts assign.BitAnd span x y tt refl h
assigned_parts assign.BitXor span x y h = update_parts assign.BitXor span x y tt refl h
assigned_parts assign.BitOr span x y h = update_parts assign.BitOr span x y tt refl h

-- ---- steps

one_well : (w : World) (s : Scope) (at : Span) (x : Found) → IsWell w s x
    → IsWell w x.scope (literal (pos 1) (Some the.Int) at x.scope)
one_well w s at x wx =
    literal_well w x.scope (pos 1) (Some the.Int) at wx.fits
    (λ b e. let same : the.Int ≡ b = cc in subst (λ c. InRange c (pos 1)) same (in_range_is the.Int (pos 1) refl))
    refl

-- the faults of its part, and then its own
pub record SteppedPart (operator : StepOperator) (at span : Span) (x : Found) : Type 0 where
  pub part : x.faults ≡ []
  pub well : (w : World) (s : Scope) → IsWell w s x → IsWell w s (step_found operator at span x)

step_part : (operator : StepOperator) (at span : Span) (x : Found)
    → IsCompound (step_operator operator) → (step_found operator at span x).faults ≡ []
    → SteppedPart operator at span x
step_part operator at span x o h = record {
  part = nil_left x.faults _ h;
  well = λ w s wx. update_well w s (step_operator operator) span x
      (literal (pos 1) (Some the.Int) at x.scope) o wx (one_well w s at x wx) (λ k ms e. e)
      (nil_right x.faults _ h);
}

pub stepped_part : (operator : StepOperator) (at span : Span) (x : Found)
    → (step_found operator at span x).faults ≡ [] → SteppedPart operator at span x
stepped_part step.Increment at span x h = step_part step.Increment at span x tt h
stepped_part step.Decrement at span x h = step_part step.Decrement at span x tt h
