-- What sound values stand for: integers, structures, and effects.
use Rattle.std.proofs.Common.{◌≡◌, ℕ, ◌==◌, Bool, true, false, if◌then◌else◌, List, [], ◌∷◌, Option, Some, None, option_map, refl, ap, sym, ◌∙◌, subst, arith, ◌⊎◌, inl, inr}
use Rattle.mc_value.specs.declared.int_type.IntType.{IntType}
use Rattle.mc_typed.specs.declared.expressions.Slot.{Slot}
use Rattle.mc_typed.specs.Tree.{Place, Expression, StructureValue, FunctionCall, Effect}
use Rattle.mc_typed.specs.Tree as t
use Rattle.mc_typed.specs.Frames.{slots, slots_structure, slots_effect}
use Rattle.mc_typed.specs.Sound.{type_of, place_type, structure_type, IsStructureType, IsPlace, IsExpression, IsEffect, IsCast}
use Rattle.mc_typed.specs.Sound as sound
use Rattle.types_rules.specs.Types.{Base, Void, Integer, Tagged, CType, plain, Structure, is_complete, layout_of_base, arrays_of, layout_of, same_integer}
use Rattle.types_rules.specs.Values.{Value, Number, Stored, Borrowed, Returned, Done, Assigned, Designator, Kind, IsVoid, IsAssignment, IsInteger, IsStructure, IsArray, IsFunction, kind_of_base, kind_of_object, kind_of, Found, kind_found, is_integer, is_structure, is_effect, is_discarded, fails, number_stored, number_in, structure_stored, structure_in, any_structure_in, number_found, value_effect, discarded_in, effect_in, whole}
use Rattle.types_rules.specs.Initializers.{is_kind}
use Rattle.types_rules.specs.Expressions.{convert_to}
use Rattle.types_rules.specs.Scopes.{Scope}
use Rattle.laws_soundness.specs.Fits.{World, IsTypeIn, Completes, IsSoundValue, slots_of, IsWell}
use Rattle.laws_soundness.proofs.Tests.{not_false, and_then_some}
use Rattle.laws_soundness.proofs.IntTypes.{same_integers}
use Rattle.laws_soundness.proofs.Fitting.{layout_kept, complete_kept}

-- ---- conversions

pub record IsConverted (c : sound.Scope) (a : IntType) (e f : Expression) : Type 0 where
  pub sound : IsExpression f c
  pub type : type_of f ≡ a
  pub slots : slots f ≡ slots e

pub converts : (c : sound.Scope) (a : IntType) (e : Expression) → IsExpression e c
    → IsConverted c a e (convert_to a e)
converts c a e h = by_test (same_integer (type_of e) a) refl
  where
    by_test : (b : Bool) → same_integer (type_of e) a ≡ b
        → IsConverted c a e (if b then e else t.Convert a false e (t.span_of e))
    by_test true q = record { sound = h; type = same_integers (type_of e) a q; slots = refl }
    by_test false q = record { sound = h; type = refl; slots = refl }

-- ---- kinds

-- what an object's type has to be for its kind
pub record IsPlain (u : CType) (b : Base) : Type 0 where
  pub base : u.base ≡ b
  pub lengths : u.lengths ≡ []

pub integer_object : (u : CType) (b : Base) (ls : List ℕ) → u.base ≡ b → u.lengths ≡ ls
    → is_integer (kind_of_object u ls) ≡ true → (a : IntType) × IsPlain u (Integer a)
integer_object u (Integer a) [] p q h = (a, record { base = p; lengths = q })
integer_object u Void [] p q h = absurd (by_kind (ap (λ b. is_integer (kind_of_base b)) p))
  where
    by_kind : is_integer (kind_of_base u.base) ≡ false → ⊥
    by_kind e = cc
integer_object u (Tagged k) [] p q h = absurd (by_kind (ap (λ b. is_integer (kind_of_base b)) p))
  where
    by_kind : is_integer (kind_of_base u.base) ≡ false → ⊥
    by_kind e = cc
integer_object u b (n ∷ ns) p q h = absurd (cc)

pub structure_object : (u : CType) (k : ℕ) (b : Base) (ls : List ℕ) → u.base ≡ b → u.lengths ≡ ls
    → is_kind k (kind_of_object u ls) ≡ true → IsPlain u (Tagged k)
structure_object u k (Tagged j) [] p q h =
    let e : is_kind k (kind_of_base u.base) ≡ (j == k) = ap (λ b. is_kind k (kind_of_base b)) p in
    let same : j ≡ k = same_number j k (sym e ∙ h) in
    record { base = p ∙ ap Tagged same; lengths = q }
  where
    same_number : (m n : ℕ) → (m == n) ≡ true → m ≡ n
    same_number m n h = grind (arith, h)
structure_object u k Void [] p q h = absurd (by_kind (ap (λ b. is_kind k (kind_of_base b)) p))
  where
    by_kind : is_kind k (kind_of_base u.base) ≡ false → ⊥
    by_kind e = cc
structure_object u k (Integer a) [] p q h = absurd (by_kind (ap (λ b. is_kind k (kind_of_base b)) p))
  where
    by_kind : is_kind k (kind_of_base u.base) ≡ false → ⊥
    by_kind e = cc
structure_object u k b (n ∷ ns) p q h = absurd (cc)

pub plain_layout : (all : List Structure) (u : CType) (b : Base) → IsPlain u b
    → layout_of all u ≡ layout_of_base all b
plain_layout all u b p =
    ap (λ l. arrays_of l (layout_of_base all u.base)) p.lengths ∙ ap (layout_of_base all) p.base

-- ---- integers

pub record IsNumber (w : World) (v : Value) : Type 0 where
  pub number : Expression
  pub is : number_in v ≡ Some number
  pub sound : IsExpression number w.scope
  pub slots : slots number ≡ slots_of v

stored_number : (w : World) (all : List Structure) (place : Place) (u : CType) (a : IntType)
    → IsPlain u (Integer a) → IsSoundValue w all (Stored place u) → IsNumber w (Stored place u)
stored_number w all place u a p h = record {
  number = t.Read place a;
  is = ap (λ b. number_stored place b u.lengths) p.base ∙ ap (number_stored place (Integer a)) p.lengths;
  sound = (h.0, h.1 ∙ ap Some (plain_layout all u (Integer a) p));
  slots = refl;
}

pub numbers : (w : World) (all : List Structure) (v : Value) → is_integer (kind_of v) ≡ true
    → IsSoundValue w all v → IsNumber w v
numbers w all (Number e) k h = record { number = e; is = refl; sound = h; slots = refl }
numbers w all (Stored place u) k h =
    let p = integer_object u u.base u.lengths refl refl k in stored_number w all place u p.0 p.1 h
numbers w all (Borrowed array u span) k h = absurd (cc)
numbers w all (Returned c n) k h = absurd (cc)
numbers w all (Done effect) k h = absurd (cc)
numbers w all (Assigned effect) k h = absurd (cc)
numbers w all Designator k h = absurd (cc)

-- ---- structures

pub record IsStructureOf (w : World) (all : List Structure) (k : ℕ) (v : Value) : Type 0 where
  pub structure : StructureValue
  pub is : structure_in k v ≡ Some structure
  pub sound : sound.IsStructure structure w.scope
  pub type : structure_type w.scope structure ≡ Some (layout_of all (plain (Tagged k)))
  pub slots : slots_structure structure ≡ slots_of v
  pub complete : is_complete all (Tagged k) ≡ true

same_itself : (k : ℕ) → (k == k) ≡ true
same_itself k = grind arith

stored_structure : (w : World) (all : List Structure) (place : Place) (u : CType) (k : ℕ)
    → IsPlain u (Tagged k) → IsSoundValue w all (Stored place u)
    → IsStructureOf w all k (Stored place u)
stored_structure w all place u k p h =
    let type : place_type w.scope place ≡ Some (layout_of all (plain (Tagged k))) =
    h.1 ∙ ap Some (plain_layout all u (Tagged k) p) in
    record {
      structure = t.Stored place;
      is = ap (λ b. structure_stored k place b u.lengths) p.base
          ∙ ap (structure_stored k place (Tagged k)) p.lengths
          ∙ ap (λ b. if b then Some (t.Stored place) else None) (same_itself k);
      sound = (h.0, subst IsStructureType (sym type) tt);
      type = type;
      slots = refl;
      complete = subst (λ b. is_complete all b ≡ true) p.base h.2;
    }

returned_structure : (w : World) (all : List Structure) (c : FunctionCall) (j k : ℕ) → j ≡ k
    → IsSoundValue w all (Returned c j) → IsStructureOf w all k (Returned c j)
returned_structure w all c j k e h =
    subst (λ n. IsStructureOf w all n (Returned c j)) e (record {
      structure = t.Returned c;
      is = ap (λ b. if b then Some (t.Returned c) else None) (same_itself j);
      sound = h.0;
      type = h.1;
      slots = refl;
      complete = h.2;
    })

pub structures : (w : World) (all : List Structure) (k : ℕ) (v : Value)
    → is_kind k (kind_of v) ≡ true → IsSoundValue w all v → IsStructureOf w all k v
structures w all k (Number e) q h = absurd (cc)
structures w all k (Stored place u) q h =
    stored_structure w all place u k (structure_object u k u.base u.lengths refl refl q) h
structures w all k (Borrowed array u span) q h = absurd (cc)
structures w all k (Returned c j) q h = returned_structure w all c j k (same_number j k q) h
  where
    same_number : (m n : ℕ) → (m == n) ≡ true → m ≡ n
    same_number m n h = grind (arith, h)
structures w all k (Done effect) q h = absurd (cc)
structures w all k (Assigned effect) q h = absurd (cc)
structures w all k Designator q h = absurd (cc)

-- the number of a structure's type
pub some_structure : (k : Kind) → is_structure k ≡ true → (n : ℕ) × (k ≡ IsStructure n)
some_structure (IsStructure n) h = (n, refl)
some_structure IsVoid h = absurd (cc)
some_structure IsAssignment h = absurd (cc)
some_structure IsInteger h = absurd (cc)
some_structure (IsArray u) h = absurd (cc)
some_structure IsFunction h = absurd (cc)

pub kind_itself : (k : ℕ) → is_kind k (IsStructure k) ≡ true
kind_itself k = same_itself k

-- ---- effects

pub slots_whole : (e : Effect) → slots_effect (whole e) ≡ slots_effect e
slots_whole (t.NumberEffect e b) = refl
slots_whole (t.StructureEffect v b) = refl
slots_whole (t.Discard effect span) = slots_whole effect
slots_whole (t.Assign target a e span) = refl
slots_whole (t.Update target a operator common e span) = refl
slots_whole (t.Copy target v n span) = refl
slots_whole (t.CallEffect c) = refl
slots_whole (t.Output e span) = refl
slots_whole (t.ChoiceEffect e a b span) = refl

pub record IsDiscarded (w : World) (v : Value) : Type 0 where
  pub effect : Effect
  pub is : discarded_in v ≡ Some effect
  pub part : IsEffect effect false w.scope
  pub all : IsEffect (whole effect) true w.scope
  pub cast : IsCast effect
  pub cast_whole : IsCast (whole effect)
  pub slots : slots_effect effect ≡ slots_of v

-- an object of these kinds is an integer or a structure
integer_or_structure : (all : List Structure) (u : CType) (b : Base) (ls : List ℕ) → u.base ≡ b
    → u.lengths ≡ ls → is_discarded (kind_of_object u ls) ≡ true → is_complete all u.base ≡ true
    → ((a : IntType) × IsPlain u (Integer a)) ⊎ ((k : ℕ) × IsPlain u (Tagged k))
integer_or_structure all u (Integer a) [] p q h c = inl (a, record { base = p; lengths = q })
integer_or_structure all u (Tagged k) [] p q h c = inr (k, record { base = p; lengths = q })
integer_or_structure all u Void [] p q h c = absurd (by_base (ap (is_complete all) p))
  where
    by_base : is_complete all u.base ≡ false → ⊥
    by_base e = cc
integer_or_structure all u b (n ∷ ns) p q h c = absurd (cc)

number_discarded : (w : World) (v : Value) → IsNumber w v
    → discarded_in v ≡ value_effect (number_in v) (any_structure_in (kind_of v) v)
    → IsDiscarded w v
number_discarded w v n e = record {
  effect = t.NumberEffect n.number false;
  is = e ∙ ap (λ o. value_effect o (any_structure_in (kind_of v) v)) n.is;
  part = (refl, n.sound);
  all = (refl, n.sound);
  cast = tt;
  cast_whole = tt;
  slots = n.slots;
}

structure_discarded : (w : World) (all : List Structure) (k : ℕ) (v : Value)
    → IsStructureOf w all k v → kind_of v ≡ IsStructure k → number_in v ≡ None
    → discarded_in v ≡ value_effect (number_in v) (any_structure_in (kind_of v) v)
    → IsDiscarded w v
structure_discarded w all k v s q n e = record {
  effect = t.StructureEffect s.structure false;
  is = e ∙ ap (λ o. value_effect o (any_structure_in (kind_of v) v)) n
      ∙ ap (λ o. value_effect None (any_structure_in o v)) q ∙ ap (value_effect None) s.is;
  part = (refl, s.sound);
  all = (refl, s.sound);
  cast = tt;
  cast_whole = tt;
  slots = s.slots;
}

pub discards : (w : World) (all : List Structure) (v : Value) → is_discarded (kind_of v) ≡ true
    → IsSoundValue w all v → IsDiscarded w v
discards w all (Number e) k h = number_discarded w (Number e) (numbers w all (Number e) refl h) refl
discards w all (Stored place u) k h =
    elim (integer_or_structure all u u.base u.lengths refl refl k h.2) [
      | inl p ↦ number_discarded w (Stored place u) (stored_number w all place u p.0 p.1 h) refl
      | inr p ↦ structure_discarded w all p.0 (Stored place u)
          (stored_structure w all place u p.0 p.1 h)
          (ap (kind_of_object u) p.1.lengths ∙ ap kind_of_base p.1.base)
          (ap (λ b. number_stored place b u.lengths) p.1.base) refl
    ]
discards w all (Borrowed array u span) k h = absurd (cc)
discards w all (Returned c n) k h =
    structure_discarded w all n (Returned c n) (returned_structure w all c n n refl h) refl refl refl
discards w all (Done effect) k h = record {
  effect = effect;
  is = refl;
  part = h.0;
  all = h.1;
  cast = h.2;
  cast_whole = h.3;
  slots = refl;
}
discards w all (Assigned effect) k h = absurd (cc)
discards w all Designator k h = absurd (cc)

pub record IsWhole (w : World) (v : Value) : Type 0 where
  pub effect : Effect
  pub is : effect_in v ≡ Some effect
  pub sound : IsEffect (whole effect) true w.scope
  pub slots : slots_effect (whole effect) ≡ slots_of v

whole_discarded : (w : World) (v : Value) → IsDiscarded w v → effect_in v ≡ discarded_in v
    → IsWhole w v
whole_discarded w v d e = record {
  effect = d.effect;
  is = e ∙ d.is;
  sound = d.all;
  slots = slots_whole d.effect ∙ d.slots;
}

pub effects : (w : World) (all : List Structure) (v : Value) → is_effect (kind_of v) ≡ true
    → IsSoundValue w all v → IsWhole w v
effects w all (Number e) k h =
    whole_discarded w (Number e) (discards w all (Number e) refl h) refl
effects w all (Stored place u) k h =
    whole_discarded w (Stored place u)
    (discards w all (Stored place u) (still_discarded u.lengths k) h) refl
  where
    of_base : (b : Base) → is_effect (kind_of_base b) ≡ true → is_discarded (kind_of_base b) ≡ true
    of_base Void e = refl
    of_base (Integer a) e = refl
    of_base (Tagged n) e = refl

    still_discarded : (ls : List ℕ) → is_effect (kind_of_object u ls) ≡ true
        → is_discarded (kind_of_object u ls) ≡ true
    still_discarded [] e = of_base u.base e
    still_discarded (n ∷ ns) e = absurd (cc)
effects w all (Borrowed array u span) k h = absurd (cc)
effects w all (Returned c n) k h =
    whole_discarded w (Returned c n) (discards w all (Returned c n) refl h) refl
effects w all (Done effect) k h =
    whole_discarded w (Done effect) (discards w all (Done effect) refl h) refl
effects w all (Assigned effect) k h = record {
  effect = effect;
  is = refl;
  sound = subst (λ e. IsEffect e true w.scope) (sym h.1) h.0;
  slots = slots_whole effect;
}
effects w all Designator k h = absurd (cc)

-- ---- values go on being sound

pub value_kept : (w : World) (all more : List Structure) (v : Value) → Completes all more
    → IsSoundValue w all v → IsSoundValue w more v
value_kept w all more (Number e) c h = h
value_kept w all more (Stored place u) c h = (
  h.0,
  h.1 ∙ ap Some (layout_kept all more u c h.2),
  complete_kept all more u.base c h.2,
  subst (IsTypeIn w.structures) (layout_kept all more u c h.2) h.3,
)
value_kept w all more (Borrowed array u span) c h = (
  h.0 ∙ ap Some (layout_kept all more u c h.1),
  complete_kept all more u.base c h.1,
  subst (IsTypeIn w.structures) (layout_kept all more u c h.1) h.2,
)
value_kept w all more (Returned k n) c h = (
  h.0,
  h.1 ∙ ap Some (layout_kept all more (plain (Tagged n)) c h.2),
  complete_kept all more (Tagged n) c h.2,
)
value_kept w all more (Done effect) c h = h
value_kept w all more (Assigned effect) c h = h
value_kept w all more Designator c h = h

-- ---- what is found

pub known_kind : (test : Kind → Bool) (o : Option Value) (v : Value) → o ≡ Some v
    → fails test (option_map kind_of o) ≡ false → test (kind_of v) ≡ true
known_kind test o v is h =
    not_false (test (kind_of v)) (subst (λ x. fails test (option_map kind_of x) ≡ false) is h)

pub record IsNumberFound (w : World) (x : Found) (l : List Slot) : Type 0 where
  pub number : Expression
  pub is : number_found x ≡ Some number
  pub sound : IsExpression number w.scope
  pub slots : slots number ≡ l

pub finds_number : (w : World) (s : Scope) (x : Found) (h : IsWell w s x)
    → fails is_integer (kind_found x) ≡ false → IsNumberFound w x (slots_of h.value)
finds_number w s x h k =
    let n = numbers w x.scope.structures h.value (known_kind is_integer x.value h.value h.is k) h.sound in
    record {
      number = n.number;
      is = and_then_some number_in x.value h.value h.is ∙ n.is;
      sound = n.sound;
      slots = n.slots;
    }
