-- The state in which a test starts.
use Rattle.std.proofs.Common.{◌≡◌, ℕ, zero, suc, ◌+◌, ℤ, List, [], ◌∷◌, ◌++◌, length, map, refl, ap, subst, ◌∙◌, arith, Some}
use Rattle.std.specs.Prelude.{slice_get}
use Rattle.std.proofs.lemmas.List.{length-map}
use Rattle.mc_value.specs.declared.int_type.IntType.{IntType}
use Rattle.mc_value.specs.IntTypes.{InRange}
use Rattle.mc_typed.specs.Layout.{ObjectType, scalars}
use Rattle.mc_typed.specs.Sound.{AreInRange, AreInitial, AreLaidOut}
use Rattle.mc_typed.specs.Tree as t
use Rattle.mc_interp.specs.Machines.{initial_of}
use Rattle.mc_interp.specs.Typed.{HasTypes, Stands}
use Rattle.mc_interp.proofs.Entered.{frame_types, objects_stand}
use Rattle.mc_interp.proofs.Placed.{none_some, some_eq}

abbrev pub objects_of : List t.StaticObject → List t.Object
objects_of statics = map (λ (s : t.StaticObject). s.object) statics

-- ---- the initial values have the types of their cells

pub in_range_length : (types : List IntType) (vs : List ℤ) → AreInRange types vs → length vs ≡ length types
in_range_length [] [] h = refl
in_range_length [] (v ∷ vs) h = absurd h
in_range_length (a ∷ types) [] h = absurd h
in_range_length (a ∷ types) (v ∷ vs) h = ap suc (in_range_length types vs h.1)

in_range_joined : (types : List IntType) (vs : List ℤ) (more : List IntType) (ws : List ℤ) → AreInRange types vs → AreInRange more ws →
    AreInRange (types ++ more) (vs ++ ws)
in_range_joined [] [] more ws h k = k
in_range_joined [] (v ∷ vs) more ws h k = absurd h
in_range_joined (a ∷ types) [] more ws h k = absurd h
in_range_joined (a ∷ types) (v ∷ vs) more ws h k = (h.0, in_range_joined types vs more ws h.1 k)

all_in_range : (statics : List t.StaticObject) → AreInitial statics → AreInRange (frame_types (objects_of statics)) (initial_of statics)
all_in_range [] h = tt
all_in_range (s ∷ ss) h =
    in_range_joined (scalars s.object.object_type) s.initial (frame_types (objects_of ss)) (initial_of ss) h.0 (all_in_range ss h.1)

each_in_range : (types : List IntType) (vs : List ℤ) → AreInRange types vs → (k : ℕ) (a : IntType) (v : ℤ) → slice_get types k ≡ Some a →
    slice_get (map Some vs) k ≡ Some (Some v) → InRange a v
each_in_range [] vs h k a v e f = none_some a e
each_in_range (b ∷ types) [] h k a v e f = absurd h
each_in_range (b ∷ types) (w ∷ vs) h zero a v e f =
    subst (λ b. InRange b v) (some_eq b a e) (subst (InRange b) (some_eq w v (some_eq (Some w) (Some v) f)) h.0)
each_in_range (b ∷ types) (w ∷ vs) h (suc k) a v e f = each_in_range types vs h.1 k a v e f

pub statics_typed : (statics : List t.StaticObject) → AreInitial statics → HasTypes (frame_types (objects_of statics)) (map Some (initial_of statics))
statics_typed statics h = record {
  room = length-map (initial_of statics) Some ∙ in_range_length (frame_types (objects_of statics)) (initial_of statics) (all_in_range statics h);
  each = each_in_range (frame_types (objects_of statics)) (initial_of statics) (all_in_range statics h);
}

pub statics_stand : (structures : List ObjectType) (statics : List t.StaticObject) → AreLaidOut structures 0 (objects_of statics) → (k : ℕ) (o : t.Object) →
    slice_get (objects_of statics) k ≡ Some o → Stands (frame_types (objects_of statics)) o.start o.object_type
statics_stand structures statics h k o e =
    let z : 0 + o.start ≡ o.start = omega arith in
    subst (λ i. Stands (frame_types (objects_of statics)) i o.object_type) z
    (objects_stand (frame_types (objects_of statics)) structures 0 0 (objects_of statics) h
    (λ j l. ap (slice_get (frame_types (objects_of statics))) (omega arith)) (omega arith) k o e)
