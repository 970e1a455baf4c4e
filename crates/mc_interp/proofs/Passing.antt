-- What arguments are passed, and what a call does with them.
use Rattle.std.proofs.Common.{◌≡◌, ℕ, zero, suc, ◌+◌, ◌<◌, ◌≤◌, List, [], ◌∷◌, ◌++◌, length, map, refl, sym, ap, subst, ◌∙◌, arith, Option, Some, None, option_map}
use Rattle.std.specs.Prelude.{slice_get}
use Rattle.std.proofs.lemmas.Option.{slice_get-map}
use Rattle.mc_value.specs.declared.int_type.IntType.{IntType}
use Rattle.mc_typed.specs.declared.expressions.Slot.{Slot}
use Rattle.mc_typed.specs.Layout.{ObjectType}
use Rattle.mc_typed.specs.Layout.{cells as size_of}
use Rattle.mc_typed.specs.Tree as t
use Rattle.mc_typed.specs.Sound.{Scope, IsStructure, IsStructureType, structure_result, structure_type, result_at}
use Rattle.mc_steps.specs.Memories as memory
use Rattle.mc_steps.specs.Calls.{PassedArray, again_argument_does}
use Rattle.mc_probe.specs.Flat.{Activation}
use Rattle.mc_probe.specs.Expressions as does
use Rattle.mc_interp.specs.declared.store.Store.{Store}
use Rattle.mc_interp.specs.declared.frame.Frame.{Frame}
use Rattle.mc_interp.specs.declared.values.Lent as code
use Rattle.mc_interp.specs.Stores.{state_of, lent_of, Did}
use Rattle.mc_interp.specs.Typed.{StandsSome, StandsArray, IsLent, AreTyped, IsPlaced, IsSomeArgument}
use Rattle.mc_interp.specs.Frames.{activation_of, scope_in, IsReady, IsKept}
use Rattle.mc_interp.proofs.Placed.{lent_there}
use Rattle.mc_interp.proofs.Arguments.{slot_cells, slot_placed}
use Rattle.mc_interp.proofs.Runs.{did_gives}

-- ---- structures

pub known : (o : Option ObjectType) → IsStructureType o → (u : ObjectType) × (o ≡ Some u)
known None h = absurd h
known (Some u) h = (u, refl)

pub structure_known : (value : t.StructureValue) (c : Scope) → IsStructure value c →
    (u : ObjectType) × (structure_type c value ≡ Some u)
structure_known (t.Stored place) c h = known (structure_type c (t.Stored place)) h.1
structure_known (t.Returned (t.call f given result span)) c h =
    known (structure_result (result_at (slice_get c.functions f))) h.2

-- a structure that is copied, from where it was found to a temporary object
module _ (f : Frame) (m : Store) (room : ℕ) (ready : IsReady f m room) (value : t.StructureValue) (copy : Slot)
    (sound : IsSomeArgument (t.StructureArgument value copy) (scope_in f)) (from : ℕ)
    (placed : IsPlaced (scope_in f) (activation_of f) from (structure_type (scope_in f) value)) where
  abbrev its_type : (u : ObjectType) × (structure_type (scope_in f) value ≡ Some u)
  its_type = structure_known value (scope_in f) sound.0

  is_type : structure_type (scope_in f) value ≡ Some its_type.0
  is_type = its_type.1

  pub copy_cells : (does.target (activation_of f) copy).cells ≡ size_of its_type.0
  copy_cells = slot_cells f m room copy its_type.0 ready (sym sound.2 ∙ is_type)

  pub from_placed : IsPlaced (scope_in f) (activation_of f) from (Some its_type.0)
  from_placed types ok = subst (StandsSome types from) is_type (placed types ok)

  pub copy_placed : IsPlaced (scope_in f) (activation_of f) (f.base + copy.start) (Some its_type.0)
  copy_placed = slot_placed (scope_in f) (activation_of f) copy its_type.0 (sound.1, sym sound.2 ∙ is_type)

  pub source_there : from + (does.target (activation_of f) copy).cells ≤ length m.cells.cells
  source_there =
      let s = from_placed ready.types ready.typed in
      let e = copy_cells in
      omega (arith, s.within, ready.has.room, e)

  pub copy_there : f.base + copy.start + (does.target (activation_of f) copy).cells ≤ length m.cells.cells
  copy_there =
      let s = copy_placed ready.types ready.typed in
      let e = copy_cells in
      omega (arith, s.within, ready.has.room, e)

  pub copy_keeps : (n : Store) → ((c : Scope) (w : Activation) (u : ObjectType) → (does.target (activation_of f) copy).cells ≡ size_of u →
      IsPlaced c w from (Some u) → IsPlaced c w (f.base + copy.start) (Some u) → IsKept c w m n) →
      IsKept (scope_in f) (activation_of f) m n
  copy_keeps n k = k (scope_in f) (activation_of f) its_type.0 copy_cells from_placed copy_placed

-- ---- arrays that are handed on

present : {A : Type 0} (xs : List A) (k : ℕ) → k < length xs → (x : A) × (slice_get xs k ≡ Some x)
present [] k h = absurd (omega (arith, h))
present (x ∷ xs) zero h = (x, refl)
present (x ∷ xs) (suc k) h = present xs k (omega (arith, h))

pub again_there : (f : Frame) (m : Store) (room array : ℕ) → IsReady f m room → array < length (scope_in f).arrays →
    array < length f.arrays.now
again_there f m room array r h =
    let u = present (scope_in f).arrays array h in
    lent_there f m room array (size_of u.0) r (ap (option_map size_of) u.1)

pub again_is : (lents : List code.Lent) (array : ℕ) (l : code.Lent) → slice_get lents array ≡ Some l →
    slice_get (map lent_of lents) array ≡ Some (lent_of l)
again_is lents array l e = slice_get-map lent_of lents array ∙ ap (option_map lent_of) e

pub again_typed : (f : Frame) (array : ℕ) (l : code.Lent) → array < length (scope_in f).arrays →
    slice_get f.arrays.now array ≡ Some l → (types : List IntType) → AreTyped (scope_in f) (activation_of f) types →
    StandsArray types l (slice_get (scope_in f).arrays array)
again_typed f array l h e types ok =
    let u = present (scope_in f).arrays array h in
    subst (StandsArray types l) (sym u.1) (subst (λ o. IsLent types o u.0) (again_is f.arrays.now array l e) (ok.arrays array u.0 u.1))

-- ---- what an argument does

module _ {P : Type 0} (leads : List ℕ → P → P → Type 0) (stays : (p : P) → leads [] p p)
    (joins : (xs ys : List ℕ) (p q r : P) → leads xs p q → leads ys q r → leads (xs ++ ys) p r) where
  pub did_again : (lent : Option (memory.Lent ℕ)) (l : memory.Lent ℕ) (m : Store) (p : P) → lent ≡ Some l →
      Did leads (again_argument_does lent (state_of m)) (Some (PassedArray l)) m p p
  did_again lent l m p e =
      subst (λ (o : Option (memory.Lent ℕ)). Did leads (again_argument_does o (state_of m)) (Some (PassedArray l)) m p p) (sym e)
      (did_gives leads stays joins (PassedArray l) m p)
