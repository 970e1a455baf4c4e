-- Assignments of a leaf to an object of the activation.
use Rattle.std.proofs.Common.{◌≡◌, ℕ, ◌+◌, ℤ, List, [], ◌++◌, subst, Option, Some}
use Rattle.mc_span.specs.declared.span.Span.{Span}
use Rattle.mc_value.specs.declared.int_type.IntType.{IntType}
use Rattle.mc_value.specs.declared.trap.Trap.TheVariants.{Unset}
use Rattle.mc_value.specs.Conversions.{converted}
use Rattle.mc_typed.specs.declared.expressions.Slot.{Slot}
use Rattle.mc_typed.specs.declared.operators.Operator.{Operator}
use Rattle.mc_typed.specs.Layout.{Scalar}
use Rattle.mc_typed.specs.Sound.{place_type, IsPlace}
use Rattle.mc_typed.specs.Tree as t
use Rattle.mc_steps.specs.Runs.{changes, with_result, with_some}
use Rattle.mc_steps.specs.Expressions.{operated}
use Rattle.mc_probe.specs.Expressions.{evaluate_place, evaluate}
use Rattle.mc_probe.specs.Flat.{Activation, flat}
use Rattle.mc_probe.specs.Statements.{perform}
use Rattle.mc_probe.specs.Tree as p
use Rattle.mc_interp.specs.declared.frame.Frame.{Frame}
use Rattle.mc_interp.specs.declared.store.Store.{Store}
use Rattle.mc_interp.specs.Frames.{activation_of, scope_in}
use Rattle.mc_interp.specs.Stores.{state_of, told, Did}
use Rattle.mc_interp.specs.Typed.{IsPlaced}
use Rattle.mc_interp.proofs.Doings.{did_update}
use Rattle.mc_interp.proofs.Placed.{placed_local}
use Rattle.mc_interp.proofs.Runs.{did_gives, did_told}

-- ---- where the object stands

pub slot_placed : (f : Frame) (slot : Slot) (place : Span) → IsPlace (t.Local slot place) (scope_in f) →
    IsPlaced (scope_in f) (activation_of f) (f.base + slot.start) (place_type (scope_in f) (t.Local slot place))
slot_placed f slot place s = placed_local (scope_in f) (activation_of f) slot s

pub scalar_placed : (f : Frame) (slot : Slot) (place : Span) (of : IntType) → IsPlace (t.Local slot place) (scope_in f) →
    place_type (scope_in f) (t.Local slot place) ≡ Some (Scalar of) →
    IsPlaced (scope_in f) (activation_of f) (f.base + slot.start) (Some (Scalar of))
scalar_placed f slot place of s e =
    subst (IsPlaced (scope_in f) (activation_of f) (f.base + slot.start)) e (slot_placed f slot place s)

-- ---- what was done

-- the right side gave a number, and the object was changed by it
pub did_changed : {P : Type 0} (leads : List ℕ → P → P → Type 0) (stays : (p : P) → leads [] p p)
    (joins : (xs ys : List ℕ) (p q r : P) → leads xs p q → leads ys q r → leads (xs ++ ys) p r) (w : Activation)
    (slot : Slot) (place span : Span) (e : p.Expression) (m n o : Store) (q : P) (of common : IntType) (operator : Operator)
    (x : ℤ) (result : Option (Unit {0})) → evaluate w e (state_of m) ≡ told (Some x) n →
    with_some Unset (flat.read (w.base + slot.start) (state_of n).memory) (λ y s.
    with_result (operated operator common (converted common y) x) (λ v s. changes (flat.put (w.base + slot.start) 1 (Some (converted of v))) s) s)
    (state_of n) ≡ told result o →
    Did leads (perform w (p.Update (p.Local slot place) of operator common e span) (state_of m)) result o q q
did_changed leads stays joins w slot place span e m n o q of common operator x result h put =
    did_update leads stays joins (evaluate_place w (p.Local slot place)) (evaluate w e) (state_of m) (w.base + slot.start) m n q q q
    (did_gives leads stays joins (w.base + slot.start) m q) of common operator x o result
    (did_told leads stays joins (evaluate w e (state_of m)) (Some x) n q h) put
