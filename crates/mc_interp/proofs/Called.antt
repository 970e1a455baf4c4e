-- What a call is given, and what it keeps.
use Rattle.std.proofs.Common.{◌≡◌, ℕ, ◌+◌, ◌<◌, ◌≤◌, List, sym, subst, arith, Option, Some, None, option_map}
use Rattle.std.specs.Prelude.{slice_get, IfSome}
use Rattle.std.proofs.lemmas.List.{length-map}
use Rattle.mc_limits.specs.Limits.{most_run_cells}
use Rattle.mc_value.specs.declared.int_type.IntType.{IntType}
use Rattle.mc_typed.specs.declared.expressions.Slot.{Slot}
use Rattle.mc_span.specs.declared.span.Span.{Span}
use denote.Ref.{Bor}
use Rattle.mc_typed.specs.Tree.{ResultType}
use Rattle.mc_typed.specs.Tree as t
use Rattle.mc_typed.specs.Views as plain
use Rattle.mc_typed.specs.Sound.{Scope, IsCall, Takes, result_at, parameters_at}
use Rattle.mc_probe.specs.Flat.{Activation}
use Rattle.mc_interp.specs.declared.store.Store.{Store}
use Rattle.mc_interp.specs.declared.frame.Frame.{Frame}
use Rattle.mc_interp.specs.declared.frame.Called.{Called}
use Rattle.mc_interp.specs.declared.values.Passed.{Passed}
use Rattle.mc_interp.specs.Typed.{AreTyped, IsAnyCall, ArePassedFor}
use Rattle.mc_interp.specs.Frames.{activation_of, scope_in, IsReady, IsKept}
use Rattle.mc_interp.specs.Calls.{ArePassed, IsInto, AreGiven, IsCalled, CallKeeps}
use Rattle.mc_interp.proofs.Arguments.{are_passed, slot_placed}
use Rattle.mc_interp.proofs.Kept.{kept_then}

-- ---- calls that are sound

pub any_call : (k : t.FunctionCall) (c : Scope) (r : ResultType) → IsCall k c r → IsAnyCall k c
any_call (t.call f given result span) c r h = (h.0, h.1, subst (λ r. Takes result r c) (sym h.3) h.2)

-- ---- what a call is given

into_is : (c : Scope) (w : Activation) (types : List IntType) → AreTyped c w types → (result : Option Slot) (r : ResultType) →
    Takes result r c → IsInto types (option_map (λ slot. w.base + slot.start) result) r
into_is c w types ok (Some slot) (t.StructureResult u) h = slot_placed c w slot u h types ok
into_is c w types ok (Some slot) t.NoResult h = absurd h
into_is c w types ok (Some slot) (t.NumberResult a) h = absurd h
into_is c w types ok None (t.StructureResult u) h = absurd h
into_is c w types ok None t.NoResult h = tt
into_is c w types ok None (t.NumberResult a) h = tt

pub into_small : (f : Frame) (m : Store) (room g : ℕ) (given : t.Arguments) (result : Option Slot) (span : Span) → IsReady f m room →
    IsAnyCall (t.call g given result span) (scope_in f) → IfSome result (λ slot. f.base + slot.start ≤ most_run_cells)
into_small f m room g given result span r h = go result (result_at (slice_get (scope_in f).functions g)) h.2
  where
    go : (result : Option Slot) (u : ResultType) → Takes result u (scope_in f) → IfSome result (λ slot. f.base + slot.start ≤ most_run_cells)
    go (Some slot) (t.StructureResult u) h =
        let s = slot_placed (scope_in f) (activation_of f) slot u h r.types r.typed in
        omega (arith, s.within, r.has.room, r.small)
    go (Some slot) t.NoResult h = absurd h
    go (Some slot) (t.NumberResult a) h = absurd h
    go None u h = tt

-- a call that an activation makes
abbrev pub made : Frame → ℕ → Option ℕ → Bor (List Passed) → Called
made f function into passed = record {
  program = f.program;
  shapes = f.shapes;
  depth = f.depth;
  levels = f.levels;
  function = function;
  into = into;
  passed = passed;
}

module _ (f : Frame) (g : ℕ) (arguments : t.Arguments) (result : Option Slot) (span : Span)
    (sound : IsAnyCall (t.call g arguments result span) (scope_in f)) (into : Option ℕ)
    (there : into ≡ option_map (λ slot. f.base + slot.start) result) (passed : Bor (List Passed)) (xs : List Passed)
    (same : passed.now ≡ xs) where
  given_of_call : (types : List IntType) → AreTyped (scope_in f) (activation_of f) types →
      ArePassedFor (scope_in f) types xs arguments → AreGiven (made f g into passed) types
  given_of_call types ok h = record {
    statics = ok.statics;
    passed = subst (λ l. ArePassed types l (parameters_at (slice_get (scope_in f).functions g))) (sym same)
        (are_passed (scope_in f) types xs arguments _ sound.1 h);
    into = subst (λ i. IsInto types i (result_at (slice_get (scope_in f).functions g))) (sym there)
        (into_is (scope_in f) (activation_of f) types ok result _ sound.2);
  }

  pub is_called : (m : Store) (room : ℕ) → IsReady f m room →
      ((types : List IntType) → AreTyped (scope_in f) (activation_of f) types → ArePassedFor (scope_in f) types xs arguments) →
      IsCalled (made f g into passed) m room
  is_called m room r h = record {
    sound = r.sound;
    shapes = r.shapes;
    there = subst (λ n. g < n) (length-map f.program.now.program.functions plain.function_of) sound.0;
    limit = r.limit;
    small = r.small;
    registers_fit = r.registers_fit;
    registers_small = r.registers_small;
    registers_limit = r.registers_limit;
    output = r.output;
    bits = r.bits;
    types = r.types;
    typed = given_of_call r.types r.typed (h r.types r.typed);
    has = r.has;
  }

  pub call_kept : (m n : Store) → CallKeeps (made f g into passed) m n →
      ((types : List IntType) → AreTyped (scope_in f) (activation_of f) types → ArePassedFor (scope_in f) types xs arguments) →
      IsKept (scope_in f) (activation_of f) m n
  call_kept m n h p = record {
    cells = h.cells;
    limit = h.limit;
    registers = h.registers;
    registers_limit = h.registers_limit;
    output = h.output;
    fuel = h.fuel;
    typed = λ types ok has. h.typed types (given_of_call types ok (p types ok)) has;
  }

  pub if_call_kept : (l m n : Store) (r : Option (Unit {0})) → IsKept (scope_in f) (activation_of f) l m →
      IfSome r (λ _. CallKeeps (made f g into passed) m n) →
      ((types : List IntType) → AreTyped (scope_in f) (activation_of f) types → ArePassedFor (scope_in f) types xs arguments) →
      IfSome r (λ _. IsKept (scope_in f) (activation_of f) l n)
  if_call_kept l m n None k h p = tt
  if_call_kept l m n (Some u) k h p = kept_then (scope_in f) (activation_of f) l m n k (call_kept m n h p)
