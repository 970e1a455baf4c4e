-- What stays over a part of a run.
use Rattle.std.proofs.Common.{◌≡◌, ℕ, ◌+◌, ◌<◌, ◌≤◌, ◌^◌, length, refl, ◌∙◌, arith, Option, Some, None}
use Rattle.std.specs.Prelude.{IfSome}
use Rattle.mc_typed.specs.Sound.{Scope}
use Rattle.mc_probe.specs.Flat.{Activation}
use Rattle.mc_interp.specs.declared.store.Store.{Store}
use Rattle.mc_interp.specs.declared.frame.Frame.{Frame}
use Rattle.mc_interp.specs.Frames.{activation_of, scope_in, IsReady, IsKept}

pub kept_then : (c : Scope) (w : Activation) (l m n : Store) → IsKept c w l m → IsKept c w m n → IsKept c w l n
kept_then c w l m n h k = record {
  cells = k.cells ∙ h.cells;
  limit = k.limit ∙ h.limit;
  registers = k.registers ∙ h.registers;
  registers_limit = k.registers_limit ∙ h.registers_limit;
  output = k.output ∙ h.output;
  fuel = omega (arith, h.fuel, k.fuel);
  typed = λ types t has. k.typed types t (h.typed types t has);
}

pub kept_same : (c : Scope) (w : Activation) (m : Store) → IsKept c w m m
kept_same c w m = record {
  cells = refl;
  limit = refl;
  registers = refl;
  registers_limit = refl;
  output = refl;
  fuel = omega arith;
  typed = λ types ok has. has;
}

pub if_kept : {A : Type 0} (c : Scope) (w : Activation) (l m n : Store) (r : Option A) → IsKept c w l m →
    IfSome r (λ _. IsKept c w m n) → IfSome r (λ _. IsKept c w l n)
if_kept c w l m n (Some a) h k = kept_then c w l m n h k
if_kept c w l m n None h k = tt

pub if_any : {A P : Type 0} (r : Option A) → P → IfSome r (λ _. P)
if_any (Some a) h = h
if_any None h = tt

pub ready_kept : (f : Frame) (m n : Store) (room new : ℕ) → IsReady f m room →
    IsKept (scope_in f) (activation_of f) m n → new ≡ room → IsReady f n new
ready_kept f m n room new h k e = record {
  sound = h.sound;
  whole = h.whole;
  shapes = h.shapes;
  limit = k.limit ∙ h.limit;
  small = omega (arith, k.cells, h.small);
  registers = omega (arith, k.registers, h.registers);
  registers_small = omega (arith, k.registers, h.registers_small);
  registers_limit = omega (arith, k.registers_limit, h.registers_limit);
  registers_fit = omega (arith, k.registers, k.registers_limit, h.registers_fit);
  output = k.output ∙ h.output;
  bits = omega (arith, e, h.bits);
  types = h.types;
  typed = h.typed;
  has = k.typed h.types h.typed h.has;
}

-- a register of an activation, where a part of its run gave something
pub register_there : {A : Type 0} (f : Frame) (m n : Store) (room r : ℕ) (o : Option A) → IsReady f m room →
    r < f.function.now.registers → IfSome o (λ _. IsKept (scope_in f) (activation_of f) m n) →
    IfSome o (λ _. f.first + r < length n.registers.items)
register_there f m n room r (Some a) h i k = omega (arith, h.registers, i, k.registers)
register_there f m n room r None h i k = tt

pub registers_few : {A : Type 0} (f : Frame) (m n : Store) (room : ℕ) (o : Option A) → IsReady f m room →
    IfSome o (λ _. IsKept (scope_in f) (activation_of f) m n) → IfSome o (λ _. length n.registers.items ≤ 2 ^ 42)
registers_few f m n room (Some a) h k = omega (arith, h.registers_small, k.registers)
registers_few f m n room None h k = tt
