-- What each function of the walk keeps of the machine and of the probe.
use Rattle.std.specs.Prelude.{◌≡◌, ℕ, Option, IfSome}
use Rattle.mc_typed.specs.Sound.{Scope}
use Rattle.mc_probe.specs.Flat.{Activation}
use Rattle.mc_interp.specs.declared.store.Store.{Store}
use Rattle.mc_interp.specs.declared.frame.Frame.{Frame}
use Rattle.mc_interp.specs.Stores.{limits_of}
use Rattle.mc_interp.specs.Frames.{activation_of, scope_in, IsKept}

-- each row can have as many values as before
abbrev pub KeepsLimits : Store → Store → Type 0
KeepsLimits old new = limits_of new ≡ limits_of old

-- the probe has as many bits as before
abbrev pub KeepsBits : {P : Type 0} → (P → ℕ) → P → P → Type 0
KeepsBits bits old new = bits new ≡ bits old

-- where a part of an activation's run came out, it kept the rows and the types of the cells
abbrev pub KeepsRows : {A : Type 0} → Frame → Option A → Store → Store → Type 0
KeepsRows f result old new = IfSome result (λ _. IsKept (scope_in f) (activation_of f) old new)

-- what belongs to no activation keeps them for each
abbrev pub KeepsRowsForAll : Store → Store → Type 0
KeepsRowsForAll old new = (c : Scope) (w : Activation) → IsKept c w old new
