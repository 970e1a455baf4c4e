-- Where there is room, a counter does not stop.
use Rattle.std.proofs.Common.{◌≡◌, ℕ, ◌+◌, ◌-◌, ◌<◌, ◌^◌, Bool, true, false, if◌then◌else◌, min, arith}
use Rattle.mc_steps.specs.Points.{unless_default, where_completes, where_counted}

pub statement_after : (b : Bool) (old new : ℕ) → old + (where_counted b).statements < 2 ^ 32 → new ≡ (if b then min (old + 1) (2 ^ 32 - 1) else old) → new ≡ old + (where_counted b).statements
statement_after true old new room is = omega (arith, room, is)
statement_after false old new room is = omega (arith, is)

pub label_after : (b : Bool) (old new : ℕ) → old + (unless_default b).labels < 2 ^ 32 → new ≡ (if b then old else min (old + 1) (2 ^ 32 - 1)) → new ≡ (if b then old else old + 1)
label_after true old new room is = is
label_after false old new room is = omega (arith, room, is)

pub labels_after : (b : Bool) (old new : ℕ) → old + (unless_default b).labels < 2 ^ 32 → new ≡ (if b then old else min (old + 1) (2 ^ 32 - 1)) → new ≡ old + (unless_default b).labels
labels_after true old new room is = omega (arith, is)
labels_after false old new room is = omega (arith, room, is)

pub exit_after : (b : Bool) (old new : ℕ) → old + (where_completes b).exits < 2 ^ 32 → new ≡ (if b then min (old + 1) (2 ^ 32 - 1) else old) → new ≡ old + (where_completes b).exits
exit_after true old new room is = omega (arith, room, is)
exit_after false old new room is = omega (arith, is)
