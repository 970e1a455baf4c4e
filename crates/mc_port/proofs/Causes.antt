-- The count rose in a call exactly where it grew or stands at its last value.
use Rattle.std.proofs.Common.{◌≡◌, ◌≤◌, ◌<◌, ◌-◌, ◌^◌, ◌⊎◌, ◌↔◌, ℕ, arith}
use Rattle.mc_port.specs.Causes.{Rose}

pub rose_means : (before now : ℕ) → before ≤ now → now ≤ 2 ^ 64 - 1 → Rose before now ↔ ((before < now) ⊎ (now ≡ 2 ^ 64 - 1))
rose_means before now later last = grind arith
