-- What reading a file up to a limit does to the bytes that are left in it, where they are told.
use Rattle.std.specs.Prelude.{◌≡◌, ℕ, ◌+◌, ◌≤◌, List, length, Option, Result, Ok, Err, Vec}
use Rattle.std.specs.Io.KnownBytes.{Consumes, IsAtEnd}
use Rattle.std.specs.declared.alloc.Global.{Global}
use Rattle.mc_port.specs.declared.store.LoadFault.{LoadFault}
use Rattle.mc_port.specs.declared.store.LoadFault.TheVariants.{Failed, TooLong, OutOfMemory}

-- at most n of the bytes that were left are taken
abbrev pub ConsumesAtMost : Option (List ℕ) → Option (List ℕ) → ℕ → Type 0
ConsumesAtMost before after n = (taken : List ℕ) × Consumes before after taken × (length taken ≤ n)

-- at Ok all that was left, within the limit; `TooLong` after limit + 1 bytes; at every answer no
-- more than those
abbrev pub ReadsUpTo : Option (List ℕ) → Option (List ℕ) → ℕ → Result (Vec ℕ Global) LoadFault
    → Type 0
ReadsUpTo before after limit (Ok bytes) =
    (length bytes.items ≤ limit) × Consumes before after bytes.items × IsAtEnd after
ReadsUpTo before after limit (Err Failed) = ConsumesAtMost before after (limit + 1)
ReadsUpTo before after limit (Err (TooLong at_least)) =
    (at_least ≡ limit + 1)
    × (taken : List ℕ) × Consumes before after taken × (length taken ≡ limit + 1)
ReadsUpTo before after limit (Err OutOfMemory) = ConsumesAtMost before after (limit + 1)
