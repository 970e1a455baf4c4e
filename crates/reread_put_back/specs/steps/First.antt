-- The first fault of probes, as the code answers it.
use Rattle.std.specs.Prelude.{◌≡◌, ℕ, Option, Some}
use Rattle.reread_put_back.specs.declared.fault.BackFault.{BackFault}
use Rattle.reread_put_back.specs.declared.fault.BackFault.TheVariants as fault

abbrev pub IsFirst : Option ℕ → BackFault → Type 0
IsFirst first (fault.Probe at) = first ≡ Some at
IsFirst first fault.OutOfMemory = Unit {0}
