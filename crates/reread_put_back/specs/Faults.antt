-- The faults of probes that are put back.
use Rattle.std.specs.Prelude.{◌≡◌, ℕ, Result, Err}
use Rattle.mc_probe.specs.Tree.{Tree}
use Rattle.reread_put_back.specs.declared.fault.BackFault.{BackFault}
use Rattle.reread_put_back.specs.declared.fault.BackFault.TheVariants as fault

-- The answer is this fault. Want of memory says nothing of the probes.
abbrev pub IsFault : Result Tree ℕ → BackFault → Type 0
IsFault answer (fault.Probe at) = answer ≡ Err at
IsFault answer fault.OutOfMemory = Unit {0}
