-- What a call returns of what a definition gives.
use Rattle.std.specs.Prelude.{◌≡◌, List, Option, Some, None, Result, Ok, Err, Vec}
use Rattle.std.specs.Global.{Global}
use Rattle.reread_pieces.specs.declared.placed.Placed.{Placed}
use Rattle.reread_probes.specs.declared.fault.PlaceFault.{PlaceFault}
use Rattle.reread_probes.specs.declared.fault.PlaceFault.TheVariants as fault

-- nothing is given where the fault is one of shape; memory may be wanting anywhere
abbrev pub GivesFault : Option (List Placed) → PlaceFault → Type 0
GivesFault given fault.NoShape = given ≡ None
GivesFault given fault.OutOfMemory = Unit {0}

abbrev pub Gives : Option (List Placed) → Result (Vec Placed Global) PlaceFault → Type 0
Gives given (Ok v) = given ≡ Some v.items
Gives given (Err e) = GivesFault given e
