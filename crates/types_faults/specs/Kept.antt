-- What a walk keeps of faults: the least alone.
use Rattle.std.specs.Prelude.{List, [], ◌∷◌, Option, Some, None}
use Rattle.types_faults.specs.declared.fault.Fault.{Fault}
use Rattle.types_faults.specs.Faults.{least_of}

abbrev pub listed : Option Fault → List Fault
listed None = []
listed (Some f) = f ∷ []

-- the least of some faults, and no other
abbrev pub least : List Fault → List Fault
least fs = listed (least_of fs)
