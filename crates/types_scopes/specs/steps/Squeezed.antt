-- What a walk keeps of faults: the least alone.
use Rattle.types_faults.specs.Kept.{least}
use Rattle.types_rules.specs.Values.{Found, Judged}

abbrev pub squeezed : Found → Found
squeezed x = record x { faults = least x.faults }

abbrev pub squeezed_part : {A : Type 0} → Judged A → Judged A
squeezed_part x = record x { faults = least x.faults }
