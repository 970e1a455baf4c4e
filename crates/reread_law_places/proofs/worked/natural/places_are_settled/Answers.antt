use Rattle.std.proofs.Common.{refl}
use Rattle.reread_law_places.proofs.worked.natural.places_are_settled.Goals as goal

pub returns-clause-short : goal.returns-clause-short
returns-clause-short c = refl

pub returns-clause-doubled : goal.returns-clause-doubled
returns-clause-doubled c = refl

pub returns-clause-moved : goal.returns-clause-moved
returns-clause-moved c = refl
