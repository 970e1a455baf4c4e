use Rattle.reread_law_places.proofs.Still.Maps.{probes_stay}
use Rattle.reread_law_places.proofs.laws.still.probes_stay.Goals as goal

pub returns : goal.returns
returns c = probes_stay
