use Rattle.reread_law_places.proofs.Still.Maps.{decisions_stay}
use Rattle.reread_law_places.proofs.laws.still.decisions_stay.Goals as goal

pub returns : goal.returns
returns c = decisions_stay
