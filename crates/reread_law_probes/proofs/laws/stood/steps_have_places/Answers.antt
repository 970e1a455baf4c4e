use Rattle.std.proofs.Common.{refl}
use Rattle.reread_law_probes.proofs.laws.stood.steps_have_places.Goals as goal

pub returns : goal.returns
returns c = (refl, refl)
