use Rattle.reread_law_probes.proofs.Stood.Units.{units_apart}
use Rattle.reread_law_probes.proofs.laws.stood.programs_stand_apart.Goals as goal

pub returns : goal.returns
returns c = units_apart c.programs_have_their_source.ensures
