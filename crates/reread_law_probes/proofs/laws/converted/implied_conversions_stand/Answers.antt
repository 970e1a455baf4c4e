use Rattle.reread_law_probes.proofs.Converted.Units.{units_stand}
use Rattle.reread_law_probes.proofs.laws.converted.implied_conversions_stand.Goals as goal

pub returns : goal.returns
returns c = units_stand c.programs_have_their_source.ensures c.units_are_exact.ensures
