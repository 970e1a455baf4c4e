use Rattle.reread_law_rows.proofs.Carried.Units.{unit_fits}
use Rattle.reread_law_rows.proofs.laws.carried.rows_fit.Goals as goal

pub returns : goal.returns
returns c = unit_fits c.programs_have_their_source.ensures
