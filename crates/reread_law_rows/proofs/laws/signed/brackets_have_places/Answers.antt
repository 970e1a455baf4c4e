use Rattle.reread_law_rows.proofs.Signed.Units.{unit_few, unit_late}
use Rattle.reread_law_rows.proofs.laws.signed.brackets_have_places.Goals as goal

pub returns-clause-few : goal.returns-clause-few
returns-clause-few c = unit_few c.programs_have_their_source.ensures

pub returns-clause-ends : goal.returns-clause-ends
returns-clause-ends c = unit_late c.programs_have_their_source.ensures
