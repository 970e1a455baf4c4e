use Rattle.reread_law_rows.proofs.Signed.Units.{unit_signs}
use Rattle.reread_law_rows.proofs.laws.signed.signs_are_those_of_the_tree.Goals as goal

pub returns : goal.returns
returns c = unit_signs c.programs_have_their_source.ensures
