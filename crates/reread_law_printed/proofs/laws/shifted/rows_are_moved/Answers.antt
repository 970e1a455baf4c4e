use Rattle.reread_law_printed.proofs.Shifted.Whole.{rows_are_moved}
use Rattle.reread_law_printed.proofs.laws.shifted.rows_are_moved.Goals as goal

pub returns : goal.returns
returns c = rows_are_moved c.programs_have_their_source.ensures c.units_move.ensures.typing
