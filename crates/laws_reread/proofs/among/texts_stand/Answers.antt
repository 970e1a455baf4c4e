use Rattle.laws_reread.proofs.AmongFunctions.{texts_stand}
use Rattle.laws_reread.proofs.among.texts_stand.Goals as goal

pub returns : goal.returns
returns c = texts_stand c.programs_have_their_source.ensures c.rows_fit.ensures c.texts_fit.ensures c.rows_are_in_order.ensures c.blocks_are_nested.ensures
