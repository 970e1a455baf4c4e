use Rattle.laws_reread.proofs.SeparateFunctions.{rows_are_separate}
use Rattle.laws_reread.proofs.separate.rows_are_separate.Goals as goal

pub returns : goal.returns
returns c = rows_are_separate c.programs_have_their_source.ensures c.blocks_are_nested.ensures
