use Rattle.laws_reread.proofs.HeadedFunctions.{texts_balanced}
use Rattle.laws_reread.proofs.headed.texts_are_balanced.Goals as goal

pub returns : goal.returns
returns c = texts_balanced c.programs_have_their_source.ensures
