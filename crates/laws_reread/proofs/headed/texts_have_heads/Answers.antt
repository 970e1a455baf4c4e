use Rattle.laws_reread.proofs.HeadedFunctions.{texts_headed}
use Rattle.laws_reread.proofs.headed.texts_have_heads.Goals as goal

pub returns : goal.returns
returns c = texts_headed c.programs_have_their_source.ensures
