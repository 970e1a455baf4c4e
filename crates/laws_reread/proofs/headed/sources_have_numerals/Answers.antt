use Rattle.laws_reread.proofs.Words.{have_numerals}
use Rattle.laws_reread.proofs.headed.sources_have_numerals.Goals as goal

pub returns : goal.returns
returns c = have_numerals
