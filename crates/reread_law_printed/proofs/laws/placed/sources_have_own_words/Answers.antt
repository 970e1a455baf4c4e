use Rattle.reread_law_printed.proofs.Placed.Owned.{sources_own}
use Rattle.reread_law_printed.proofs.laws.placed.sources_have_own_words.Goals as goal

pub returns : goal.returns
returns c text tokens scan = sources_own text tokens scan
