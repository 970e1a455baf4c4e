use Rattle.laws_reread.proofs.Words.{keep_kinds}
use Rattle.laws_reread.proofs.headed.sources_keep_kinds.Goals as goal

pub returns : goal.returns
returns c = keep_kinds
