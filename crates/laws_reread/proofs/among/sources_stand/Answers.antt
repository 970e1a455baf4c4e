use Rattle.laws_reread.proofs.AmongFunctions.{sources_stand}
use Rattle.laws_reread.proofs.among.sources_stand.Goals as goal

pub returns : goal.returns
returns c = sources_stand c.tokens_follow.ensures c.scanned_tokens_mean_their_kinds.ensures c.texts_stand.ensures
