use Rattle.reread_law_texts.proofs.Alike.Alike.{tokens_follow}
use Rattle.reread_law_texts.proofs.laws.alike.tokens_follow.Goals as goal

pub returns : goal.returns
returns c d before bytes tokens stop p = tokens_follow p
