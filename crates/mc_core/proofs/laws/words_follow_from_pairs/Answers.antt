use Rattle.mc_core.proofs.Pairs.{same_words}
use Rattle.mc_core.proofs.laws.words_follow_from_pairs.Goals as goal

pub returns : goal.returns
returns c s v w one other same = same_words s v w one.sound other.sound one.fit other.fit same
