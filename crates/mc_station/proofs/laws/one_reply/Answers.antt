use Rattle.mc_station.proofs.Unique.{one_reply}
use Rattle.mc_station.proofs.laws.one_reply.Goals as goal

pub returns : goal.returns
returns c = one_reply c.words_follow_from_pairs.ensures
