use Rattle.mc_unique.proofs.Pairs.{turns}
use Rattle.mc_unique.proofs.laws.pair_turns.Goals as goal

pub returns : goal.returns
returns c = turns
