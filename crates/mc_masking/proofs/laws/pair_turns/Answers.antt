use Rattle.mc_masking.proofs.Pairs.{turns}
use Rattle.mc_masking.proofs.laws.pair_turns.Goals as goal

pub returns : goal.returns
returns c = turns
