use Rattle.mc_mutate.proofs.Small.{counts_are_small}
use Rattle.mc_mutate.proofs.laws.counts_are_small.Goals as goal

pub returns : goal.returns
returns c = counts_are_small
