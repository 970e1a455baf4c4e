use Rattle.laws_verdicts.proofs.Counting.{counts_add_up}
use Rattle.laws_verdicts.proofs.laws.counts_add_up.Goals as goal

pub returns : goal.returns
returns c = counts_add_up
