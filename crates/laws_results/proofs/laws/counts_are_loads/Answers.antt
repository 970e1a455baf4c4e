use Rattle.laws_results.proofs.Lines.{counts_are}
use Rattle.laws_results.proofs.laws.counts_are_loads.Goals as goal

pub returns : goal.returns
returns c = counts_are
