use Rattle.laws_verdicts.proofs.Counting.{kinds_add_up}
use Rattle.laws_verdicts.proofs.laws.kinds_add_up.Goals as goal

pub returns : goal.returns
returns c = kinds_add_up
