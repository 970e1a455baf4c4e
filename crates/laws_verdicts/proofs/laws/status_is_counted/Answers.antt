use Rattle.laws_verdicts.proofs.Settled.{status_is_counted}
use Rattle.laws_verdicts.proofs.laws.status_is_counted.Goals as goal

pub returns : goal.returns
returns c = status_is_counted
