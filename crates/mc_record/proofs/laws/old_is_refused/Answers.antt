use Rattle.mc_record.proofs.Composed.{old_refused}
use Rattle.mc_record.proofs.laws.old_is_refused.Goals as goal

pub returns : goal.returns
returns c = old_refused
