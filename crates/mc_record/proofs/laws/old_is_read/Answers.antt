use Rattle.mc_record.proofs.Composed.{old_read}
use Rattle.mc_record.proofs.laws.old_is_read.Goals as goal

pub returns : goal.returns
returns c = old_read
