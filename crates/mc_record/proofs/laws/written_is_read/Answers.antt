use Rattle.mc_record.proofs.Composed.{written_read}
use Rattle.mc_record.proofs.laws.written_is_read.Goals as goal

pub returns : goal.returns
returns c = written_read
