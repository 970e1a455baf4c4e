use Rattle.reread_program.proofs.Once.{reads_as_one}
use Rattle.reread_program.proofs.laws.reads_as_one.Goals as goal

pub returns : goal.returns
returns c = reads_as_one
