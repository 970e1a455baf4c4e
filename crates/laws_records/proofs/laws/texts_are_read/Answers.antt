use Rattle.laws_records.proofs.Wholes.{texts_are_read}
use Rattle.laws_records.proofs.laws.texts_are_read.Goals as goal

pub returns : goal.returns
returns c = texts_are_read
