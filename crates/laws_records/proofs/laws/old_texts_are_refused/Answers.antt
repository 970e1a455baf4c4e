use Rattle.laws_records.proofs.FirstLines.{old_texts_are_refused}
use Rattle.laws_records.proofs.laws.old_texts_are_refused.Goals as goal

pub returns : goal.returns
returns c = old_texts_are_refused
