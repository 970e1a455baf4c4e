use Rattle.reread_law_texts.proofs.Alike.Heights.{unit_high}
use Rattle.reread_law_texts.proofs.laws.alike.height_is_kept.Goals as goal

pub returns : goal.returns
returns c = unit_high
