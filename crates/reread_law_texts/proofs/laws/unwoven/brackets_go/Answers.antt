use Rattle.reread_law_texts.proofs.Unwoven.Gone.{same_unit}
use Rattle.reread_law_texts.proofs.laws.unwoven.brackets_go.Goals as goal

pub returns : goal.returns
returns c w unit = same_unit w unit
