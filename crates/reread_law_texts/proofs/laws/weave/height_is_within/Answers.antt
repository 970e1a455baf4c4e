use Rattle.reread_law_texts.proofs.Weave.Heights.{unit_within}
use Rattle.reread_law_texts.proofs.laws.weave.height_is_within.Goals as goal

pub returns : goal.returns
returns c m w unit q l = unit_within m w unit q l
