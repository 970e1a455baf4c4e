use Rattle.std.proofs.Common.{◌∙◌}
use Rattle.reread_law_texts.proofs.Unwoven.Gone.{same_unit}
use Rattle.reread_law_texts.proofs.Unwoven.Kept.{text_kept}
use Rattle.reread_law_texts.proofs.laws.unwoven.trees_come_back.Goals as goal

pub returns-clause-none : goal.returns-clause-none
returns-clause-none c d tokens unit h p = text_kept d tokens unit h p

pub returns-clause-back : goal.returns-clause-back
returns-clause-back c d w tokens unit h p = same_unit w unit ∙ text_kept d tokens unit h p
