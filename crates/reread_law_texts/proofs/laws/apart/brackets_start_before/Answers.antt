use Rattle.reread_law_texts.proofs.Apart.Enclosing.{text_kept}
use Rattle.reread_law_texts.proofs.laws.apart.brackets_start_before.Goals as goal

pub returns : goal.returns
returns c d tokens unit h p = text_kept d tokens unit h p
