use Rattle.reread_law_printed.proofs.Parts.Ended.{all_close}
use Rattle.reread_law_printed.proofs.laws.parts.parts_close.Goals as goal

pub returns : goal.returns
returns c tokens tree h balanced = all_close tokens tree h balanced
