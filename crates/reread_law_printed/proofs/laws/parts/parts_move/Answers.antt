use Rattle.reread_law_printed.proofs.Parts.Carried.{parts_move}
use Rattle.reread_law_printed.proofs.laws.parts.parts_move.Goals as goal

pub returns : goal.returns
returns c m tokens tree other h fits follows moved = parts_move m tokens tree other h fits follows moved
