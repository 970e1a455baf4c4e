use Rattle.reread_law_printed.proofs.Placed.Inside.{inside}
use Rattle.reread_law_printed.proofs.laws.placed.parts_are_inside.Goals as goal

pub returns : goal.returns
returns c source tokens tree h b k sep = inside source tokens tree h b k sep
