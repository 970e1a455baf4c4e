use Rattle.reread_law_printed.proofs.Placed.Whole.{placed}
use Rattle.reread_law_printed.proofs.laws.placed.parts_are_placed.Goals as goal

pub returns : goal.returns
returns c source tokens tree own stands short entries in_place = placed source tokens tree own stands short entries in_place
