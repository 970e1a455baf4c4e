use Rattle.reread_law_printed.proofs.Parts.Placing.{placed_shaped}
use Rattle.reread_law_printed.proofs.laws.parts.placed_parts_are_shaped.Goals as goal

pub returns : goal.returns
returns c source parts closed placed = placed_shaped source parts closed placed
