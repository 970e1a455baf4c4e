use Rattle.reread_law_printed.proofs.Placed.Wording.{parts_spelled}
use Rattle.reread_law_printed.proofs.laws.placed.parts_are_spelled.Goals as goal

pub returns : goal.returns
returns c tokens tree own said = parts_spelled tokens tree own said
