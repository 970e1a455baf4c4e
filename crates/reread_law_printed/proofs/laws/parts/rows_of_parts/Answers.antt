use Rattle.reread_law_printed.proofs.Parts.Told.{rows_told}
use Rattle.reread_law_printed.proofs.laws.parts.rows_of_parts.Goals as goal

pub returns : goal.returns
returns c tokens tree = rows_told tokens tree
