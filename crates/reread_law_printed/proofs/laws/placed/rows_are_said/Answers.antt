use Rattle.reread_law_printed.proofs.Placed.Numbers.{rows_said}
use Rattle.reread_law_printed.proofs.laws.placed.rows_are_said.Goals as goal

pub returns : goal.returns
returns c tree h = rows_said tree h
