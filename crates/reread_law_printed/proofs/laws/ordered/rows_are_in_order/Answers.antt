use Rattle.reread_law_printed.proofs.Ordered.Bodies.{rows_are_in_order}
use Rattle.reread_law_printed.proofs.laws.ordered.rows_are_in_order.Goals as goal

pub returns : goal.returns
returns c = rows_are_in_order
