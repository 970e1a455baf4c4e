use Rattle.reread_law_printed.proofs.Placed.Typed.{typed}
use Rattle.reread_law_printed.proofs.laws.placed.values_are_typed.Goals as goal

pub returns : goal.returns
returns c source tokens tree h b k = typed source tokens tree h b k
