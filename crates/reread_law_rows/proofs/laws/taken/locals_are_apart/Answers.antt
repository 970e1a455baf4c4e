use Rattle.reread_law_rows.proofs.Taken.LocalsApart.{locals_are_apart}
use Rattle.reread_law_rows.proofs.laws.taken.locals_are_apart.Goals as goal

pub returns : goal.returns
returns c = locals_are_apart
