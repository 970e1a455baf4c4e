use Rattle.reread_law_printed.proofs.Placed.Followed.{followed}
use Rattle.reread_law_printed.proofs.laws.placed.parts_are_followed.Goals as goal

pub returns : goal.returns
returns c text source tokens tree scan own stands balanced kinds separate = followed text source tokens tree scan own stands balanced kinds separate
