use Rattle.laws_verdicts.proofs.Apart.{names_are_apart}
use Rattle.laws_verdicts.proofs.laws.names_are_apart.Goals as goal

pub returns : goal.returns
returns c = names_are_apart
