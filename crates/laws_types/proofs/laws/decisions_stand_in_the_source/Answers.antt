use Rattle.laws_types.proofs.Decided.{decisions_stand_in_the_source}
use Rattle.laws_types.proofs.laws.decisions_stand_in_the_source.Goals as goal

pub returns : goal.returns
returns c = decisions_stand_in_the_source
