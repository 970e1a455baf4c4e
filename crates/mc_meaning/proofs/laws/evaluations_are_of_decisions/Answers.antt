use Rattle.mc_meaning.proofs.Programs.{evaluations_are_of_decisions}
use Rattle.mc_meaning.proofs.laws.evaluations_are_of_decisions.Goals as goal

pub returns : goal.returns
returns c = evaluations_are_of_decisions
