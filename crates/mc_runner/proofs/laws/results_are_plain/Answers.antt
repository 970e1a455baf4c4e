use Rattle.mc_runner.proofs.Standing.{results_are_plain}
use Rattle.mc_runner.proofs.laws.results_are_plain.Goals as goal

pub returns : goal.returns
returns c = results_are_plain
