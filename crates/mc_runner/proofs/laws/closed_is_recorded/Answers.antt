use Rattle.mc_runner.proofs.Jobs.{closed_is_recorded}
use Rattle.mc_runner.proofs.laws.closed_is_recorded.Goals as goal

pub returns : goal.returns
returns c = closed_is_recorded
