use Rattle.mc_runner.proofs.Standing.{events_stand}
use Rattle.mc_runner.proofs.laws.events_stand.Goals as goal

pub returns : goal.returns
returns c = events_stand
