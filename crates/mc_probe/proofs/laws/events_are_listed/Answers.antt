use Rattle.mc_probe.proofs.Counted.{events_listed}
use Rattle.mc_probe.proofs.laws.events_are_listed.Goals as goal

pub returns : goal.returns
returns c = events_listed
