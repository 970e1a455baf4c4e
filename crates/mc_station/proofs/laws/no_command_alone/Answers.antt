use Rattle.mc_station.proofs.Ends.{no_command_alone}
use Rattle.mc_station.proofs.laws.no_command_alone.Goals as goal

pub returns : goal.returns
returns c = no_command_alone
