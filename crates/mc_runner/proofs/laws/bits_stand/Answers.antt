use Rattle.mc_runner.proofs.Standing.{bits_stand}
use Rattle.mc_runner.proofs.laws.bits_stand.Goals as goal

pub returns : goal.returns
returns c = bits_stand
