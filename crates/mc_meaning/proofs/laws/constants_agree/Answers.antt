use Rattle.mc_meaning.proofs.Constants.{constants_agree}
use Rattle.mc_meaning.proofs.laws.constants_agree.Goals as goal

pub returns : goal.returns
returns c = constants_agree
