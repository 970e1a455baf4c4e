use Rattle.mc_unique.proofs.Words.{bits_below}
use Rattle.mc_unique.proofs.compare.same_below.Goals as goal

pub returns : goal.returns
returns c = bits_below c.args.one c.args.other c.args.k c.requires
