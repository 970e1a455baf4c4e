use Rattle.mc_value.proofs.Results.{rebuilt}
use Rattle.mc_value.proofs.laws.quotient_and_remainder_rebuild.Goals as goal

pub returns : goal.returns
returns c = rebuilt
