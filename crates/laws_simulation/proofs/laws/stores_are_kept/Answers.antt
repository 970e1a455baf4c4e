use Rattle.laws_simulation.proofs.Keep.{kept}
use Rattle.laws_simulation.proofs.laws.stores_are_kept.Goals as goal

pub returns : goal.returns
returns c = kept
