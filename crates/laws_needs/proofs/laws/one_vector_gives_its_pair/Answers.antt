use Rattle.laws_needs.proofs.Pairing.{one_gives_its_pair}
use Rattle.laws_needs.proofs.laws.one_vector_gives_its_pair.Goals as goal

pub returns : goal.returns
returns c = one_gives_its_pair
