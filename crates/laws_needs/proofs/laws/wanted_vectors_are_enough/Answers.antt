use Rattle.laws_needs.proofs.Closing.{wanted_is_enough}
use Rattle.laws_needs.proofs.laws.wanted_vectors_are_enough.Goals as goal

pub returns : goal.returns
returns c = wanted_is_enough
