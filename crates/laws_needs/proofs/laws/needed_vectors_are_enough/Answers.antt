use Rattle.laws_needs.proofs.Meeting.{needed_is_enough}
use Rattle.laws_needs.proofs.laws.needed_vectors_are_enough.Goals as goal

pub returns : goal.returns
returns c = needed_is_enough
