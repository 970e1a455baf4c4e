use Rattle.laws_needs.proofs.Placing.{wanted_is_needed}
use Rattle.laws_needs.proofs.laws.wanted_vectors_are_needed.Goals as goal

pub returns : goal.returns
returns c = wanted_is_needed
