use Rattle.mc_meaning.proofs.Vectors.{answers_are_vectors}
use Rattle.mc_meaning.proofs.laws.answers_are_vectors.Goals as goal

pub returns : goal.returns
returns c = answers_are_vectors
