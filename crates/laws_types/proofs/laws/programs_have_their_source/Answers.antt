use Rattle.laws_types.proofs.SourceBodies.{programs_have_their_source}
use Rattle.laws_types.proofs.laws.programs_have_their_source.Goals as goal

pub returns : goal.returns
returns c = programs_have_their_source
