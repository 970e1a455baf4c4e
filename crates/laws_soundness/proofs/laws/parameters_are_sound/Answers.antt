use Rattle.laws_soundness.proofs.Parameters.{list_well}
use Rattle.laws_soundness.proofs.laws.parameters_are_sound.Goals as goal

pub returns : goal.returns
returns c = list_well
