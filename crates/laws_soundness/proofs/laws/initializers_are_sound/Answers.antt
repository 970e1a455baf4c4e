use Rattle.laws_soundness.proofs.Initializers.{initializer_well}
use Rattle.laws_soundness.proofs.laws.initializers_are_sound.Goals as goal

pub returns : goal.returns
returns c = initializer_well
