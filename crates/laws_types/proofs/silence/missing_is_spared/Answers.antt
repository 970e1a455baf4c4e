use Rattle.laws_types.proofs.Spared.{missing_spared}
use Rattle.laws_types.proofs.silence.missing_is_spared.Goals as goal

pub returns : goal.returns
returns c = missing_spared
