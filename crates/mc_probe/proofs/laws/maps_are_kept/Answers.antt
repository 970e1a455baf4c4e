use Rattle.mc_probe.proofs.Kept.{kept}
use Rattle.mc_probe.proofs.laws.maps_are_kept.Goals as goal

pub returns : goal.returns
returns c = kept
