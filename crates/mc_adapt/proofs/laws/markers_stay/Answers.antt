use Rattle.mc_adapt.proofs.Lines.{markers_stay}
use Rattle.mc_adapt.proofs.laws.markers_stay.Goals as goal

pub returns : goal.returns
returns c = λ s p e. markers_stay s p e
