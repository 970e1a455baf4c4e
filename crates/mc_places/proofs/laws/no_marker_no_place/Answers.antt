use Rattle.mc_places.proofs.Following.{no_file}
use Rattle.mc_places.proofs.laws.no_marker_no_place.Goals as goal

pub returns : goal.returns
returns c = λ text at none. no_file text at none
