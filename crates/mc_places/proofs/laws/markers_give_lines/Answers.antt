use Rattle.mc_places.proofs.Following.{marker_says}
use Rattle.mc_places.proofs.laws.markers_give_lines.Goals as goal

pub returns : goal.returns
returns c = λ text k number name is lt. marker_says text k number name is lt
