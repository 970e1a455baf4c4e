use Rattle.mc_places.proofs.Following.{stands_on_line}
use Rattle.mc_places.proofs.laws.bytes_stand_on_lines.Goals as goal

pub returns : goal.returns
returns c = λ text at within. stands_on_line text at
