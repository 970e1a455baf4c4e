use Rattle.mc_adapt.proofs.Lines.{stays_on_line}
use Rattle.mc_adapt.proofs.laws.pieces_stay_on_their_lines.Goals as goal

pub returns : goal.returns
returns c = λ before after m. stays_on_line before after m
