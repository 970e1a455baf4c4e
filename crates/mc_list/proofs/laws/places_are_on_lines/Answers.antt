use Rattle.mc_list.proofs.Numbering.{on_line}
use Rattle.mc_list.proofs.laws.places_are_on_lines.Goals as goal

pub returns : goal.returns
returns c = λ source line at has within. on_line source line at has within
