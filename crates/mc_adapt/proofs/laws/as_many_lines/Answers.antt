use Rattle.mc_adapt.proofs.Lines.{as_many}
use Rattle.mc_adapt.proofs.laws.as_many_lines.Goals as goal

pub returns : goal.returns
returns c = λ source ps h. as_many source ps h
