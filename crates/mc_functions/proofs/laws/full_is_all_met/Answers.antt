use Rattle.mc_functions.proofs.Hundredths.{full, all_met}
use Rattle.mc_functions.proofs.laws.full_is_all_met.Goals as goal

pub returns : goal.returns
returns c = λ counts some. (λ is. full counts some is, λ is. all_met counts some is)
