use Rattle.mc_functions.proofs.Adding.{added_up}
use Rattle.mc_functions.proofs.laws.functions_are_all.Goals as goal

pub returns : goal.returns
returns c = λ m kind state some. added_up m kind state some
