use Rattle.mc_typed.proofs.Values
use Rattle.mc_typed.proofs.laws.constants_are_values.Goals as goal

pub returns : goal.returns
returns c = Values.constants_are_values
