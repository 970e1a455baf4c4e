use Rattle.laws_types.proofs.ExactUnits.{units_exact}
use Rattle.laws_types.proofs.laws.units_are_exact.Goals as goal

pub returns : goal.returns
returns c = units_exact
