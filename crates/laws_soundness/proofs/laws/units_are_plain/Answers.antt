use Rattle.laws_soundness.proofs.PlainUnits.{units_plain}
use Rattle.laws_soundness.proofs.laws.units_are_plain.Goals as goal

pub returns : goal.returns
returns c = units_plain
