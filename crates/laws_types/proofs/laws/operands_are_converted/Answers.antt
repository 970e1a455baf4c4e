use Rattle.std.specs.Prelude.{refl}
use Rattle.laws_types.proofs.laws.operands_are_converted.Goals as goal

pub returns : goal.returns
returns c = (refl, refl, refl)
