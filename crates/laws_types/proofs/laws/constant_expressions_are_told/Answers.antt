use Rattle.std.specs.Prelude.{refl}
use Rattle.laws_types.proofs.laws.constant_expressions_are_told.Goals as goal

pub returns : goal.returns
returns c = (refl, refl)
