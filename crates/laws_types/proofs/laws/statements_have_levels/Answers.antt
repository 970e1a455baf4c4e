use Rattle.std.specs.Prelude.{refl}
use Rattle.laws_types.proofs.laws.statements_have_levels.Goals as goal

pub returns : goal.returns
returns c = (refl, refl, refl, refl, refl, refl)
