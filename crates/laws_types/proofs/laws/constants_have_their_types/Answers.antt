use Rattle.std.specs.Prelude.{refl}
use Rattle.laws_types.proofs.laws.constants_have_their_types.Goals as goal

pub returns : goal.returns
returns c = ((refl, refl), (refl, refl), (refl, refl, refl, refl), (refl, refl, refl, refl))
