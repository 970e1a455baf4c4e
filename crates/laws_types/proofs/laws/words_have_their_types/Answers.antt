use Rattle.std.specs.Prelude.{refl}
use Rattle.laws_types.proofs.laws.words_have_their_types.Goals as goal

pub returns-clause-narrow : goal.returns-clause-narrow
returns-clause-narrow c = (refl, refl, refl, refl, refl, refl, refl)

pub returns-clause-wide : goal.returns-clause-wide
returns-clause-wide c = (refl, refl, refl, refl, refl, refl)
