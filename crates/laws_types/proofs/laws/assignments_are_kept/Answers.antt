use Rattle.std.specs.Prelude.{refl}
use Rattle.laws_types.proofs.laws.assignments_are_kept.Goals as goal

pub returns : goal.returns
returns c = (refl, refl)
