use Rattle.std.specs.Prelude.{refl}
use Rattle.tests_meaning.proofs.worked.expectations_are_judged.Goals as goal

pub returns : goal.returns
returns c = (refl, refl, refl)
