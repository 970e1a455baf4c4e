use Rattle.std.specs.Prelude.{refl}
use Rattle.tests_meaning.proofs.worked.output_is_limited.Goals as goal

pub returns : goal.returns
returns c = (refl, refl)
