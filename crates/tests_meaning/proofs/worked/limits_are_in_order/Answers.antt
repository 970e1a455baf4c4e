use Rattle.std.specs.Prelude.{refl}
use Rattle.tests_meaning.proofs.worked.limits_are_in_order.Goals as goal

pub returns : goal.returns
returns c = λ inside m n. (refl, refl, refl, refl)
