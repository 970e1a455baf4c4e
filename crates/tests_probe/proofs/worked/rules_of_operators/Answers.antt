use Rattle.std.specs.Prelude.{refl}
use Rattle.tests_probe.proofs.worked.rules_of_operators.Goals as goal

pub returns : goal.returns
returns c = refl
