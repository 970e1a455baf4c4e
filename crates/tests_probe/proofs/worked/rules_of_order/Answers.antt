use Rattle.std.specs.Prelude.{refl}
use Rattle.tests_probe.proofs.worked.rules_of_order.Goals as goal

pub returns : goal.returns
returns c = refl
