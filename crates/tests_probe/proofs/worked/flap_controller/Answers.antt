use Rattle.std.specs.Prelude.{refl}
use Rattle.tests_probe.proofs.worked.flap_controller.Goals as goal

pub returns : goal.returns
returns c = refl
