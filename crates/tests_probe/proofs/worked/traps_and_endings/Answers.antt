use Rattle.std.specs.Prelude.{refl}
use Rattle.tests_probe.proofs.worked.traps_and_endings.Goals as goal

pub returns : goal.returns
returns c = refl
