use Rattle.std.specs.Prelude.{refl}
use Rattle.tests_probe.proofs.worked.decisions_anywhere.Goals as goal

pub returns : goal.returns
returns c = refl
