use Rattle.std.specs.Prelude.{refl}
use Rattle.tests_probe.proofs.worked.rules_of_endings.Goals as goal

pub returns-clause-rows : goal.returns-clause-rows
returns-clause-rows c = refl

pub returns-clause-large : goal.returns-clause-large
returns-clause-large c = refl
