use Rattle.std.specs.Prelude.{refl}
use Rattle.tests_probe.proofs.worked.rules_of_statements.Goals as goal

pub returns-clause-rows : goal.returns-clause-rows
returns-clause-rows c = refl

pub returns-clause-trapped : goal.returns-clause-trapped
returns-clause-trapped c = refl
