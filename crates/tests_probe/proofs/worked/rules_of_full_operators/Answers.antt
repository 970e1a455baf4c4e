use Rattle.std.specs.Prelude.{refl}
use Rattle.tests_probe.proofs.worked.rules_of_full_operators.Goals as goal

pub returns-clause-values : goal.returns-clause-values
returns-clause-values c = refl

pub returns-clause-nested : goal.returns-clause-nested
returns-clause-nested c = refl

pub returns-clause-operands : goal.returns-clause-operands
returns-clause-operands c = refl
