use Rattle.std.specs.Prelude.{refl}
use Rattle.tests_meaning.proofs.worked.states_of_tests.Goals as goal

pub returns-clause-judged : goal.returns-clause-judged
returns-clause-judged c = refl

pub returns-clause-trapped : goal.returns-clause-trapped
returns-clause-trapped c = refl
